-- Joining and dropping in any arrangement, of the code: what calls of `write_aad_section`, of `write_only_authenticated` and of
-- `drop_encrypted_data_keys` answer and leave beside each other, by their contracts. Proved in proofs/Arrangement. Assumes nothing.
use Rattle.std.specs.Prelude.{ℕ, ◌-◌, ◌≤◌, ◌≡◌, List, ◌++◌, map, length, take, Result, Ok, Err}
use Rattle.std.proofs.Math.Option.{none}
use Rattle.format.specs.Read.{accepted, operation}
use Rattle.format.specs.Serialize.{Bytes}
use Rattle.format.specs.Fields.{PairAt, pair_of, HeaderBody, fields_of}
use Rattle.format.specs.Context.{tolerant, read_aad_section}
use Rattle.format.specs.Checks.{first}
use Rattle.format.specs.Lent.{bytes_at, filled, pairs_in, parts_in, table_checks, writing_aad_section}
use Rattle.format.specs.Mending.{read_draft, dropped_image, mended}
use Rattle.format.specs.Pinned.{InText}
use Rattle.format.specs.Arrangement.{Rearranged, SameKeys, Remains, neither, AllHave, AllHaveEither}
use Rattle.wire.specs.Codes.{because}
use Rattle.wire.specs.declared.refusals.Refusal.{Refusal}
use Rattle.checks.specs.Answers.{Writes}
use Rattle.promises.specs.OnlyAuthenticated.{Call, Meets}
use Rattle.promises.specs.Mended.{Drops}

-- A call of the section writer: a text with a table of its pairs, the output before and after it, and its answer
pub record Section : Type 0 where
  pub text : List ℕ
  pub table : List ℕ
  pub before : List ℕ
  pub after : List ℕ
  pub answer : Result ℕ Refusal

abbrev pub Wrote : Section → Type 0
Wrote c = Writes (writing_aad_section c.text c.table) c.before c.after c.answer

-- of the n bytes that were written: the length and the count, and the entry bytes
abbrev pub front_bytes : Section → ℕ → List ℕ
front_bytes c n = take 4 (take n c.after)

abbrev pub entry_bytes : Section → ℕ → List ℕ
entry_bytes c n = bytes_at c.after 4 (n - 4)

-- its table is in fours, each place inside the text, and its output has that many bytes
pub record Lends (c : Section) (n : ℕ) : Type 0 where
  pub table_in_text : first (table_checks 4 c.text c.table) ≡ none
  pub room : n ≤ length c.before

-- 1. a table with the pairs of a first and then those of a second, as two tables of one text have, joined (format's specs/Arrangement)
pub record JoinedCalls (joined one two : Section) (n : ℕ) : Type 0 where
  pub first_tail : ℕ
  pub second_tail : ℕ
  pub first_written : one.answer ≡ Ok first_tail
  pub second_written : two.answer ≡ Ok second_tail
  pub bytes : entry_bytes joined n ≡ entry_bytes one first_tail ++ entry_bytes two second_tail

-- 2. calls for the same required keys, each with a table in twos, its places inside the text, and outputs of one length
pub record SameRequired (c d : Call) : Type 0 where
  pub first_table : InText 2 c.text c.required
  pub second_table : InText 2 d.text d.required
  pub same_keys : SameKeys (parts_in c.text c.required) (parts_in d.text d.required)
  pub as_long : length c.before ≡ length d.before

-- they answer alike, and leave the same bytes
pub record SameBytes (c d : Call) : Type 0 where
  pub same_answer : c.answer ≡ d.answer
  pub same_bytes : (n : ℕ) → c.answer ≡ Ok n → take n c.after ≡ take n d.after

-- a call on what a section writer left
pub record Of (c : Section) (x : Call) : Type 0 where
  pub message : x.message ≡ c.after
  pub start : x.start ≡ 0
  pub bytes : Bytes x.message
  pub addressable : length x.message ≤ 4294967295

-- 3. two drops, one after the other
pub record TwoDrops (p q before : List ℕ) : Type 0 where
  pub between : List ℕ
  pub after : List ℕ
  pub answer : Result ℕ Refusal
  pub then : Result ℕ Refusal
  pub first_call : Drops p before between answer
  pub second_call : Drops q between after then

-- Of a draft that was read as b and ends at t. A key remains: every call is accepted, and the draft with neither's keys is left in either order
pub record EitherOrder (p q before : List ℕ) (b : HeaderBody) (t : ℕ) (one : TwoDrops p q before) (other : TwoDrops q p before) : Type 0 where
  pub at_first : (one.answer ≡ Ok (length (dropped_image p b))) × (other.answer ≡ Ok (length (dropped_image q b)))
  pub tail : one.then ≡ Ok (length (neither p q b))
  pub same_tail : one.then ≡ other.then
  pub buffer : one.after ≡ filled (mended (neither p q b) t) before
  pub same_buffer : one.after ≡ other.after

-- None remains, and all have p: dropping it is refused by 40, first or second; the other call is refused too where q is p, and else gives the tail
-- that there was; the buffer is as it was
pub record AllOfOne (p q before : List ℕ) (t : ℕ) (one : TwoDrops p q before) (other : TwoDrops q p before) : Type 0 where
  pub p_refused : (one.answer ≡ Err (because 40 0)) × (other.then ≡ Err (because 40 0))
  pub q_refused : p ≡ q → (one.then ≡ Err (because 40 0)) × (other.answer ≡ Err (because 40 0))
  pub q_absent : (p ≡ q → ⊥) → (one.then ≡ Ok t) × (other.answer ≡ Ok t)
  pub buffer_stays : (one.after ≡ before) × (other.after ≡ before)

-- None remains, and both are there: the second is refused by 40, and leaves what the first left, which is not the same in the other order
pub record SomeOfBoth (p q before : List ℕ) (b : HeaderBody) (one : TwoDrops p q before) (other : TwoDrops q p before) : Type 0 where
  pub at_first : (one.answer ≡ Ok (length (dropped_image p b))) × (other.answer ≡ Ok (length (dropped_image q b)))
  pub then_refused : (one.then ≡ Err (because 40 0)) × (other.then ≡ Err (because 40 0))
  pub first_stays : (one.after ≡ one.between) × (other.after ≡ other.between)
  pub order_shows : one.after ≡ other.after → ⊥

pub record ArrangementPromises : Type 0 where
  pub joined : (joined one two : Section) → Wrote joined → Wrote one → Wrote two
      → pairs_in joined.text joined.table ≡ pairs_in one.text one.table ++ pairs_in two.text two.table
      → (n : ℕ) → joined.answer ≡ Ok n → Lends one n → Lends two n → JoinedCalls joined one two n
  pub rearranged : (c d : Section) → Wrote c → Wrote d → Rearranged (pairs_in c.text c.table) (pairs_in d.text d.table)
      → (n : ℕ) → c.answer ≡ Ok n → Lends d n → (d.answer ≡ Ok n) × (front_bytes d n ≡ front_bytes c n)
  pub only_authenticated : (c d : Call) → Bytes c.message → Bytes d.message → Meets c → Meets d → (ps qs : List PairAt) (t u : ℕ)
      → operation (read_aad_section tolerant) c.message c.start ≡ accepted ps t → operation (read_aad_section tolerant) d.message d.start ≡ accepted qs u
      → Rearranged (map pair_of ps) (map pair_of qs) → SameRequired c d → SameBytes c d
  -- so two desks that write the same pairs in their own order authenticate the same bytes
  pub of_what_was_written : (c d : Section) → Wrote c → Wrote d → Rearranged (pairs_in c.text c.table) (pairs_in d.text d.table)
      → (n : ℕ) → c.answer ≡ Ok n → d.answer ≡ Ok n → (x y : Call) → Meets x → Meets y → Of c x → Of d y → SameRequired x y → SameBytes x y
  pub either_order : (p q before : List ℕ) → Bytes before → (b : HeaderBody) (t : ℕ) → operation read_draft before 0 ≡ accepted b t → Remains p q (fields_of b).keys
      → (one : TwoDrops p q before) (other : TwoDrops q p before) → EitherOrder p q before b t one other
  pub all_of_one : (p q before : List ℕ) → Bytes before → (b : HeaderBody) (t : ℕ) → operation read_draft before 0 ≡ accepted b t → AllHave p (fields_of b).keys
      → (one : TwoDrops p q before) (other : TwoDrops q p before) → AllOfOne p q before t one other
  pub some_of_both : (p q before : List ℕ) → Bytes before → (b : HeaderBody) (t : ℕ) → operation read_draft before 0 ≡ accepted b t
      → AllHaveEither p q (fields_of b).keys → (AllHave p (fields_of b).keys → ⊥) → (AllHave q (fields_of b).keys → ⊥)
      → (one : TwoDrops p q before) (other : TwoDrops q p before) → SomeOfBoth p q before b one other
