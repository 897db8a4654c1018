-- Drafts reissued, of the code: what every call of `reissue_header_body` and of `reissued_header_body_len` answers and leaves in its output, and
-- what a call of the body reader gives of that, by their contracts. Proved in proofs/Reissued. Assumes nothing.
use Rattle.std.specs.Prelude.{ℕ, ◌+◌, ◌*◌, ◌≤◌, ◌<◌, ◌≡◌, true, List, [], ◌∷◌, ◌++◌, leb, length, take, drop, Result, Ok, Err}
use Rattle.format.specs.Read.{accepted, operation}
use Rattle.format.specs.Serialize.{Bytes}
use Rattle.format.specs.Fields.{today, HeaderBody, fields_of}
use Rattle.format.specs.Context.{tolerant}
use Rattle.format.specs.Keys.{no_max}
use Rattle.format.specs.Body.{either, read_header_body}
use Rattle.format.specs.Checks.{Check, check}
use Rattle.format.specs.Lent.{filled, pair_table_after, key_table_after}
use Rattle.format.specs.Lengths.{JustWhere}
use Rattle.format.specs.Demand3.{Gives, stands_at}
use Rattle.format.specs.Reissuing.{Reissue, reissued, reissued_image, reissued_header_body, reissue_header_body}
use Rattle.format.specs.Reissued.{reading, reissue_checks, behind_reading, Reissued}
use Rattle.wire.specs.Codes.{because}
use Rattle.wire.specs.declared.refusals.Refusal.{Refusal}
use Rattle.wire.specs.declared.SuccessfulRead.{SuccessfulRead}
use Rattle.entries.specs.Codes.{Reads}
use Rattle.body_reader.specs.Codes.{body_code, ReadsBody}
use Rattle.body_reader.specs.declared.HeaderBody.{HeaderBody as BodyCode}
use Rattle.checks.specs.Answers.{written_as, whole}

-- a call of each meets its contract
abbrev pub Reissues : Reissue → List ℕ → ℕ → List ℕ → List ℕ → Result ℕ Refusal → Type 0
Reissues a m s before after r = Reads written_as whole (operation (reissue_header_body a (length before)) m s) before after r

abbrev pub Tells : Reissue → List ℕ → ℕ → Result ℕ Refusal → Type 0
Tells a m s r = r ≡ written_as (operation (reissued_header_body a) m s)

-- and 28
abbrev pub all_checks : Reissue → ℕ → HeaderBody → List Check
all_checks a room b = reissue_checks a b ++ (check 28 (leb (length (reissued_image a b)) room) ∷ [])

-- the body that a reissue has written is at the front of the output; what lies behind it keeps
pub record HasWritten (a : Reissue) (m : List ℕ) (s : ℕ) (before after : List ℕ) (n : ℕ) : Type 0 where
  pub body : HeaderBody
  pub tail : ℕ
  pub read : reading m s ≡ accepted body tail
  pub means : Reissued a m s body tail
  pub length_is : n ≡ length (reissued_image a body)
  pub fits : n ≤ length before
  pub output : after ≡ filled (reissued_image a body) before

pub record ReissuePromise (a : Reissue) (m : List ℕ) (s : ℕ) (before after : List ℕ) (r : Result ℕ Refusal) : Type 0 where
  -- the reading's refusals, then the checks in their order
  pub answers : r ≡ written_as (behind_reading (all_checks a (length before)) a (reading m s))
  pub other_direction : length m ≤ 4294967295 → stands_at 2 m s ≡ true → r ≡ Err (because 4 0)
  pub writes : (n : ℕ) → r ≡ Ok n → HasWritten a m s before after n
  -- a refusal changes no byte
  pub keeps : (q : Refusal) → r ≡ Err q → after ≡ before

-- what is told, beside what any call with an output answers
pub record Told (before after : List ℕ) (told r : Result ℕ Refusal) : Type 0 where
  pub refuses : (q : Refusal) → told ≡ Err q → (r ≡ Err q) × (after ≡ before)
  pub too_short : (n : ℕ) → told ≡ Ok n → JustWhere (r ≡ Err (because 28 0)) (length before < n)
  pub reports : (n : ℕ) → told ≡ Ok n → n ≤ length before → r ≡ Ok n
  pub refusal_told : (q : Refusal) → r ≡ Err q → (q.number ≡ 28 → ⊥) → told ≡ Err q
  pub length_told : (n : ℕ) → r ≡ Ok n → told ≡ Ok n

-- the message's elements are bytes, as its type says
pub record ReissuedPromises : Type 0 where
  pub every_reissue : (a : Reissue) (m : List ℕ) (s : ℕ) (before after : List ℕ) (r : Result ℕ Refusal) → Bytes m → Reissues a m s before after r → ReissuePromise a m s before after r
  pub every_size : (a : Reissue) (m : List ℕ) (s : ℕ) (before after : List ℕ) (told r : Result ℕ Refusal) → Tells a m s told → Reissues a m s before after r → Told before after told r
  -- the bytes written, alone, as the output has them, or wherever they are put in a message of at most 4,294,967,295 bytes, read tolerantly in either
  -- version, without a maximum and with tables that hold the entries: the reader gives those fields and their end, and fills its tables
  pub read_back : (a : Reissue) (m : List ℕ) (s : ℕ) (before after : List ℕ) (n : ℕ) → Reissues a m s before after (Ok n) → (w : HasWritten a m s before after n)
      → (message : List ℕ) (start : ℕ) (rest : List ℕ) → length message ≤ 4294967295 → drop start message ≡ take n after ++ rest
      → (pairs pairs' keys keys' : List ℕ) → 4 * length w.body.pairs ≤ length pairs → 6 * length w.body.keys ≤ length keys
      → (x : Result (SuccessfulRead BodyCode) Refusal) → ReadsBody (operation (read_header_body either tolerant no_max (length pairs) (length keys)) message start) pairs pairs' keys keys' x
      → (c : HeaderBody) × (x ≡ Ok (record { value = body_code c; tail = start + n })) × Gives message c (reissued a (fields_of w.body)) × (c.form ≡ today)
      × (pairs' ≡ pair_table_after (accepted c (start + n)) pairs) × (keys' ≡ key_table_after (accepted c (start + n)) keys)
