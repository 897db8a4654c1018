-- Desks assemble the same draft differently, and come to the same bytes: pairs joined, pairs rearranged, keys dropped in either order, of
-- the definitions that the contracts cite. The request's words stand in front of each part. Proved in proofs/Arrangement. Assumes nothing.
use Rattle.std.specs.Prelude.{◌≡◌, ◌⊎◌, ℕ, ◌%◌, ◌≤◌, length, take, drop}
use Rattle.std.proofs.Math.Option.{none}
use mathlib.Core.List.{List, ◌∷◌, ◌++◌, map, Memᴰ, Permᴰ}
use Rattle.format.specs.Read.{Answer, accepted, refused, operation}
use Rattle.format.specs.Serialize.{Bytes}
use Rattle.format.specs.Fields.{Form, Pair, PairAt, pair_of, EncryptedDataKey, Fields, HeaderBody, fields_of, with_pairs, with_keys}
use Rattle.format.specs.Context.{write_aad_pairs, write_empty_ec_or_write_aad, write_aad_section, tolerant, read_aad_section}
use Rattle.format.specs.Body.{image}
use Rattle.format.specs.Checks.{first, pairs_checks, Accepts}
use Rattle.format.specs.Lent.{pairs_in, parts_in, filled}
use Rattle.format.specs.OnlyAuthenticated.{context_to_only_authenticate, write_only_authenticated}
use Rattle.format.specs.Mending.{read_draft, without_provider, dropped_image, drop_encrypted_data_keys, mended, buffer_after}
use Rattle.format.specs.Demand3.{Each}
use Rattle.format.specs.Pinned.{InText}

-- A list and a rearrangement of it: the library's permutation, which is given step by step and not by a test. No items are a rearrangement of
-- none; the same item stands in front of both lists, of which one rearranges the other; the first two items are exchanged; one
-- rearrangement follows another.
abbrev pub Rearranged : {A : Type 0} → List A → List A → Type 0
Rearranged xs ys = Permᴰ xs ys

-- the list is accepted: no refusal of the section writer applies to it, 26 and 28 left aside
abbrev pub Accepted : List Pair → Type 0
Accepted ps = first (pairs_checks ps) ≡ none

-- 1. 'The entry bytes of two pair lists joined are the two runs of bytes joined, if the joined list is accepted.'
pub record Joined (ps qs : List Pair) : Type 0 where
  pub entry_bytes : write_aad_pairs (ps ++ qs) ≡ write_aad_pairs ps ++ write_aad_pairs qs
  -- in a section they stand behind its length and its count; an empty list has neither count nor entries
  pub in_sections : drop 4 (write_aad_section (ps ++ qs)) ≡ drop 4 (write_aad_section ps) ++ drop 4 (write_aad_section qs)
  -- each of the two is accepted then, and is no longer
  pub first_accepted : Accepted ps
  pub second_accepted : Accepted qs
  pub first_not_longer : length (write_aad_section ps) ≤ length (write_aad_section (ps ++ qs))
  pub second_not_longer : length (write_aad_section qs) ≤ length (write_aad_section (ps ++ qs))

-- 2. 'Any rearrangement of an accepted list has the same section length and, for the same required keys, the same authenticated-only bytes.'
-- The required keys are the same however often and in whatever order they are named.
pub record SameKeys (keys others : List (List ℕ)) : Type 0 where
  pub onward : (k : List ℕ) → Memᴰ k keys → Memᴰ k others
  pub back : (k : List ℕ) → Memᴰ k others → Memᴰ k keys

pub record SameSection (ps qs : List Pair) : Type 0 where
  -- a rearrangement is accepted
  pub still_accepted : Accepted qs
  pub section_length : length (write_aad_section qs) ≡ length (write_aad_section ps)
  -- the length that is stored, and the count
  pub in_front : take 4 (write_aad_section qs) ≡ take 4 (write_aad_section ps)
  pub only_authenticated : (keys others : List (List ℕ)) → SameKeys keys others
      → write_empty_ec_or_write_aad (context_to_only_authenticate others qs) ≡ write_empty_ec_or_write_aad (context_to_only_authenticate keys ps)

-- a draft with its pairs rearranged is accepted, as long, and the same but for the entry bytes
pub record SameDraft (form : Form) (f : Fields) (qs : List Pair) : Type 0 where
  pub still_accepted : Accepts form (with_pairs qs f)
  pub as_long : length (image form (with_pairs qs f)) ≡ length (image form f)
  pub front : List ℕ
  pub back : List ℕ
  pub before : image form f ≡ front ++ (write_aad_pairs f.pairs ++ back)
  pub afterwards : image form (with_pairs qs f) ≡ front ++ (write_aad_pairs qs ++ back)

-- a section that was read, and what is required of it
pub record Asked : Type 0 where
  pub message : List ℕ
  pub start : ℕ
  pub pairs : List PairAt
  pub tail : ℕ
  pub text : List ℕ
  pub required : List ℕ

pub record Reads (a : Asked) : Type 0 where
  pub bytes : Bytes a.message
  pub read : operation (read_aad_section tolerant) a.message a.start ≡ accepted a.pairs a.tail
  pub in_text : InText 2 a.text a.required

abbrev pub asks : Asked → ℕ → Answer (List ℕ)
asks a room = operation (write_only_authenticated a.text a.required room) a.message a.start

-- the same pairs, rearranged, and the same required keys
pub record Alike (a b : Asked) : Type 0 where
  pub pairs : Rearranged (map pair_of a.pairs) (map pair_of b.pairs)
  pub keys : SameKeys (parts_in a.text a.required) (parts_in b.text b.required)

-- into outputs of one length the operation then writes the same bytes, or refuses by the same number
pub record SameAnswer (a b : Asked) (room : ℕ) : Type 0 where
  pub writes : (bytes : List ℕ) (t : ℕ) → asks a room ≡ accepted bytes t → asks b room ≡ accepted bytes b.tail
  pub refuses : (k p : ℕ) → asks a room ≡ refused k p → asks b room ≡ refused k p

-- 3. 'Dropping station P then Q equals Q then P, bytes and tail, if some key remains after both.'
abbrev pub drop_keys : List ℕ → List ℕ → Answer (List ℕ)
drop_keys id buffer = operation (drop_encrypted_data_keys id) buffer 0

abbrev pub after_drop : List ℕ → List ℕ → List ℕ
after_drop id buffer = buffer_after (drop_keys id buffer) buffer

-- a key of the draft has neither ID
pub record Remains (p q : List ℕ) (ks : List EncryptedDataKey) : Type 0 where
  pub key : EncryptedDataKey
  pub there : Memᴰ key ks
  pub not_p : p ≡ key.keyProviderId → ⊥
  pub not_q : q ≡ key.keyProviderId → ⊥

-- the draft with neither's keys
abbrev pub neither : List ℕ → List ℕ → HeaderBody → List ℕ
neither p q b = image b.form (with_keys (without_provider q (without_provider p (fields_of b).keys)) (fields_of b))

-- Of a draft that was read as b and ends at t, p is dropped and then q. Both are accepted, and give that draft, whose length is the tail; 00 up to
-- where the first draft ended; and what lies past it as it was.
pub record DroppedBoth (p q buffer : List ℕ) (b : HeaderBody) (t : ℕ) (draft : List ℕ) : Type 0 where
  pub at_first : drop_keys p buffer ≡ accepted (dropped_image p b) t
  pub then : drop_keys q (after_drop p buffer) ≡ accepted draft (length (dropped_image p b))
  pub buffer_then : after_drop q (after_drop p buffer) ≡ filled (mended draft t) buffer

pub record EitherOrder (p q buffer : List ℕ) (b : HeaderBody) (t : ℕ) : Type 0 where
  pub p_first : DroppedBoth p q buffer b t (neither p q b)
  pub q_first : DroppedBoth q p buffer b t (neither p q b)
  pub same_buffer : after_drop q (after_drop p buffer) ≡ after_drop p (after_drop q buffer)

-- None remains: every key has one ID or the other
abbrev pub AllHave : List ℕ → List EncryptedDataKey → Type 0
AllHave id ks = Each (λ (k : EncryptedDataKey). id ≡ k.keyProviderId) ks

abbrev pub AllHaveEither : List ℕ → List ℕ → List EncryptedDataKey → Type 0
AllHaveEither p q ks = Each (λ (k : EncryptedDataKey). (p ≡ k.keyProviderId) ⊎ (q ≡ k.keyProviderId)) ks

-- Then one of the two drops is refused by 40 in either order, and a refusal changes no byte (specs/Mended).
-- All have p: dropping it is refused, first or second, and the draft stays; q is p, or is not there.
pub record AllOfOne (p q buffer : List ℕ) (b : HeaderBody) (t : ℕ) : Type 0 where
  pub p_refused : drop_keys p buffer ≡ refused 40 0
  pub q_absent : (p ≡ q → ⊥) → drop_keys q buffer ≡ accepted (dropped_image q b) t
  pub draft_stays : after_drop q buffer ≡ buffer

-- Both are there: the first is dropped, and the other refused, so that its keys remain. There the order shows.
pub record SecondRefused (p q buffer : List ℕ) (b : HeaderBody) (t : ℕ) : Type 0 where
  pub at_first : drop_keys p buffer ≡ accepted (dropped_image p b) t
  pub then : drop_keys q (after_drop p buffer) ≡ refused 40 0

pub record SomeOfBoth (p q buffer : List ℕ) (b : HeaderBody) (t : ℕ) : Type 0 where
  pub p_first : SecondRefused p q buffer b t
  pub q_first : SecondRefused q p buffer b t
  pub order_shows : after_drop q (after_drop p buffer) ≡ after_drop p (after_drop q buffer) → ⊥

pub record Arrangement : Type 0 where
  pub joined : (ps qs : List Pair) → Accepted (ps ++ qs) → Joined ps qs
  -- a writer's table of pairs behind another has the pairs of the one and then those of the other
  pub tables_joined : (text table other : List ℕ) → length table % 4 ≡ 0 → pairs_in text (table ++ other) ≡ pairs_in text table ++ pairs_in text other
  pub rearranged : (ps qs : List Pair) → Rearranged ps qs → Accepted ps → SameSection ps qs
  pub in_a_draft : (form : Form) (f : Fields) (qs : List Pair) → Rearranged f.pairs qs → Accepts form f → SameDraft form f qs
  pub of_sections : (a b : Asked) → Reads a → Reads b → Alike a b → (room : ℕ) → SameAnswer a b room
  -- required keys that are rearranged, or of which one is repeated, are the same
  pub keys_rearranged : (keys others : List (List ℕ)) → Rearranged keys others → SameKeys keys others
  pub key_repeated : (k : List ℕ) (keys : List (List ℕ)) → Memᴰ k keys → SameKeys keys (k ∷ keys)
  -- of any draft and any two IDs: equal ones, absent ones, and those that begin one another
  pub one_or_none : (p q : List ℕ) (ks : List EncryptedDataKey) → Remains p q ks ⊎ AllHaveEither p q ks
  pub either_order : (p q buffer : List ℕ) → Bytes buffer → (b : HeaderBody) (t : ℕ) → operation read_draft buffer 0 ≡ accepted b t
      → Remains p q (fields_of b).keys → EitherOrder p q buffer b t
  pub all_of_one : (p q buffer : List ℕ) → Bytes buffer → (b : HeaderBody) (t : ℕ) → operation read_draft buffer 0 ≡ accepted b t
      → AllHave p (fields_of b).keys → AllOfOne p q buffer b t
  pub some_of_both : (p q buffer : List ℕ) → Bytes buffer → (b : HeaderBody) (t : ℕ) → operation read_draft buffer 0 ≡ accepted b t
      → AllHaveEither p q (fields_of b).keys → (AllHave p (fields_of b).keys → ⊥) → (AllHave q (fields_of b).keys → ⊥) → SomeOfBoth p q buffer b t
