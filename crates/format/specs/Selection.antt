-- What is written of a section for the tags that are only authenticated, without a sorting function: exactly the pairs whose key is
-- required, each once, in the order of their keys; and this fixes them. Proved in proofs/KeyOrder, proofs/SelectionLaws and
-- proofs/Selection. Assumes nothing.
use Rattle.std.specs.Prelude.{◌≡◌, true, false, ◌⊎◌, ℕ, ◌+◌, ◌*◌, ◌/◌, ◌≤◌, ◌<◌, length, get_or}
use mathlib.Core.List.{List, [], ◌∷◌, ◌++◌, map, Memᴰ}
use Rattle.format.specs.Read.{accepted, refused, operation}
use Rattle.format.specs.Serialize.{Bytes, write_uint16}
use Rattle.format.specs.Fields.{Pair, PairAt, pair_of}
use Rattle.format.specs.Context.{seen, write_aad_pairs, write_empty_ec_or_write_aad, tolerant, read_aad_section}
use Rattle.format.specs.Lent.{bytes_at, parts_in}
use Rattle.format.specs.Sorted.{before}
use Rattle.format.specs.OnlyAuthenticated.{context_to_only_authenticate, in_twos, write_only_authenticated}
use Rattle.format.specs.Pinned.{Decides, InText}

-- The order of keys is total, and fixed: a beginning comes first, and else the first byte that differs decides
pub record KeyOrder : Type 0 where
  pub total : (a b : List ℕ) → (before a b ≡ true) ⊎ ((a ≡ b) ⊎ (before b a ≡ true))
  pub one_way : (a b : List ℕ) → before a b ≡ true → before b a ≡ false
  pub not_itself : (a : List ℕ) → before a a ≡ false
  pub passes_on : (a b c : List ℕ) → before a b ≡ true → before b c ≡ true → before a c ≡ true
  pub beginning : (a : List ℕ) (x : ℕ) (b : List ℕ) → before a (a ++ (x ∷ b)) ≡ true
  pub first_difference : (front : List ℕ) (x y : ℕ) (a b : List ℕ) → x < y → before (front ++ (x ∷ a)) (front ++ (y ∷ b)) ≡ true

-- each pair's key comes before the next one's
abbrev pub NextBehind : Pair → List Pair → Type 0
NextBehind p [] = Unit {0}
NextBehind p (q ∷ qs) = before p.key q.key ≡ true

abbrev pub Ascends : List Pair → Type 0
Ascends [] = Unit {0}
Ascends (p ∷ ps) = NextBehind p ps × Ascends ps

-- these are exactly the pairs of ps whose key is one of the keys, in that order
pub record Selects (keys : List (List ℕ)) (ps chosen : List Pair) : Type 0 where
  pub only : (p : Pair) → Memᴰ p chosen → Memᴰ p ps × Memᴰ p.key keys
  pub all : (p : Pair) → Memᴰ p ps → Memᴰ p.key keys → Memᴰ p chosen
  pub ascends : Ascends chosen

-- no two pairs have the same key
abbrev pub KeysDiffer : List Pair → Type 0
KeysDiffer [] = Unit {0}
KeysDiffer (p ∷ ps) = (seen p.key ps ≡ false) × KeysDiffer ps

-- THE OPERATION, of a message, a start, a required table with its text, and an output of that many bytes
pub record OnlyAuthenticatedLaw (text required : List ℕ) (room : ℕ) (m : List ℕ) (s : ℕ) : Type 0 where
  -- the refusals of a tolerant section read are its own
  pub refuses : (k p : ℕ) → operation (read_aad_section tolerant) m s ≡ refused k p → operation (write_only_authenticated text required room) m s ≡ refused k p
  -- it writes the pairs with the required keys, sorted: no bytes where there is none, and otherwise the count and the pairs
  pub writes : (ps : List PairAt) (t : ℕ) → operation (read_aad_section tolerant) m s ≡ accepted ps t → InText 2 text required
      → (chosen : List Pair) → Selects (parts_in text required) (map pair_of ps) chosen → length (write_empty_ec_or_write_aad chosen) ≤ room
      → operation (write_only_authenticated text required room) m s ≡ accepted (write_empty_ec_or_write_aad chosen) t
  -- and nothing else
  pub only_then : (image : List ℕ) (t : ℕ) → operation (write_only_authenticated text required room) m s ≡ accepted image t
      → (ps : List PairAt) × (operation (read_aad_section tolerant) m s ≡ accepted ps t) × InText 2 text required
      × (chosen : List Pair) × Selects (parts_in text required) (map pair_of ps) chosen × (image ≡ write_empty_ec_or_write_aad chosen) × (length image ≤ room)
  -- it is never longer than 65,535 bytes, so that its count is not cut, nor than the section that it was read from
  pub bounded : (image : List ℕ) (t : ℕ) → operation (write_only_authenticated text required room) m s ≡ accepted image t → (length image ≤ 65535) × (s + length image ≤ t)

pub record Selection : Type 0 where
  pub order : KeyOrder
  -- pairs that ascend are each there once
  pub each_once : (front : List Pair) (p : Pair) (back : List Pair) → Ascends (front ++ (p ∷ back)) → Memᴰ p (front ++ back) → ⊥
  -- what is selected is fixed
  pub fixed : (keys : List (List ℕ)) (ps a b : List Pair) → Selects keys ps a → Selects keys ps b → a ≡ b
  pub selects : (keys : List (List ℕ)) (ps : List Pair) → KeysDiffer ps → Selects keys ps (context_to_only_authenticate keys ps)
  -- how often and in which order the required keys are named changes nothing
  pub named : (keys others : List (List ℕ)) (ps : List Pair) → ((k : List ℕ) → Memᴰ k keys → Memᴰ k others) → ((k : List ℕ) → Memᴰ k others → Memᴰ k keys)
      → context_to_only_authenticate keys ps ≡ context_to_only_authenticate others ps
  -- a required key that no pair has changes nothing
  pub absent : (k : List ℕ) (keys : List (List ℕ)) (ps : List Pair) → seen k ps ≡ false → context_to_only_authenticate (k ∷ keys) ps ≡ context_to_only_authenticate keys ps
  -- the required keys are the parts of the text whose starts and lengths the table has, two numbers each
  pub how_many_keys : (text table : List ℕ) → length (parts_in text table) ≡ length table / 2
  pub which_keys : (text table : List ℕ) (i : ℕ) → i < length table / 2 → get_or (parts_in text table) i [] ≡ bytes_at text (get_or table (2 * i) 0) (get_or table (2 * i + 1) 0)
  -- 31
  pub in_twos_is : (text required : List ℕ) → Decides (in_twos text required) (InText 2 text required)
  -- the count and the pairs, with no section length in front
  pub bytes : (p : Pair) (ps : List Pair) → write_empty_ec_or_write_aad (p ∷ ps) ≡ write_uint16 (length (p ∷ ps)) ++ write_aad_pairs (p ∷ ps)
  pub no_bytes : write_empty_ec_or_write_aad [] ≡ []
  -- the pairs of a section that is accepted have keys that differ, and the operation writes what is selected of them
  pub keys_differ : (m : List ℕ) (s : ℕ) → Bytes m → (ps : List PairAt) (t : ℕ) → operation (read_aad_section tolerant) m s ≡ accepted ps t → KeysDiffer (map pair_of ps)
  pub operation_law : (text required : List ℕ) (room : ℕ) (m : List ℕ) (s : ℕ) → Bytes m → OnlyAuthenticatedLaw text required room m s
