-- The bytes of the pairs that are authenticated and not stored: those of a context section whose keys are required. Assumes nothing.
use Rattle.std.specs.Prelude.{Bool, false, cond, ◌&&◌, ◌||◌, List, [], ◌∷◌, map, ℕ, ◌%◌, leb, eqb, length}
use Rattle.format.specs.Read.{Reader, ◌>>=◌, ◌>>◌, return, test}
use Rattle.format.specs.Serialize.{every, same_bytes}
use Rattle.format.specs.Fields.{Pair, PairAt, pair_of}
use Rattle.format.specs.Context.{tolerant, read_aad_section, write_empty_ec_or_write_aad}
use Rattle.format.specs.Lent.{parts_in, places, in_text}
use Rattle.format.specs.Sorted.{sort_pairs}

-- whether a key is one of these
unfoldable pub is_among : List (List ℕ) → List ℕ → Bool
is_among [] k = false
is_among (x ∷ keys) k = same_bytes k x || is_among keys k

-- the pairs whose key is required
unfoldable pub only_required : List (List ℕ) → List Pair → List Pair
only_required keys [] = []
only_required keys (p ∷ ps) = cond (is_among keys p.key) (p ∷ only_required keys ps) (only_required keys ps)

-- in the specification's words, the encryption context to only authenticate, by the required encryption context keys
abbrev pub context_to_only_authenticate : List (List ℕ) → List Pair → List Pair
context_to_only_authenticate keys ps = only_required keys (sort_pairs ps)

-- its bytes, the keys being parts of a text
abbrev pub only_authenticated : List ℕ → List ℕ → List PairAt → List ℕ
only_authenticated text required ps = write_empty_ec_or_write_aad (context_to_only_authenticate (parts_in text required) (map pair_of ps))

-- a table of places: in twos, and each inside the text
abbrev pub in_twos : List ℕ → List ℕ → Bool
in_twos text required = eqb (length required % 2) 0 && every (in_text text required) (places required)

-- 28: bytes that are longer than the output
unfoldable pub fitting : ℕ → List ℕ → Reader (List ℕ)
fitting room image = do
  test 28 (leb (length image) room)
  return image

-- The operation, with an output of that many bytes: a section, read tolerantly; 31, a required table of odd length, or a place
-- outside its text; 28.
unfoldable pub write_only_authenticated : List ℕ → List ℕ → ℕ → Reader (List ℕ)
write_only_authenticated text required room = do
  ps ← read_aad_section tolerant
  test 31 (in_twos text required)
  fitting room (only_authenticated text required ps)
