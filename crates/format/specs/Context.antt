-- EncryptionContext.dfy: the context section, read and written, and finding a value in it. Assumes nothing.
use Rattle.std.specs.Prelude.{Bool, true, false, ◌&&◌, ◌||◌, not, cond, List, [], ◌∷◌, ◌++◌, map, ℕ, ◌+◌, ◌*◌, leb, eqb, length}
use Rattle.format.specs.Read.{success, error, Reader, go_on, ◌>>=◌, ◌>>◌, return, test, End, held, repeat, enclosed}
use Rattle.format.specs.Serialize.{Part, read_uint16, write_uint16, read_short_length_seq, write_short_length_seq, entry_length, images, sum, same_bytes}
use Rattle.format.specs.Utf8.{valid_utf8_seq}
use Rattle.format.specs.Fields.{Form, today, old, Pair, PairAt, pair_of}

-- a key equals a pair's key when their bytes are the same; a key that only begins another differs from it
unfoldable pub seen : List ℕ → List Pair → Bool
seen k [] = false
seen k (p ∷ ps) = same_bytes k p.key || seen k ps

-- PairLength, LinearLength: how many bytes a pair takes, and pairs
abbrev pub pair_length : Pair → ℕ
pair_length p = entry_length p.key + entry_length p.value

abbrev pub linear_length : List Pair → ℕ
linear_length = sum pair_length

-- refusal 13, on writing: what pairs take stays below this, so that the section's length, two bytes more, fits its two bytes
abbrev pub pairs_limit : ℕ
pairs_limit = 65534

-- WriteAADPair, WriteAADPairs, WriteAAD
unfoldable pub write_aad_pair : Pair → List ℕ
write_aad_pair p = write_short_length_seq p.key ++ write_short_length_seq p.value

unfoldable pub write_aad_pairs : List Pair → List ℕ
write_aad_pairs ps = images write_aad_pair ps

unfoldable pub write_aad : List Pair → List ℕ
write_aad ps = write_uint16 (length ps) ++ write_aad_pairs ps

-- WriteEmptyEcOrWriteAAD: the same, but an empty context is no bytes
unfoldable pub write_empty_ec_or_write_aad : List Pair → List ℕ
write_empty_ec_or_write_aad [] = []
write_empty_ec_or_write_aad (p ∷ ps) = write_aad (p ∷ ps)

-- WriteExpandedAADSection: the length of what follows, the count and the pairs
unfoldable pub write_expanded_aad_section : List Pair → List ℕ
write_expanded_aad_section ps = write_uint16 (2 + linear_length ps) ++ write_aad ps

-- WriteAADSection: the same, but an empty context is its length 0 alone
unfoldable pub write_aad_section : List Pair → List ℕ
write_aad_section [] = write_uint16 0
write_aad_section (p ∷ ps) = write_expanded_aad_section (p ∷ ps)

abbrev pub section_in : Form → List Pair → List ℕ
section_in today ps = write_aad_section ps
section_in old ps = write_expanded_aad_section ps

-- whether the old form of an empty section is accepted
pub data Mode : Type 0 where
  tolerant strict : Mode

abbrev pub is_strict : Mode → Bool
is_strict tolerant = false
is_strict strict = true

-- an entry of UTF-8, else refusal k
unfoldable pub read_text : End → ℕ → Reader Part
read_text e k = do
  p ← read_short_length_seq e
  test k (valid_utf8_seq p.bytes)
  return p

-- ReadAADPair
unfoldable pub read_aad_pair : End → Reader PairAt
read_aad_pair e = do
  k ← read_text e 10
  v ← read_text e 11
  return (record { key = k; value = v })

-- a step of ReadAADPairs: the pair behind the pairs acc. The source tests here what the pairs take (specs/Source): pairs that stay
-- within a section's end never take that much.
unfoldable pub read_next_aad_pair : End → List PairAt → Reader PairAt
read_next_aad_pair e acc = do
  p ← read_aad_pair e
  test 12 (not (seen p.key.bytes (map pair_of acc)))
  return p

-- ReadAAD, of a section whose length n is not 0: the count, and the pairs, each read by `next`
unfoldable pub read_aad_by : (List PairAt → Reader PairAt) → Mode → ℕ → Reader (List PairAt)
read_aad_by next mode n = do
  count ← read_uint16
  test 8 (not (eqb n 2) || eqb count 0)
  test 21 (not (eqb n 2 && is_strict mode))
  test 9 (eqb n 2 || not (eqb count 0))
  repeat count next []

-- and the count, too, has to stay within the section's end
unfoldable pub read_aad : Mode → ℕ → End → Reader (List PairAt)
read_aad mode n e = do
  held e 2
  read_aad_by (read_next_aad_pair e) mode n

-- what follows the section's length n; true: n is 0
unfoldable pub read_aad_of : Mode → Bool → ℕ → Reader (List PairAt)
read_aad_of mode true n = return []
read_aad_of mode false n = enclosed n 14 (read_aad mode n)

-- ReadAADSection
unfoldable pub read_aad_section : Mode → Reader (List PairAt)
read_aad_section mode = do
  n ← read_uint16
  read_aad_of mode (eqb n 0) n

-- the pairs of a section, and the form that it stands in
pub record ContextAt : Type 0 where
  pub form : Form
  pub pairs : List PairAt

-- the form of a section whose first pair would start at one place, and that ends at t: an empty context in its old form ends just there,
-- and no other section does
abbrev pub form_ending : ℕ → ℕ → Form
form_ending first t = cond (eqb t first) old today

-- of a section from s to t: a pair starts behind the length and the count
abbrev pub form_between : ℕ → ℕ → Form
form_between s t = form_ending (s + 4) t

-- a section as it is read in a body, with its form
abbrev pub mark : ℕ → List PairAt → Reader ContextAt
mark s ps l t = success (record { form = form_between s t; pairs = ps }) l t

unfoldable pub with_mark : Reader (List PairAt) → Reader ContextAt
with_mark r l s = go_on (r l s) (mark s)

-- ReadAADSection as an operation of its own, with a table of that many numbers
unfoldable pub read_aad_section_into : Mode → ℕ → Reader (List PairAt)
read_aad_section_into mode room = do
  ps ← read_aad_section mode
  test 22 (leb (4 * length ps) room)
  return ps

-- GetEncryptionContext, as a find: the value of the pair with the key k
unfoldable pub look_up : List ℕ → List PairAt → Reader Part
look_up k [] l s = error 29
look_up k (p ∷ ps) l s = elim (same_bytes k p.key.bytes) [ true ↦ success p.value l s | false ↦ look_up k ps l s ]

unfoldable pub find_value : List ℕ → Reader Part
find_value k = do
  ps ← read_aad_section tolerant
  look_up k ps
