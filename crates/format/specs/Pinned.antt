-- Demand 3 has some tests on both of its sides, so a wrong one would still satisfy it: UTF-8, key seen before, known suites, frame
-- length against content type and who tests it, the reach of 1, which of a writer's checks fails first, lengths. Here each is held to
-- a statement of its own; they are proved in proofs/Pinned. Assumes nothing.
use Rattle.std.specs.Prelude.{◌≡◌, Bool, true, false, cond, ◌⊎◌, ℕ, ◌+◌, ◌*◌, ◌/◌, ◌%◌, ◌≤◌, ◌<◌, leb, length, get_or, take, drop}
use Rattle.std.proofs.Math.Option as option
use mathlib.Core.List.{List, [], ◌∷◌, ◌++◌, map, Memᴰ}
use Rattle.format.specs.Read.{at, addressable}
use Rattle.format.specs.Serialize.{read, read_at, images, every, number, write_uint16, write_uint32, same_bytes}
use Rattle.format.specs.Utf8.{Range, has, rows, valid_utf8_seq}
use Rattle.format.specs.Shared.{by, one_or_two, SuiteRow, row, suites, suite_version, known, frame_fits}
use Rattle.format.specs.Fields.{Form, old, Pair, PairAt, pair_of, pair_places, EncryptedDataKey, EncryptedDataKeyAt, key_of, key_places, key_parts}
use Rattle.format.specs.Context.{seen, linear_length, write_aad_pairs}
use Rattle.format.specs.Keys.{Max, no_max, at_most, within, write_encrypted_data_keys}
use Rattle.format.specs.Policies.{Policy}
use Rattle.format.specs.Body.{Which, either, tests_frames}
use Rattle.format.specs.Checks.{Check, first, count_checks, keys_checks, fits_form}
use Rattle.format.specs.Lent.{bytes_at, filled, pair_numbers, key_numbers, frame_numbers, items, pair_in, key_in, frame_in, table_checks}
use Rattle.format.specs.Frames.{FrameAt, frame_of, frame_places}
use Rattle.format.specs.Places.{number8}
use Rattle.format.specs.First.{Line, NoneApplies, operation_list, opening_list, keys_list}
use Rattle.format.specs.Demand3.{Held, Each, reaches_old, Has}
use Rattle.format.specs.Characters.{Characters}
use Rattle.format.specs.Lengths.{JustWhere, Lengths}

-- a row's ranges, byte by byte
pub data Match : List Range → List ℕ → Type 0 where
  done : Match [] []
  byte : {r : Range} {rs : List Range} {b : ℕ} {bs : List ℕ} → has r b ≡ true → Match rs bs → Match (r ∷ rs) (b ∷ bs)

-- a row is one of these
pub data In : List Range → List (List Range) → Type 0 where
  here : {row : List Range} {rs : List (List Range)} → In row (row ∷ rs)
  there : {row other : List Range} {rs : List (List Range)} → In row rs → In row (other ∷ rs)

-- UTF8-octets = *( UTF8-char ), a character being what matches a row of the grammar
pub data Octets : List ℕ → Type 0 where
  none : Octets []
  char : {row : List Range} {c s : List ℕ} → In row rows → Match row c → Octets s → Octets (c ++ s)

-- a Boolean test holds just where a statement does
pub record Decides (test : Bool) (P : Type 0) : Type 0 where
  pub then_holds : test ≡ true → P
  pub holds_then : P → test ≡ true

-- a writer's table is in items of k numbers, and each place of it, a start and a length, lies within the text
pub record InText (k : ℕ) (text table : List ℕ) : Type 0 where
  pub in_items : length table % k ≡ 0
  pub inside : (i : ℕ) → i < length table / 2 → get_or table (2 * i) 0 + get_or table (2 * i + 1) 0 ≤ length text

-- a check with that number fails, and each before it passes
pub record FirstFails (checks : List Check) (number : ℕ) : Type 0 where
  pub before : List Check
  pub failing : Check
  pub behind : List Check
  pub listed : checks ≡ before ++ (failing ∷ behind)
  pub before_pass : every (λ (c : Check). c.passes) before ≡ true
  pub fails : failing.passes ≡ false
  pub its_number : failing.number ≡ number

abbrev pub number_of : SuiteRow → ℕ
number_of r = r.number

abbrev pub line_number : Line → ℕ
line_number x = x.number

abbrev pub check_number : Check → ℕ
check_number c = c.number

pub record Pinned : Type 0 where
  -- 1
  pub addresses : (m : List ℕ) (s : ℕ) → Decides (addressable m s) ((length m ≤ 4294967295) × (s ≤ 4294967295))
  -- n bytes at a place, where there is a byte to read or the place lies within the message
  pub some_bytes : (n : ℕ) (m : List ℕ) (s : ℕ) → 0 < n → at (read n) m s ≡ read_at n m s
  pub within_the_message : (n : ℕ) (m : List ℕ) (s : ℕ) → s ≤ length m → at (read n) m s ≡ read_at n m s
  -- numbers stand with their most significant byte first
  pub two_bytes : (a b : ℕ) → number (a ∷ b ∷ []) ≡ 256 * a + b
  pub four_bytes : (a b c d : ℕ) → number (a ∷ b ∷ c ∷ d ∷ []) ≡ 16777216 * a + 65536 * b + 256 * c + d
  pub uint16 : (x : ℕ) → x < 65536 → write_uint16 x ≡ ((x / 256) ∷ (x % 256) ∷ [])
  pub uint32 : (x : ℕ) → x < 4294967296 → write_uint32 x ≡ ((x / 16777216) ∷ (x / 65536 % 256) ∷ (x / 256 % 256) ∷ (x % 256) ∷ [])
  -- the grammar of RFC 3629, and the character numbers that it stands for
  pub utf8 : (bytes : List ℕ) → Decides (valid_utf8_seq bytes) (Octets bytes)
  pub characters : (bytes : List ℕ) → Decides (valid_utf8_seq bytes) (Characters bytes)
  -- two keys are equal when their bytes are, and a key was seen when a pair has it
  pub equal : (a b : List ℕ) → Decides (same_bytes a b) (a ≡ b)
  pub seen_before : (k : List ℕ) (ps : List PairAt) → Decides (seen k (map pair_of ps)) (Has k ps)
  -- the lookup is the table: eleven rows, each with its version, and no other number is known
  pub eleven : map number_of suites ≡ (0x0014 ∷ 0x0046 ∷ 0x0078 ∷ 0x0114 ∷ 0x0146 ∷ 0x0178 ∷ 0x0214 ∷ 0x0346 ∷ 0x0378 ∷ 0x0478 ∷ 0x0578 ∷ [])
  pub in_a_row : (suite : ℕ) → known suite ≡ true → Memᴰ (row suite (suite_version suite)) suites
  pub row_of : (r : SuiteRow) → Memᴰ r suites → suite_version r.number ≡ r.version
  -- the committing suites, 04 78 and 05 78, are of version 2, and the others of version 1
  pub committing : (suite : ℕ) → known suite ≡ true → suite_version suite ≡ cond (leb 0x0400 suite) 2 1
  pub no_third : (suite : ℕ) → known suite ≡ true → one_or_two (suite_version suite) ≡ true
  -- versions and content types
  pub one_two : (x : ℕ) → Decides (one_or_two x) ((x ≡ 1) ⊎ (x ≡ 2))
  -- framed content has a frame length above 0, non-framed content has 0
  pub frames : (content frame : ℕ) → Decides (frame_fits content frame) (((content ≡ 1) × (frame ≡ 0)) ⊎ ((content ≡ 2) × (0 < frame)))
  -- and only the either-version reader tests it
  pub frames_tested : (which : Which) → Decides (tests_frames which) (which ≡ either)
  -- a mark fits a record unless it is old and there is a pair
  pub mark_fits : (form : Form) (pairs : ℕ) → Decides (fits_form form pairs) (form ≡ old → pairs ≡ 0)
  -- the context section that a body reader reaches is 00 02 00 00: no refusal listed before the section's applies, and those are the
  -- bytes that stand 20 or 35 behind the start
  pub reaches : (which : Which) (policy : Policy) (m : List ℕ) (s : ℕ)
      → Decides (reaches_old policy which m s) (NoneApplies (operation_list (opening_list which policy) m s) × (bytes_at m (s + by (number8 m s) 20 35) 4 ≡ (0x00 ∷ 0x02 ∷ 0x00 ∷ 0x00 ∷ [])))
  -- a maximum is passed by a count above it
  pub maximum : (n max : ℕ) → Decides (within n (at_most max)) (n ≤ max)
  pub no_maximum : (n : ℕ) → within n no_max ≡ true
  -- a count of 0 passes no maximum, and is neither too many keys nor has a part, so 38 never applies together with 15 or the keys' 27. Their order,
  -- which no answer shows, is the request's: 38 right after the count and before 15, and after 27
  pub none_within : (max : Max) → within 0 max ≡ true
  pub none_counted : first (count_checks 0 (images key_parts [])) ≡ option.none
  pub in_reading : (max : Max) (m : List ℕ) (s : ℕ) → take 3 (map line_number (keys_list max m s)) ≡ (2 ∷ 38 ∷ 15 ∷ [])
  pub in_writing : (ks : List EncryptedDataKey) → take 3 (map check_number (keys_checks ks)) ≡ (27 ∷ 27 ∷ 38 ∷ [])
  -- a writer refuses by the first of its checks that fails
  pub first_check : (checks : List Check) (k : ℕ) → JustWhere (first checks ≡ option.some k) (FirstFails checks k)
  -- 26
  pub tables : (k : ℕ) (text table : List ℕ) → JustWhere (first (table_checks k text table) ≡ option.none) (InText k text table)
  -- a reader's table, read as a writer reads it, has the bytes of what the reader gave; what lies behind its numbers keeps
  pub pair_table : (m table : List ℕ) (ps : List PairAt) → Each (Held m) (images pair_places ps) → items (pair_in m (filled (pair_numbers ps) table)) 4 (length ps) 0 ≡ map pair_of ps
  pub key_table : (m table : List ℕ) (ks : List EncryptedDataKeyAt) → Each (Held m) (images key_places ks) → items (key_in m (filled (key_numbers ks) table)) 6 (length ks) 0 ≡ map key_of ks
  pub frame_table : (m table : List ℕ) (fs : List FrameAt) → Each (Held m) (images frame_places fs) → items (frame_in m (filled (frame_numbers fs) table)) 6 (length fs) 0 ≡ map frame_of fs
  pub in_front : (front lent : List ℕ) → take (length front) (filled front lent) ≡ front
  pub beyond : (front lent : List ℕ) → drop (length front) (filled front lent) ≡ drop (length front) lent
  -- what pairs take is what their entries take
  pub pairs_take : (ps : List Pair) → length (write_aad_pairs ps) ≡ linear_length ps
  -- the lengths
  pub lengths : Lengths
  -- and the bytes of joined lists are those of each, joined
  pub pairs_join : (ps qs : List Pair) → write_aad_pairs (ps ++ qs) ≡ write_aad_pairs ps ++ write_aad_pairs qs
  pub keys_join : (ks js : List EncryptedDataKey) → write_encrypted_data_keys (ks ++ js) ≡ write_encrypted_data_keys ks ++ write_encrypted_data_keys js
