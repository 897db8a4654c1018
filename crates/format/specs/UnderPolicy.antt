-- 'The images stay those of the writer without a policy. Under demand 3's conditions on length, tables and maximum, the tolerant either-version
-- reader with a policy gives their fields where the policy lets it read that version, and it accepts nothing else, with one argument for all three':
-- the policy is a variable throughout. It is proved in proofs/UnderPolicy. Assumes nothing.
use Rattle.std.specs.Prelude.{◌≡◌, Bool, true, false, not, cond, ◌⊎◌, List, [], ◌∷◌, map, ℕ, ◌+◌, ◌*◌, ◌≤◌, ◌<◌, eqb, length}
use Rattle.std.proofs.Math.Option.{Option, none, some}
use Rattle.format.specs.Read.{Answer, accepted, refused, operation}
use Rattle.format.specs.Serialize.{Bytes}
use Rattle.format.specs.Fields.{Fields, HeaderBody}
use Rattle.format.specs.Context.{Mode, tolerant}
use Rattle.format.specs.Keys.{Max, within}
use Rattle.format.specs.Policies.{Policy, forbid_encrypt_allow_decrypt, require_encrypt_allow_decrypt, require_encrypt_require_decrypt, lets_write, lets_read}
use Rattle.format.specs.Body.{Which, either, Lead, read_lead, tests_frames, request_under, read_header_body_under, read_header_body}
use Rattle.format.specs.Checks.{first, lead_checks, opening_checks}
use Rattle.format.specs.Lent.{written, size_of, output_after, pair_table_after, key_table_after, BodyToWrite, fields_to_write, writing_header_body_under, writing_header_body}
use Rattle.format.specs.Places.{number8, body_here, body_end}
use Rattle.format.specs.First.{NoneApplies, operation_list, lead_list, opening_list, body_list, FirstRefusal}
use Rattle.format.specs.Demand3.{Writer, mark_by, image_by, Stands, Gives, Sentence2, Sentence3}
use Rattle.format.specs.Lengths.{JustWhere}
use Rattle.format.specs.Pinned.{Decides, line_number, check_number}

-- READING. The opening is good up to 7, and the policy forbids its version.
abbrev pub forbids_of : Policy → Answer Lead → Bool
forbids_of q (accepted l t) = not (lets_read q l.version)
forbids_of q (refused k p) = false

unfoldable pub forbids_reading : Policy → Which → List ℕ → ℕ → Bool
forbids_reading policy which m s = forbids_of policy (operation (read_lead which) m s)

-- With a policy the answer, with its record, and both tables are those without one, except 39 there. It holds of each reader.
pub record Reads (policy : Policy) (which : Which) (mode : Mode) (max : Max) (pairRoom keyRoom : ℕ) (m : List ℕ) (s : ℕ) : Type 0 where
  pub answers : operation (read_header_body_under policy which mode max pairRoom keyRoom) m s
      ≡ cond (forbids_reading policy which m s) (refused 39 0) (operation (read_header_body which mode max pairRoom keyRoom) m s)
  pub pair_table : (table : List ℕ) → pair_table_after (operation (read_header_body_under policy which mode max pairRoom keyRoom) m s) table
      ≡ cond (forbids_reading policy which m s) table (pair_table_after (operation (read_header_body which mode max pairRoom keyRoom) m s) table)
  pub key_table : (table : List ℕ) → key_table_after (operation (read_header_body_under policy which mode max pairRoom keyRoom) m s) table
      ≡ cond (forbids_reading policy which m s) table (key_table_after (operation (read_header_body which mode max pairRoom keyRoom) m s) table)
  -- 39 is answered there, and nowhere else
  pub just_there : JustWhere (operation (read_header_body_under policy which mode max pairRoom keyRoom) m s ≡ refused 39 0) (forbids_reading policy which m s ≡ true)
  -- so every claim about a body that is accepted without a policy is one about those accepted with it
  pub accepts_less : (b : HeaderBody) (t : ℕ) → operation (read_header_body_under policy which mode max pairRoom keyRoom) m s ≡ accepted b t
      → operation (read_header_body which mode max pairRoom keyRoom) m s ≡ accepted b t

-- The images of the two writers, and the tolerant either-version reader.
pub record ReadsImages (policy : Policy) (max : Max) (pairRoom keyRoom : ℕ) (m : List ℕ) (s : ℕ) : Type 0 where
  pub only : length m ≤ 4294967295 → (b : HeaderBody) (t : ℕ) → operation (read_header_body_under policy either tolerant max pairRoom keyRoom) m s ≡ accepted b t
      → (w : Writer) × (f : Fields) × Stands max pairRoom keyRoom m s w f × (lets_read policy f.version ≡ true) × Gives m b f × (b.form ≡ mark_by w f.pairs)
      × (t ≡ s + length (image_by w f))
  pub all : length m ≤ 4294967295 → (w : Writer) (f : Fields) → Stands max pairRoom keyRoom m s w f → lets_read policy f.version ≡ true
      → (b : HeaderBody) × (operation (read_header_body_under policy either tolerant max pairRoom keyRoom) m s ≡ accepted b (s + length (image_by w f))) × Gives m b f
      × (b.form ≡ mark_by w f.pairs)
  pub forbidden : length m ≤ 4294967295 → (w : Writer) (f : Fields) → Stands max pairRoom keyRoom m s w f → lets_read policy f.version ≡ false
      → operation (read_header_body_under policy either tolerant max pairRoom keyRoom) m s ≡ refused 39 0

-- WRITING. The numbers are good up to 7, and the policy forbids the version.
abbrev pub forbids_checked : Policy → ℕ → Option ℕ → Bool
forbids_checked q version none = not (lets_write q version)
forbids_checked q version (some k) = false

unfoldable pub forbids_writing : Policy → BodyToWrite → Bool
forbids_writing policy b = forbids_checked policy b.version (first (lead_checks b.version b.messageType b.suite))

pub record Writes (policy : Policy) (b : BodyToWrite) : Type 0 where
  pub answer : (out : List ℕ) → written (writing_header_body_under policy b) out ≡ cond (forbids_writing policy b) (refused 39 0) (written (writing_header_body b) out)
  pub output : (out : List ℕ) → output_after (writing_header_body_under policy b) out ≡ cond (forbids_writing policy b) out (output_after (writing_header_body b) out)
  pub size : size_of (writing_header_body_under policy b) ≡ cond (forbids_writing policy b) (refused 39 0) (size_of (writing_header_body b))
  pub image : (writing_header_body_under policy b).image ≡ (writing_header_body b).image
  pub just_there : JustWhere (size_of (writing_header_body_under policy b) ≡ refused 39 0) (forbids_writing policy b ≡ true)

pub record UnderPolicy : Type 0 where
  -- who writes and who reads which version
  pub writes_version_1 : (policy : Policy) → JustWhere (lets_write policy 1 ≡ false) ((policy ≡ require_encrypt_allow_decrypt) ⊎ (policy ≡ require_encrypt_require_decrypt))
  pub writes_version_2 : (policy : Policy) → JustWhere (lets_write policy 2 ≡ false) (policy ≡ forbid_encrypt_allow_decrypt)
  pub reads_version_1 : (policy : Policy) → JustWhere (lets_read policy 1 ≡ false) (policy ≡ require_encrypt_require_decrypt)
  pub reads_version_2 : (policy : Policy) → lets_read policy 2 ≡ true
  -- 39 right after 7, of both versions, and before what the ID is tested for
  pub in_reading : (v1 : Bool) (which : Which) (policy : Policy) (m : List ℕ) (s : ℕ) → eqb (number8 m s) 1 ≡ v1
      → map line_number (opening_list which policy m s) ≡ cond v1 (2 ∷ 3 ∷ 4 ∷ 2 ∷ 5 ∷ 2 ∷ 6 ∷ 7 ∷ 39 ∷ 2 ∷ []) (2 ∷ 3 ∷ 4 ∷ 2 ∷ 6 ∷ 7 ∷ 39 ∷ 2 ∷ [])
  pub in_writing : (policy : Policy) (version messageType suite id : ℕ) → map check_number (opening_checks policy version messageType suite id) ≡ (3 ∷ 5 ∷ 6 ∷ 7 ∷ 39 ∷ 24 ∷ [])
  pub reads : (policy : Policy) (which : Which) (mode : Mode) (max : Max) (pairRoom keyRoom : ℕ) (m : List ℕ) (s : ℕ) → Reads policy which mode max pairRoom keyRoom m s
  -- good up to 7: no refusal listed so far applies
  pub forbids : (policy : Policy) (which : Which) (m : List ℕ) (s : ℕ)
      → Decides (forbids_reading policy which m s) (NoneApplies (operation_list (lead_list which) m s) × (lets_read policy (number8 m s) ≡ false))
  pub listed : (policy : Policy) (which : Which) (mode : Mode) (max : Max) (pairRoom keyRoom : ℕ) (m : List ℕ) (s : ℕ)
      → FirstRefusal (read_header_body_under policy which mode max pairRoom keyRoom) (body_list (request_under policy which mode (tests_frames which) max pairRoom keyRoom)) body_here body_end m s
  pub images : (policy : Policy) (max : Max) (pairRoom keyRoom : ℕ) (m : List ℕ) (s : ℕ) → Bytes m → ReadsImages policy max pairRoom keyRoom m s
  -- the strict and the one-version readers
  pub sentence_2 : (policy : Policy) (which : Which) (max : Max) (pairRoom keyRoom : ℕ) (m : List ℕ) (s : ℕ) → Bytes m → Sentence2 policy which max pairRoom keyRoom m s
  pub sentence_3 : (policy : Policy) (mode : Mode) (max : Max) (pairRoom keyRoom : ℕ) (m : List ℕ) (s : ℕ) → length m ≤ 4294967295 → Sentence3 policy mode max pairRoom keyRoom m s
  pub writes : (policy : Policy) (b : BodyToWrite) → Writes policy b
  pub forbids_checks : (policy : Policy) (b : BodyToWrite)
      → Decides (forbids_writing policy b) ((first (lead_checks b.version b.messageType b.suite) ≡ none) × (lets_write policy b.version ≡ false))
  -- and what is written under a policy, it lets be read
  pub reads_its_own : (policy : Policy) (b : BodyToWrite) (out : List ℕ) (n : ℕ) → b.frameLength < 4294967296 → written (writing_header_body_under policy b) out ≡ accepted tt n
      → length out ≤ 4294967295 → (max : Max) (pairRoom keyRoom : ℕ) → 4 * length (fields_to_write b).pairs ≤ pairRoom → 6 * length (fields_to_write b).keys ≤ keyRoom
      → within (length (fields_to_write b).keys) max ≡ true
      → (r : HeaderBody) × (operation (read_header_body_under policy either tolerant max pairRoom keyRoom) (output_after (writing_header_body_under policy b) out) 0 ≡ accepted r n)
      × Gives (output_after (writing_header_body_under policy b) out) r (fields_to_write b) × (r.form ≡ b.form)
