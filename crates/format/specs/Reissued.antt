-- What reissuing a version 1 draft in version 2 means, in the request's words, of the definitions that the contracts cite. It is proved in
-- proofs/Reissued. Assumes nothing.
use Rattle.std.specs.Prelude.{◌≡◌, true, List, [], ◌∷◌, ◌++◌, ℕ, ◌+◌, ◌*◌, ◌-◌, ◌≤◌, ◌<◌, leb, eqb, length, drop}
use Rattle.std.proofs.Math.Option.{Option, none, some}
use Rattle.format.specs.Read.{Answer, accepted, refused, operation}
use Rattle.format.specs.Serialize.{Bytes}
use Rattle.format.specs.Shared.{known, of_version, frame_fits}
use Rattle.format.specs.Fields.{Form, today, old, Fields, HeaderBody, fields_of}
use Rattle.format.specs.Context.{Mode, section_in}
use Rattle.format.specs.Keys.{no_max, write_encrypted_data_keys_section}
use Rattle.format.specs.Body.{Which, either, v1_only, v2_only, read_body, read_header_body}
use Rattle.format.specs.Checks.{Check, check, first, Accepts}
use Rattle.format.specs.Lent.{bytes_at, BodyToWrite, fields_to_write, writing_header_body}
use Rattle.format.specs.Lengths.{JustWhere}
use Rattle.format.specs.Demand3.{Gives, stands_at}
use Rattle.format.specs.Mending.{without_tables, read_draft}
use Rattle.format.specs.Reissuing.{Reissue, reissued, reissued_image, reissued_header_body, reissue_header_body}

-- THE FIELDS: 'a version 2 body with the same pairs, keys, content type and frame length', and with what was added
pub record FieldsOf (a : Reissue) (f g : Fields) : Type 0 where
  pub version : g.version ≡ 2
  pub suite : g.suite ≡ a.suite
  pub messageId : g.messageId ≡ a.messageId
  pub suiteData : g.suiteData ≡ a.suiteData
  pub pairs : g.pairs ≡ f.pairs
  pub keys : g.keys ≡ f.keys
  pub contentType : g.contentType ≡ f.contentType
  pub frameLength : g.frameLength ≡ f.frameLength

-- THE REFUSALS: 'Refusals are those of reading version 1 only, tolerantly and without tables or maximum, then 20, then 6, 7, 24 and 25 on what was added,
-- and 28'
abbrev pub reading : List ℕ → ℕ → Answer HeaderBody
reading m s = operation (read_body (without_tables v1_only)) m s

abbrev pub added_checks : Reissue → List Check
added_checks a =
    check 6 (known a.suite)
    ∷ check 7 (of_version 2 a.suite)
    ∷ check 24 (eqb (length a.messageId) 32)
    ∷ check 25 (eqb (length a.suiteData) 32)
    ∷ []

abbrev pub reissue_checks : Reissue → HeaderBody → List Check
reissue_checks a b = check 20 (frame_fits b.contentType b.frameLength) ∷ added_checks a

abbrev pub by_checks : Option ℕ → List ℕ → ℕ → Answer (List ℕ)
by_checks none image t = accepted image t
by_checks (some k) image t = refused k 0

-- by what reading answers
abbrev pub behind_reading : (HeaderBody → List Check) → Reissue → Answer HeaderBody → Answer (List ℕ)
behind_reading checks a (accepted b t) = by_checks (first (checks b)) (reissued_image a b) t
behind_reading checks a (refused k p) = refused k p

pub record InOrder (a : Reissue) (m : List ℕ) (s : ℕ) : Type 0 where
  pub told : operation (reissued_header_body a) m s ≡ behind_reading (reissue_checks a) a (reading m s)
  pub written : (room : ℕ) → operation (reissue_header_body a room) m s
      ≡ behind_reading (λ b. reissue_checks a b ++ (check 28 (leb (length (reissued_image a b)) room) ∷ [])) a (reading m s)

-- 'The other direction is refused, because suite data would be lost'; 'a version 2 draft gets 4': whatever follows the version's byte, and whatever is added
pub record OtherDirection (a : Reissue) (room : ℕ) (m : List ℕ) (s : ℕ) : Type 0 where
  pub by_its_byte : length m ≤ 4294967295 → stands_at 2 m s ≡ true → operation (reissue_header_body a room) m s ≡ refused 4 0
  pub of_a_draft : Bytes m → (b : HeaderBody) (t : ℕ) → operation read_draft m s ≡ accepted b t → b.version ≡ 2 → operation (reissue_header_body a room) m s ≡ refused 4 0

-- TOLD BEFORE, without an output: what the operation refuses, but for 28, and where it refuses nothing how many bytes it takes
pub record Told (a : Reissue) (m : List ℕ) (s : ℕ) : Type 0 where
  pub refuses : (k p : ℕ) → operation (reissued_header_body a) m s ≡ refused k p → (room : ℕ) → operation (reissue_header_body a room) m s ≡ refused k p
  pub too_short : (image : List ℕ) (t : ℕ) → operation (reissued_header_body a) m s ≡ accepted image t
      → (room : ℕ) → JustWhere (operation (reissue_header_body a room) m s ≡ refused 28 0) (room < length image)
  pub reports : (image : List ℕ) (t : ℕ) → operation (reissued_header_body a) m s ≡ accepted image t
      → (room : ℕ) → length image ≤ room → operation (reissue_header_body a room) m s ≡ accepted image t
  pub refusal_given : (room k p : ℕ) → operation (reissue_header_body a room) m s ≡ refused k p → (k ≡ 28 → ⊥) → operation (reissued_header_body a) m s ≡ refused k p
  pub image_given : (room : ℕ) (image : List ℕ) (t : ℕ) → operation (reissue_header_body a room) m s ≡ accepted image t
      → (operation (reissued_header_body a) m s ≡ accepted image t) × (length image ≤ room)

-- THE RESULT, at a place of a message: 'reading the result tolerantly, if it is at most 4,294,967,295 bytes long, the tables hold its entries and
-- no maximum is set, gives those fields'. (So it does strictly, and by the reader of version 2 only.)
pub data ReadsVersion2 : Which → Type 0 where
  by_either : ReadsVersion2 either
  by_v2_only : ReadsVersion2 v2_only

pub record ReadBack (a : Reissue) (b : HeaderBody) (message : List ℕ) (start : ℕ) : Type 0 where
  pub gives : (which : Which) → ReadsVersion2 which → (mode : Mode) (pairRoom keyRoom : ℕ) → 4 * length b.pairs ≤ pairRoom → 6 * length b.keys ≤ keyRoom
      → (c : HeaderBody) × (operation (read_header_body which mode no_max pairRoom keyRoom) message start ≡ accepted c (start + length (reissued_image a b)))
      × Gives message c (reissued a (fields_of b)) × (c.form ≡ today)
  -- and it is not reissued again
  pub not_again : (other : Reissue) (room : ℕ) → operation (reissue_header_body other room) message start ≡ refused 4 0

-- an empty context in its old form has two bytes more
abbrev pub bytes_more : Form → ℕ
bytes_more today = 0
bytes_more old = 2

-- of a draft that was read as b, from s to t
pub record Reissued (a : Reissue) (m : List ℕ) (s : ℕ) (b : HeaderBody) (t : ℕ) : Type 0 where
  pub of_version_1 : b.version ≡ 1
  -- it is what our writer, given the mark today's, writes of those fields
  pub accepts : Accepts today (reissued a (fields_of b))
  pub as_written : (w : BodyToWrite) → w.form ≡ today → fields_to_write w ≡ reissued a (fields_of b) → (writing_header_body w).image ≡ reissued_image a b
  pub read_back : (message : List ℕ) (start : ℕ) (after : List ℕ) → length message ≤ 4294967295 → drop start message ≡ reissued_image a b ++ after → ReadBack a b message start
  -- 42 bytes more than the draft: 35 for the 20 in front of the sections, and 37 for the 10 behind them
  pub long : length (reissued_image a b) + bytes_more b.form ≡ t - s + 42

-- WHERE THE SECTIONS STAND in the draft: the context's from first to second, the keys' from there to third
pub record TakenOver (m : List ℕ) (b : HeaderBody) (first second third : ℕ) : Type 0 where
  pub context : (b.pairs ≡ [] → ⊥) → bytes_at m first (second - first) ≡ section_in today (fields_of b).pairs
  pub keys : bytes_at m second (third - second) ≡ write_encrypted_data_keys_section (fields_of b).keys
  pub forward : (first ≤ second) × (second ≤ third) × (third ≤ length m)

pub record ReissueLaws : Type 0 where
  pub fields : (a : Reissue) (f : Fields) → FieldsOf a f (reissued a f)
  pub in_order : (a : Reissue) (m : List ℕ) (s : ℕ) → InOrder a m s
  pub other_direction : (a : Reissue) (room : ℕ) (m : List ℕ) (s : ℕ) → OtherDirection a room m s
  pub told : (a : Reissue) (m : List ℕ) (s : ℕ) → Told a m s
  pub accepted_then : (a : Reissue) (m : List ℕ) (s : ℕ) → Bytes m → (image : List ℕ) (t : ℕ) → operation (reissued_header_body a) m s ≡ accepted image t
      → (b : HeaderBody) × (reading m s ≡ accepted b t) × (image ≡ reissued_image a b) × Reissued a m s b t
