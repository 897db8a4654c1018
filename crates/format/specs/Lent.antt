-- What is lent to an operation: tables of places, a text, an output; and what each holds afterwards. Assumes nothing.
use Rattle.std.proofs.Math.Option.{Option, none, some}
use Rattle.std.specs.Prelude.{Bool, List, [], ◌∷◌, ◌++◌, ℕ, zero, suc, ◌+◌, ◌/◌, ◌%◌, leb, eqb, length, get_or, take, drop}
use Rattle.format.specs.Read.{Answer, accepted, refused}
use Rattle.format.specs.Serialize.{Part, images, every}
use Rattle.format.specs.Fields.{Form, Pair, EncryptedDataKey, Fields, PairAt, EncryptedDataKeyAt, HeaderBody, pair_places, key_places}
use Rattle.format.specs.Context.{write_aad_section}
use Rattle.format.specs.Keys.{write_encrypted_data_keys_section}
use Rattle.format.specs.Body.{image}
use Rattle.format.specs.Auth.{write_header_auth_tag}
use Rattle.format.specs.Frames.{Frame, FrameAt, frame_places, write_frames}
use Rattle.format.specs.Policies.{Policy, no_policy}
use Rattle.format.specs.Checks.{Check, check, first, pairs_checks, keys_checks, body_checks_under, auth_checks, frames_checks}

-- the bytes of m at a place
abbrev pub bytes_at : List ℕ → ℕ → ℕ → List ℕ
bytes_at m start size = take size (drop start m)

-- what is lent, with these numbers or bytes from its front on; what lies beyond keeps
abbrev pub filled : List ℕ → List ℕ → List ℕ
filled front lent = front ++ drop (length front) lent

-- READING. A place is two numbers, a start and a length: four numbers a pair, six a key or a frame.
abbrev pub place : Part → List ℕ
place p = p.start ∷ length p.bytes ∷ []

abbrev pub pair_numbers : List PairAt → List ℕ
pair_numbers ps = images place (images pair_places ps)

abbrev pub key_numbers : List EncryptedDataKeyAt → List ℕ
key_numbers ks = images place (images key_places ks)

abbrev pub frame_numbers : List FrameAt → List ℕ
frame_numbers fs = images place (images frame_places fs)

-- a reader's table afterwards: on a refusal it is as it was
abbrev pub table_after : {A : Type 0} → (A → List ℕ) → Answer A → List ℕ → List ℕ
table_after numbers (accepted a t) table = filled (numbers a) table
table_after numbers (refused k p) table = table

abbrev pub pair_table_after : Answer HeaderBody → List ℕ → List ℕ
pair_table_after = table_after (λ b. pair_numbers b.pairs)

abbrev pub key_table_after : Answer HeaderBody → List ℕ → List ℕ
key_table_after = table_after (λ b. key_numbers b.keys)

-- the companion of find: the value as a part of the message, and on a refusal the empty first part
abbrev pub found_part : Answer Part → Part
found_part (accepted p t) = p
found_part (refused k p) = record { start = 0; bytes = [] }

-- WRITING. n items that stand in a table, the first at a place and each other k numbers behind the one before it
unfoldable pub items : {A : Type 0} → (ℕ → A) → ℕ → ℕ → ℕ → List A
items f k zero at = []
items f k (suc n) at = f at ∷ items f k n (at + k)

-- the part of the text whose start and length stand at a place of the table
unfoldable pub part_in : List ℕ → List ℕ → ℕ → List ℕ
part_in text table at = bytes_at text (get_or table at 0) (get_or table (at + 1) 0)

-- all the parts of a table
abbrev pub parts_in : List ℕ → List ℕ → List (List ℕ)
parts_in text table = items (part_in text table) 2 (length table / 2) 0

abbrev pub pair_in : List ℕ → List ℕ → ℕ → Pair
pair_in text table at = record { key = part_in text table at; value = part_in text table (at + 2) }

abbrev pub key_in : List ℕ → List ℕ → ℕ → EncryptedDataKey
key_in text table at =
    record { keyProviderId = part_in text table at; keyProviderInfo = part_in text table (at + 2); ciphertext = part_in text table (at + 2 + 2) }

abbrev pub frame_in : List ℕ → List ℕ → ℕ → Frame
frame_in text table at = record { iv = part_in text table at; content = part_in text table (at + 2); tag = part_in text table (at + 2 + 2) }

abbrev pub pairs_in : List ℕ → List ℕ → List Pair
pairs_in text table = items (pair_in text table) 4 (length table / 4) 0

abbrev pub keys_in : List ℕ → List ℕ → List EncryptedDataKey
keys_in text table = items (key_in text table) 6 (length table / 6) 0

abbrev pub frames_in : List ℕ → List ℕ → List Frame
frames_in text table = items (frame_in text table) 6 (length table / 6) 0

-- where the places of a table stand, two numbers each
abbrev pub here : ℕ → ℕ
here at = at

abbrev pub places : List ℕ → List ℕ
places table = items here 2 (length table / 2) 0

unfoldable pub in_text : List ℕ → List ℕ → ℕ → Bool
in_text text table at = leb (get_or table at 0 + get_or table (at + 1) 0) (length text)

-- 26: a table not in items of k numbers, or a place outside the text
unfoldable pub table_checks : ℕ → List ℕ → List ℕ → List Check
table_checks k text table = check 26 (eqb (length table % k) 0) ∷ check 26 (every (in_text text table) (places table)) ∷ []

-- a call of a writer: its refusals but for 28, and the image that it is to write
pub record Writing : Type 0 where
  pub checks : List Check
  pub image : List ℕ

-- 28: the image is longer than the output
unfoldable pub refusal_of : Writing → List ℕ → Option ℕ
refusal_of w out = first (w.checks ++ (check 28 (leb (length w.image) (length out)) ∷ []))

-- a writer's answer: the image's length, or the first refusal that applies
abbrev pub written_of : Option ℕ → List ℕ → Answer (Unit {0})
written_of none image = accepted tt (length image)
written_of (some k) image = refused k 0

abbrev pub written : Writing → List ℕ → Answer (Unit {0})
written w out = written_of (refusal_of w out) w.image

-- and what is told before there is an output: the first refusal other than 28, or else the image's length
abbrev pub size_of : Writing → Answer (Unit {0})
size_of w = written_of (first w.checks) w.image

-- and its output afterwards: the image from the first byte on, or, on a refusal, as it was
abbrev pub output_of : Option ℕ → List ℕ → List ℕ → List ℕ
output_of none image out = filled image out
output_of (some k) image out = out

abbrev pub output_after : Writing → List ℕ → List ℕ
output_after w out = output_of (refusal_of w out) w.image out

-- the five writers
unfoldable pub writing_aad_section : List ℕ → List ℕ → Writing
writing_aad_section text pairs =
    record { checks = table_checks 4 text pairs ++ pairs_checks (pairs_in text pairs); image = write_aad_section (pairs_in text pairs) }

unfoldable pub writing_encrypted_data_keys_section : List ℕ → List ℕ → Writing
writing_encrypted_data_keys_section text keys =
    record { checks = table_checks 6 text keys ++ keys_checks (keys_in text keys); image = write_encrypted_data_keys_section (keys_in text keys) }

-- what a body writer is handed: the numbers, the mark, the ID and suite data as bytes of their own, and one text with both tables
pub record BodyToWrite : Type 0 where
  pub version : ℕ
  pub messageType : ℕ
  pub suite : ℕ
  pub contentType : ℕ
  pub headerIvLength : ℕ
  pub frameLength : ℕ
  pub form : Form
  pub messageId : List ℕ
  pub suiteData : List ℕ
  pub text : List ℕ
  pub pairTable : List ℕ
  pub keyTable : List ℕ

unfoldable pub fields_to_write : BodyToWrite → Fields
fields_to_write b =
    record {
      version = b.version;
      messageType = b.messageType;
      suite = b.suite;
      messageId = b.messageId;
      pairs = pairs_in b.text b.pairTable;
      keys = keys_in b.text b.keyTable;
      contentType = b.contentType;
      headerIvLength = b.headerIvLength;
      frameLength = b.frameLength;
      suiteData = b.suiteData;
    }

-- under a policy, which changes no image
unfoldable pub writing_header_body_under : Policy → BodyToWrite → Writing
writing_header_body_under policy b =
    record {
      checks = body_checks_under policy (table_checks 4 b.text b.pairTable) (table_checks 6 b.text b.keyTable) b.form (fields_to_write b);
      image = image b.form (fields_to_write b);
    }

-- without one
abbrev pub writing_header_body : BodyToWrite → Writing
writing_header_body = writing_header_body_under no_policy

unfoldable pub writing_header_auth_tag : ℕ → List ℕ → List ℕ → Writing
writing_header_auth_tag suite iv tag = record { checks = auth_checks suite (length iv) (length tag); image = write_header_auth_tag suite iv tag }

-- the frames of a frame length that stand in a table; the last entry becomes the final frame
unfoldable pub writing_frames : ℕ → List ℕ → List ℕ → Writing
writing_frames frame text table =
    record { checks = frames_checks frame (table_checks 6 text table) (frames_in text table); image = write_frames (frames_in text table) }
