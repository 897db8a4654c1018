-- V1HeaderBody.dfy, V2HeaderBody.dfy and Header.dfy: a header body, read and written. Assumes nothing.
use Rattle.std.specs.Prelude.{Bool, true, false, ◌||◌, not, List, [], ◌∷◌, ◌++◌, ℕ, ◌*◌, eqb, length}
use Rattle.format.specs.Read.{Reader, ◌>>=◌, ◌>>◌, return, test}
use Rattle.format.specs.Serialize.{Part, read, read_uint8, read_uint32, write_uint16, write_uint32}
use Rattle.format.specs.Shared.{id_length, iv_length, commit_key_length, read_message_format_version, read_esdk_suite_id, read_content_type, frame_fits}
use Rattle.format.specs.Fields.{Form, EncryptedDataKeyAt, Fields, HeaderBody}
use Rattle.format.specs.Context.{Mode, ContextAt, section_in, read_aad_section, with_mark}
use Rattle.format.specs.Keys.{Max, at_most, within, write_encrypted_data_keys_section, read_encrypted_data_keys_section}
use Rattle.format.specs.Policies.{Policy, no_policy, lets_read}

-- which version a reader is asked for
pub data Which : Type 0 where
  either v1_only v2_only : Which

abbrev pub asked : Which → ℕ → Bool
asked either version = true
asked v1_only version = eqb version 1
asked v2_only version = eqb version 2

-- the leading fields: what stands before the message ID
pub record Lead : Type 0 where
  pub version : ℕ
  pub messageType : ℕ
  pub suite : ℕ

-- after the version byte; true: version 1, whose type byte is 80
unfoldable pub read_lead_of : Bool → Reader Lead
read_lead_of true = do
  messageType ← read_uint8
  test 5 (eqb messageType 0x80)
  suite ← read_esdk_suite_id 1
  return (record { version = 1; messageType = messageType; suite = suite })
read_lead_of false = do
  suite ← read_esdk_suite_id 2
  return (record { version = 2; messageType = 0; suite = suite })

-- up to 7
unfoldable pub read_lead : Which → Reader Lead
read_lead which = do
  version ← read_message_format_version
  test 4 (asked which version)
  read_lead_of (eqb version 1)

-- what stands before the context section
pub record Opening : Type 0 where
  pub version : ℕ
  pub messageType : ℕ
  pub suite : ℕ
  pub messageId : Part

-- 39: the policy forbids the suite, which is of the version
unfoldable pub after_lead : Policy → Lead → Reader Opening
after_lead policy l = do
  test 39 (lets_read policy l.version)
  messageId ← read (id_length l.version)
  return (record { version = l.version; messageType = l.messageType; suite = l.suite; messageId = messageId })

unfoldable pub read_opening : Which → Policy → Reader Opening
read_opening which policy = read_lead which >>= after_lead policy

-- what stands behind the key section
pub record Closing : Type 0 where
  pub contentType : ℕ
  pub headerIvLength : ℕ
  pub frameLength : ℕ
  pub suiteData : Part

-- after the content type; true: version 1, with the reserved bytes and the stored IV length, and no suite data
unfoldable pub read_closing_of : Bool → ℕ → Reader Closing
read_closing_of true content = do
  reserved ← read_uint32
  test 18 (eqb reserved 0)
  iv ← read_uint8
  test 19 (eqb iv iv_length)
  frame ← read_uint32
  return (record { contentType = content; headerIvLength = iv; frameLength = frame; suiteData = record { start = 0; bytes = [] } })
read_closing_of false content = do
  frame ← read_uint32
  suiteData ← read commit_key_length
  return (record { contentType = content; headerIvLength = 0; frameLength = frame; suiteData = suiteData })

unfoldable pub read_closing : Bool → Reader Closing
read_closing v1 = do
  content ← read_content_type
  read_closing_of v1 content

abbrev pub whole : Opening → ContextAt → List EncryptedDataKeyAt → Closing → HeaderBody
whole o x ks c =
    record {
      version = o.version;
      messageType = o.messageType;
      suite = o.suite;
      messageId = o.messageId;
      form = x.form;
      pairs = x.pairs;
      keys = ks;
      contentType = c.contentType;
      headerIvLength = c.headerIvLength;
      frameLength = c.frameLength;
      suiteData = c.suiteData;
    }

-- what a body reader is asked: the version, the policy, the mode, the key maximum, how many numbers its tables hold at most, where it has
-- any; and whether it tests 20
pub record Request : Type 0 where
  pub which : Which
  pub policy : Policy
  pub mode : Mode
  pub max : Max
  pub pairRoom : Max
  pub keyRoom : Max
  pub frames : Bool

unfoldable pub after_keys : Request → Opening → ContextAt → List EncryptedDataKeyAt → Reader HeaderBody
after_keys q o x ks = do
  c ← read_closing (eqb o.version 1)
  test 20 (not q.frames || frame_fits c.contentType c.frameLength)
  test 22 (within (4 * length x.pairs) q.pairRoom)
  test 23 (within (6 * length ks) q.keyRoom)
  return (whole o x ks c)

unfoldable pub after_context : Request → Opening → ContextAt → Reader HeaderBody
after_context q o x = read_encrypted_data_keys_section q.max >>= after_keys q o x

unfoldable pub after_opening : Request → Opening → Reader HeaderBody
after_opening q o = with_mark (read_aad_section q.mode) >>= after_context q o

-- ReadHeaderBody, ReadV1HeaderBody, ReadV2HeaderBody
unfoldable pub read_body : Request → Reader HeaderBody
read_body q = read_opening q.which q.policy >>= after_opening q

-- only the either-version reader tests 20
abbrev pub tests_frames : Which → Bool
tests_frames either = true
tests_frames v1_only = false
tests_frames v2_only = false

abbrev pub request_under : Policy → Which → Mode → Bool → Max → ℕ → ℕ → Request
request_under policy which mode frames max pairRoom keyRoom =
    record { which = which; policy = policy; mode = mode; max = max; pairRoom = at_most pairRoom; keyRoom = at_most keyRoom; frames = frames }

-- the operation, under the policy, in the mode and of the version asked for
unfoldable pub read_header_body_under : Policy → Which → Mode → Max → ℕ → ℕ → Reader HeaderBody
read_header_body_under policy which mode max pairRoom keyRoom = read_body (request_under policy which mode (tests_frames which) max pairRoom keyRoom)

-- the either-version reader with 20 left untested
unfoldable pub read_header_body_untested_under : Policy → Mode → Max → ℕ → ℕ → Reader HeaderBody
read_header_body_untested_under policy mode max pairRoom keyRoom = read_body (request_under policy either mode false max pairRoom keyRoom)

-- and each without a policy
abbrev pub request : Which → Mode → Bool → Max → ℕ → ℕ → Request
request = request_under no_policy

abbrev pub read_header_body : Which → Mode → Max → ℕ → ℕ → Reader HeaderBody
read_header_body = read_header_body_under no_policy

-- before the context section, after the version byte; true: version 1
unfoldable pub write_opening_of : Bool → ℕ → ℕ → List ℕ → List ℕ
write_opening_of true messageType suite messageId = (messageType ∷ []) ++ (write_uint16 suite ++ messageId)
write_opening_of false messageType suite messageId = write_uint16 suite ++ messageId

-- behind the key section and the content type; true: version 1
unfoldable pub write_closing_of : Bool → ℕ → ℕ → List ℕ → List ℕ
write_closing_of true iv frame suiteData = write_uint32 0 ++ ((iv ∷ []) ++ write_uint32 frame)
write_closing_of false iv frame suiteData = write_uint32 frame ++ suiteData

-- the image of the fields, by the mark that stands beside them
unfoldable pub image : Form → Fields → List ℕ
image form f =
    let v1 = eqb f.version 1 in
    ((f.version ∷ []) ++ write_opening_of v1 f.messageType f.suite f.messageId)
    ++ (section_in form f.pairs
    ++ (write_encrypted_data_keys_section f.keys
    ++ ((f.contentType ∷ []) ++ write_closing_of v1 f.headerIvLength f.frameLength f.suiteData)))
