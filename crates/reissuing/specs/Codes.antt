-- The contract of reissuing a draft, and what its steps say to each other. Assumes nothing.
use Rattle.std.specs.Prelude.{◌≡◌, false, cond, List, ◌++◌, ℕ, ◌+◌, ◌-◌, ◌≤◌, ◌<◌, eqb, length, Result, Ok, Err}
use Rattle.format.specs.Read.{accepted, refused, operation}
use Rattle.format.specs.Serialize.{write_uint16}
use Rattle.format.specs.Fields.{today, HeaderBody, fields_of}
use Rattle.format.specs.Context.{section_in}
use Rattle.format.specs.Keys.{write_encrypted_data_keys_section}
use Rattle.format.specs.Body.{v1_only, read_body}
use Rattle.format.specs.Lent.{bytes_at}
use Rattle.format.specs.Mending.{without_tables}
use Rattle.format.specs.Reissuing.{Reissue, reissued_header_body}
use Rattle.wire.specs.declared.refusals.Refusal.{Refusal}
use Rattle.body_measure.specs.declared.Measurement.{Measurement}
use Rattle.ends_write.specs.Ends.{write_opening, write_closing}
use Rattle.ends_write.specs.declared.opening.Opening.{Opening}
use Rattle.reissuing.specs.declared.Reissue.{Reissue as Handed}
use Rattle.reissuing.specs.declared.storing.Draft.{Draft}

-- what is added, as the definition has it
abbrev pub added : Handed → Reissue
added r = record { suite = r.suite; messageId = r.messageId.now; suiteData = r.suiteData.now }

abbrev pub opening_of : Handed → Opening
opening_of r = record { version = 2; messageType = 0; suite = r.suite; messageId = r.messageId }

-- the sections stand one behind the other in the message
pub record InMessage (m : List ℕ) (x : Measurement) : Type 0 where
  pub context : x.contextStart ≤ x.keysStart
  pub keys : x.keysStart ≤ x.keysEnd
  pub message : x.keysEnd ≤ length m

-- a context without a pair is written anew
abbrev pub context_kept : List ℕ → Measurement → List ℕ
context_kept m x = cond (eqb x.pairCount 0) (write_uint16 0) (bytes_at m x.contextStart (x.keysStart - x.contextStart))

-- d is what is taken over of x
pub record Keeps (m : List ℕ) (x : Measurement) (d : Draft) : Type 0 where
  pub context : d.context.now ≡ context_kept m x
  pub keys : d.keys.now ≡ bytes_at m x.keysStart (x.keysEnd - x.keysStart)
  pub contentType : d.contentType ≡ x.closing.contentType
  pub frameLength : d.frameLength ≡ x.closing.frameLength

abbrev pub sections : Draft → List ℕ
sections d = d.context.now ++ d.keys.now

-- between new ends
abbrev pub front : Reissue → List ℕ
front a = write_opening false 2 0 a.suite a.messageId

abbrev pub back : Reissue → Draft → List ℕ
back a d = write_closing false d.contentType 0 d.frameLength a.suiteData

abbrev pub body_kept : Reissue → Draft → List ℕ
body_kept a d = front a ++ (sections d ++ back a d)

abbrev pub body_size : Draft → ℕ
body_size d = 35 + (length d.context.now + (length d.keys.now + 37))

-- a version 1 draft stands at s
pub record Stands (m : List ℕ) (s : ℕ) (d : Draft) : Type 0 where
  pub body : HeaderBody
  pub tail : ℕ
  pub reads : operation (read_body (without_tables v1_only)) m s ≡ accepted body tail
  pub contentType : body.contentType ≡ d.contentType
  pub frameLength : body.frameLength ≡ d.frameLength
  pub narrow : d.contentType < 256
  pub context : section_in today (fields_of body).pairs ≡ d.context.now
  pub keys : write_encrypted_data_keys_section (fields_of body).keys ≡ d.keys.now

-- the contract of reading one
pub record Found (m : List ℕ) (s : ℕ) (r : Result Draft Refusal) : Type 0 where
  pub refuses : (q : Refusal) → r ≡ Err q → operation (read_body (without_tables v1_only)) m s ≡ refused q.number q.position
  pub accepts : (d : Draft) → r ≡ Ok d → Stands m s d

-- one that passed every test but for 28: what it becomes
pub record Passed (a : Reissue) (m : List ℕ) (s : ℕ) (d : Draft) : Type 0 where
  pub image : List ℕ
  pub tail : ℕ
  pub reads : operation (reissued_header_body a) m s ≡ accepted image tail
  pub kept : image ≡ body_kept a d
  pub suite : a.suite < 65536
  pub id : length a.messageId ≡ 32
  pub suiteData : length a.suiteData ≡ 32
  pub narrow : d.contentType < 256

-- the contract of these tests
pub record Tested (a : Reissue) (m : List ℕ) (s : ℕ) (r : Result Draft Refusal) : Type 0 where
  pub refuses : (q : Refusal) → r ≡ Err q → operation (reissued_header_body a) m s ≡ refused q.number q.position
  pub accepts : (d : Draft) → r ≡ Ok d → Passed a m s d

-- and has room for its body
pub record CanStore (a : Reissue) (d : Draft) (room : ℕ) : Type 0 where
  pub suite : a.suite < 65536
  pub id : length a.messageId ≡ 32
  pub suiteData : length a.suiteData ≡ 32
  pub narrow : d.contentType < 256
  pub fits : body_size d ≤ room
