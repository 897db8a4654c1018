-- The records that answers become: of an answer of a definition `..-record`, of the code's `..-fields`; number 0: accepted. Assumes nothing.
use Rattle.std.specs.Prelude.{ℕ, List, length, Result, Ok, Err}
use Rattle.format.specs.Read.{Answer, accepted, refused}
use Rattle.format.specs.Serialize.{Part}
use Rattle.format.specs.Fields.{HeaderBody as BodyRead}
use Rattle.format.specs.Auth.{no_header_auth}
use Rattle.format.specs.Auth.{HeaderAuth as AuthTag}
use Rattle.fields.specs.declared.BodyNumbers.{BodyNumbers}
use Rattle.wire.specs.declared.refusals.Refusal.{Refusal}
use Rattle.wire.specs.declared.SuccessfulRead.{SuccessfulRead}
use Rattle.context.specs.declared.Place.{Place}
use Rattle.auth.specs.declared.HeaderAuth.{HeaderAuth}
use Rattle.body_reader.specs.Codes.{body_code}
use Rattle.body_reader.specs.declared.HeaderBody.{HeaderBody as BodyCode}
use Rattle.crossing.specs.declared.BafirolenSection.{BafirolenSection}
use Rattle.crossing.specs.declared.BafirolenAuth.{BafirolenAuth}
use Rattle.crossing.specs.declared.BafirolenBody.{BafirolenBody}
use Rattle.crossing.specs.declared.BafirolenPlace.{BafirolenPlace}
use Rattle.crossing.specs.declared.BafirolenWritten.{BafirolenWritten}

-- a section of pairs or of keys, and frames: how many, and the tail
abbrev pub section_with : ℕ → ℕ → BafirolenSection
section_with n t = record { number = 0; position = 0; count = n; tail = t }

abbrev pub no_section : ℕ → ℕ → BafirolenSection
no_section k p = record { number = k; position = p; count = 0; tail = 0 }

abbrev pub section_record : {A : Type 0} → Answer (List A) → BafirolenSection
section_record (accepted items t) = section_with (length items) t
section_record (refused k p) = no_section k p

abbrev pub section_fields : Result (SuccessfulRead ℕ) Refusal → BafirolenSection
section_fields (Ok r) = section_with r.value r.tail
section_fields (Err q) = no_section q.number q.position

-- an authentication record
abbrev pub auth_record : Answer AuthTag → BafirolenAuth
auth_record (accepted a t) = record { number = 0; position = 0; tail = t; iv = a.headerIv; tag = a.headerAuthTag }
auth_record (refused k p) = record { number = k; position = p; tail = 0; iv = no_header_auth.headerIv; tag = no_header_auth.headerAuthTag }

abbrev pub auth_fields : Result (SuccessfulRead HeaderAuth) Refusal → BafirolenAuth
auth_fields (Ok r) = record { number = 0; position = 0; tail = r.tail; iv = r.value.iv; tag = r.value.tag }
auth_fields (Err q) = record { number = q.number; position = q.position; tail = 0; iv = no_header_auth.headerIv; tag = no_header_auth.headerAuthTag }

-- a body
abbrev pub body_with : BodyCode → ℕ → BafirolenBody
body_with b t =
    record {
      number = 0;
      position = 0;
      numbers = b.numbers;
      messageIdStart = b.messageIdStart;
      messageIdLen = b.messageIdLen;
      pairCount = b.pairCount;
      keyCount = b.keyCount;
      suiteDataStart = b.suiteDataStart;
      suiteDataLen = b.suiteDataLen;
      tail = t;
    }

abbrev no_numbers : BodyNumbers
no_numbers = record { version = 0; messageType = 0; suite = 0; contentType = 0; headerIvLength = 0; frameLength = 0; form = 0 }

abbrev pub no_body : ℕ → ℕ → BafirolenBody
no_body k p =
    record {
      number = k;
      position = p;
      numbers = no_numbers;
      messageIdStart = 0;
      messageIdLen = 0;
      pairCount = 0;
      keyCount = 0;
      suiteDataStart = 0;
      suiteDataLen = 0;
      tail = 0;
    }

abbrev pub body_record : Answer BodyRead → BafirolenBody
body_record (accepted b t) = body_with (body_code b) t
body_record (refused k p) = no_body k p

abbrev pub body_fields : Result (SuccessfulRead BodyCode) Refusal → BafirolenBody
body_fields (Ok r) = body_with r.value r.tail
body_fields (Err q) = no_body q.number q.position

-- a value
abbrev pub place_record : Answer Part → BafirolenPlace
place_record (accepted v t) = record { number = 0; position = 0; start = v.start; len = length v.bytes }
place_record (refused k p) = record { number = k; position = p; start = 0; len = 0 }

abbrev pub found_fields : Result Place Refusal → BafirolenPlace
found_fields (Ok p) = record { number = 0; position = 0; start = p.start; len = p.len }
found_fields (Err q) = record { number = q.number; position = q.position; start = 0; len = 0 }

-- what was written or copied: a number, a position, a length
abbrev pub wrote : ℕ → ℕ → ℕ → BafirolenWritten
wrote k p n = record { number = k; position = p; length = n }

-- what was written, or would be
abbrev pub written_record : Answer (Unit {0}) → BafirolenWritten
written_record (accepted u n) = wrote 0 0 n
written_record (refused k p) = wrote k p 0

abbrev pub write_fields : Result ℕ Refusal → BafirolenWritten
write_fields (Ok n) = wrote 0 0 n
write_fields (Err q) = wrote q.number q.position 0

-- an image that was written
abbrev pub image_record : Answer (List ℕ) → BafirolenWritten
image_record (accepted image t) = wrote 0 0 (length image)
image_record (refused k p) = wrote k p 0
