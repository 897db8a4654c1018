-- The code's answers, of what a reader answers; and the readers that the code shares between two of the format's. Assumes nothing.
use Rattle.std.specs.Prelude.{ℕ, length, Result}
use Rattle.format.specs.Read.{Reader, ◌>>=◌, ◌>>◌, return, test, Answer}
use Rattle.format.specs.Serialize.{read_uint8}
use Rattle.format.specs.Shared.{one_or_two, read_esdk_suite_id}
use Rattle.format.specs.Body.{Lead as LeadRead, Opening as OpeningRead, Closing as ClosingRead}
use Rattle.wire.specs.Codes.{read_of}
use Rattle.wire.specs.declared.refusals.Refusal.{Refusal}
use Rattle.wire.specs.declared.SuccessfulRead.{SuccessfulRead}
use Rattle.ends.specs.declared.Lead.{Lead}
use Rattle.ends.specs.declared.Opening.{Opening}
use Rattle.ends.specs.declared.Closing.{Closing}

-- a byte that is 01 or 02, else refusal k: the version, and the content type
unfoldable pub read_one_or_two : ℕ → Reader ℕ
read_one_or_two k = do
  x ← read_uint8
  test k (one_or_two x)
  return x

-- the suite, behind a version and a type
unfoldable pub read_suite : ℕ → ℕ → Reader LeadRead
read_suite version messageType = do
  suite ← read_esdk_suite_id version
  return (record { version = version; messageType = messageType; suite = suite })

abbrev pub lead_code : LeadRead → Lead
lead_code l = record { version = l.version; messageType = l.messageType; suite = l.suite }

abbrev pub lead_of : Answer LeadRead → Result (SuccessfulRead Lead) Refusal
lead_of = read_of lead_code

abbrev pub opening_code : OpeningRead → Opening
opening_code o =
    record {
      version = o.version;
      messageType = o.messageType;
      suite = o.suite;
      messageIdStart = o.messageId.start;
      messageIdLen = length o.messageId.bytes;
    }

abbrev pub opening_of : Answer OpeningRead → Result (SuccessfulRead Opening) Refusal
opening_of = read_of opening_code

abbrev pub closing_code : ClosingRead → Closing
closing_code c =
    record {
      contentType = c.contentType;
      headerIvLength = c.headerIvLength;
      frameLength = c.frameLength;
      suiteDataStart = c.suiteData.start;
      suiteDataLen = length c.suiteData.bytes;
    }

abbrev pub closing_of : Answer ClosingRead → Result (SuccessfulRead Closing) Refusal
closing_of = read_of closing_code
