-- The contract of listing a message, and how the code has the text of a header: in the numbers of its record and its tables.
-- Assumes nothing.
use Rattle.std.specs.Prelude.{◌≡◌, cond, List, [], ◌++◌, ℕ, ◌<◌, eqb, length, Result}
use Rattle.format.specs.Serialize.{Bytes}
use Rattle.format.specs.Lent.{bytes_at, Writing}
use Rattle.checks.specs.Answers.{Writes}
use Rattle.body_reader.specs.Codes.{ReadsBody}
use Rattle.body_reader.specs.declared.HeaderBody.{HeaderBody}
use Rattle.fields.specs.declared.BodyNumbers.{BodyNumbers}
use Rattle.wire.specs.declared.SuccessfulRead.{SuccessfulRead}
use Rattle.wire.specs.declared.refusals.Refusal.{Refusal}
use Rattle.text.specs.Text.{hex, field, line}
use Rattle.listing_text.specs.Listing.{as_listed, header_fields, word_header, word_id, word_data}
use Rattle.text.specs.Put.{There}

-- a text to write: no refusal but 28, that it is longer than the output
abbrev pub writing_text : List ℕ → Writing
writing_text text = record { checks = []; image = text }

abbrev pub Lists : List ℕ → List ℕ → List ℕ → Result ℕ Refusal → Type 0
Lists text = Writes (writing_text text)

-- the header's line, of the numbers in its record
abbrev pub header_fields_of : BodyNumbers → ℕ → List ℕ
header_fields_of n tail = header_fields n.version n.messageType n.suite n.contentType n.frameLength tail

abbrev pub header_text : BodyNumbers → ℕ → List ℕ
header_text n tail = line word_header (header_fields_of n tail)

-- a part of the message on a line of its own
abbrev pub part_text : List ℕ → List ℕ → ℕ → ℕ → List ℕ
part_text m word start len = line word (field (hex (bytes_at m start len)))

unfoldable pub front_text : List ℕ → HeaderBody → ℕ → List ℕ
front_text m b tail = header_text b.numbers tail ++ part_text m word_id b.messageIdStart b.messageIdLen

unfoldable pub data_text : List ℕ → ℕ → ℕ → ℕ → List ℕ
data_text m version start len = cond (eqb version 2) (part_text m word_data start len) []

-- the message has the ID's bytes and the suite data's, and is not too long
pub record BodyThere (m : List ℕ) (b : HeaderBody) : Type 0 where
  pub short : length m < 4294967296
  pub messageId : There m b.messageIdStart b.messageIdLen
  pub suiteData : There m b.suiteDataStart b.suiteDataLen

-- the answer and the tables are what reading the message gave
pub record Reading (m : List ℕ) (a : Result (SuccessfulRead HeaderBody) Refusal) (pairs keys : List ℕ) : Type 0 where
  pub pairsBefore : List ℕ
  pub keysBefore : List ℕ
  pub pairRoom : length pairsBefore ≡ 4096
  pub keyRoom : length keysBefore ≡ 4096
  pub bytes : Bytes m
  pub reads : ReadsBody (as_listed m 0) pairsBefore pairs keysBefore keys a
