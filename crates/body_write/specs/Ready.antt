-- A body in the crate's own terms: what is to be written of it, how many bytes it takes, in the numbers of its tables, and what its stores ask.
-- Assumes nothing.
use Rattle.std.specs.Prelude.{◌≡◌, List, ℕ, ◌+◌, ◌≤◌, ◌<◌, length}
use Rattle.format.specs.Shared.{by}
use Rattle.format.specs.Policies.{Policy}
use Rattle.format.specs.Fields.{Form as Mark}
use Rattle.format.specs.Body.{image}
use Rattle.format.specs.Lent.{Writing, BodyToWrite, fields_to_write, writing_header_body_under}
use Rattle.checks.specs.Table.{Passed, entries_size}
use Rattle.section_write.specs.Sizes.{aad_section_size, keys_section_size}
use Rattle.ends_write.specs.declared.opening.Opening.{Opening}
use Rattle.ends_write.specs.declared.closing.Closing.{Closing}
use Rattle.fields.specs.Codes.{form_of, form_named}
use Rattle.body_write.specs.Lent.{body_to_write}
use Rattle.body_write.specs.declared.body.Body.{Body}

abbrev pub mark_of : Body → Mark
mark_of b = form_of (form_named b.numbers.form)

abbrev pub opening_of : Body → Opening
opening_of b = record { version = b.numbers.version; messageType = b.numbers.messageType; suite = b.numbers.suite; messageId = b.messageId }

abbrev pub closing_of : Body → Closing
closing_of b =
    record {
      version = b.numbers.version;
      contentType = b.numbers.contentType;
      headerIvLength = b.numbers.headerIvLength;
      frameLength = b.numbers.frameLength;
      suiteData = b.suiteData;
    }

-- as the definition has it
abbrev pub handed : Body → BodyToWrite
handed b = body_to_write b.numbers b.messageId.now b.suiteData.now b.text.now b.pairs.now b.keys.now

abbrev pub writing : Policy → Body → Writing
writing policy b = writing_header_body_under policy (handed b)

-- its image, which no policy changes
abbrev pub image_of : Body → List ℕ
image_of b = image (mark_of b) (fields_to_write (handed b))

abbrev pub body_size : Body → ℕ
body_size b = by b.numbers.version 20 35 + (aad_section_size (mark_of b) b.pairs.now + keys_section_size b.keys.now + by b.numbers.version 10 37)

-- tables short enough for sums of their numbers
pub record Small (b : Body) : Type 0 where
  pub pairs : length b.pairs.now < 4194304
  pub keys : length b.keys.now < 4194304

-- what the stores of both sections from a place on ask
pub record SectionsReady (b : Body) (at room : ℕ) : Type 0 where
  pub pairs : Passed 4 b.text.now b.pairs.now
  pub few : entries_size b.pairs.now < 65534
  pub keys : Passed 6 b.text.now b.keys.now
  pub fits : at + (aad_section_size (mark_of b) b.pairs.now + keys_section_size b.keys.now) ≤ room

-- what the stores of a body ask: all that was tested of numbers, lengths and places, and room
pub record BodyReady (b : Body) (size room : ℕ) : Type 0 where
  pub version : b.numbers.version < 256
  pub messageType : b.numbers.messageType < 256
  pub suite : b.numbers.suite < 65536
  pub contentType : b.numbers.contentType < 256
  pub headerIvLength : b.numbers.headerIvLength < 256
  pub pairs : Passed 4 b.text.now b.pairs.now
  pub few : entries_size b.pairs.now < 65534
  pub keys : Passed 6 b.text.now b.keys.now
  pub idLong : length b.messageId.now ≡ by b.numbers.version 16 32
  pub dataLong : length b.suiteData.now ≡ by b.numbers.version 0 32
  pub opening : 4 + length b.messageId.now ≤ by b.numbers.version 20 35 + 10
  pub ten : 10 ≤ by b.numbers.version 10 37
  pub closing : 5 + length b.suiteData.now ≤ by b.numbers.version 10 37
  pub whole : size ≡ body_size b
  pub fits : size ≤ room
