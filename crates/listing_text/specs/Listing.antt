-- The listing of a message: one text for every message, that of the header at its front or that of the refusal.
-- Assumes nothing.
use Rattle.std.specs.Prelude.{cond, List, [], ◌∷◌, ◌++◌, ℕ, eqb}
use Rattle.format.specs.Read.{Answer, accepted, refused, operation}
use Rattle.format.specs.Serialize.{Part, write_uint, images}
use Rattle.format.specs.Fields.{HeaderBody, pair_places, key_places}
use Rattle.format.specs.Context.{tolerant}
use Rattle.format.specs.Keys.{no_max}
use Rattle.format.specs.Body.{either, read_header_body}
use Rattle.text.specs.Text.{hex, field, line, decimal_field}

-- a part of the message, in its bytes
abbrev pub hex_field : Part → List ℕ
hex_field p = field (hex p.bytes)

-- a number of that many bytes, as it is stored
abbrev pub number_field : ℕ → ℕ → List ℕ
number_field width x = field (hex (write_uint width x))

abbrev pub word_header : List ℕ
word_header = 0x68 ∷ 0x65 ∷ 0x61 ∷ 0x64 ∷ 0x65 ∷ 0x72 ∷ []

abbrev pub word_id : List ℕ
word_id = 0x69 ∷ 0x64 ∷ []

abbrev pub word_pair : List ℕ
word_pair = 0x70 ∷ 0x61 ∷ 0x69 ∷ 0x72 ∷ []

abbrev pub word_key : List ℕ
word_key = 0x6B ∷ 0x65 ∷ 0x79 ∷ []

abbrev pub word_data : List ℕ
word_data = 0x64 ∷ 0x61 ∷ 0x74 ∷ 0x61 ∷ []

abbrev pub word_refused : List ℕ
word_refused = 0x72 ∷ 0x65 ∷ 0x66 ∷ 0x75 ∷ 0x73 ∷ 0x65 ∷ 0x64 ∷ []

-- a line for each item, with the item's parts in order
unfoldable pub lines : {A : Type 0} → List ℕ → (A → List Part) → List A → List ℕ
lines word parts items = images (λ item. line word (images hex_field (parts item))) items

-- type, suite and content type
unfoldable pub number_fields : ℕ → ℕ → ℕ → List ℕ
number_fields messageType suite contentType = number_field 1 messageType ++ (number_field 2 suite ++ number_field 1 contentType)

-- version, type, suite, content type, frame length, tail
abbrev pub header_fields : ℕ → ℕ → ℕ → ℕ → ℕ → ℕ → List ℕ
header_fields version messageType suite contentType frameLength tail =
    decimal_field version ++ (number_fields messageType suite contentType ++ (decimal_field frameLength ++ decimal_field tail))

abbrev pub header_line : HeaderBody → ℕ → List ℕ
header_line b tail =
    line word_header (header_fields b.version b.messageType b.suite b.contentType b.frameLength tail)

-- the ID, and the suite data, which version 2 alone has
abbrev pub part_line : List ℕ → Part → List ℕ
part_line word p = line word (hex_field p)

abbrev pub data_line : HeaderBody → List ℕ
data_line b = cond (eqb b.version 2) (part_line word_data b.suiteData) []

-- an accepted header, with its tail
unfoldable pub body_listing : HeaderBody → ℕ → List ℕ
body_listing b tail =
    header_line b tail
    ++ (part_line word_id b.messageId ++ (lines word_pair pair_places b.pairs ++ (lines word_key key_places b.keys ++ data_line b)))

abbrev pub refusal_listing : ℕ → ℕ → List ℕ
refusal_listing number position = line word_refused (decimal_field number ++ decimal_field position)

abbrev pub listing_of : Answer HeaderBody → List ℕ
listing_of (accepted b t) = body_listing b t
listing_of (refused k p) = refusal_listing k p

-- a header as the listing program and a host's two calls read it: either version, tolerantly, with no maximum and tables of
-- 4,096 numbers
abbrev pub as_listed : List ℕ → ℕ → Answer HeaderBody
as_listed m start = operation (read_header_body either tolerant no_max 4096 4096) m start

-- the header at the front
unfoldable pub listing : List ℕ → List ℕ
listing m = listing_of (as_listed m 0)
