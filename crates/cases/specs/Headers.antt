-- More headers worked out: H without pairs in both forms, and a version 2 header; and each written back, its size told before. Assumes nothing.
use Rattle.std.specs.Prelude.{◌≡◌, refl, Bool, true, false, ◌&&◌, List, [], ◌∷◌, ◌++◌, ℕ, ◌+◌, ◌-◌, eqb, take, drop}
use Rattle.format.specs.Read.{Answer, accepted, refused, operation}
use Rattle.format.specs.Serialize.{every, same_bytes}
use Rattle.format.specs.Fields.{today, old, Fields, HeaderBody}
use Rattle.format.specs.Context.{tolerant}
use Rattle.format.specs.Keys.{no_max}
use Rattle.format.specs.Body.{either, read_header_body}
use Rattle.format.specs.Auth.{zeros}
use Rattle.format.specs.Lent.{pair_numbers, key_numbers, items, in_text, part_in, fields_to_write, table_checks, Writing, refusal_of, size_of, writing_header_body_under, writing_header_body, output_after}
use Rattle.format.specs.WrittenBack.{again}
use Rattle.cases.specs.Cases.{Expected, accepts, Case, body, writes, is, passes, body_numbers, H, h_fields, opened, laid_out}

-- H with another context section in the place of its own
unfoldable pub h_with : List ℕ → List ℕ
h_with section = take 20 H ++ (section ++ drop 34 H)

unfoldable pub h_without_pairs : Fields
h_without_pairs =
    record {
      version = h_fields.version;
      messageType = h_fields.messageType;
      suite = h_fields.suite;
      messageId = h_fields.messageId;
      pairs = [];
      keys = h_fields.keys;
      contentType = h_fields.contentType;
      headerIvLength = h_fields.headerIvLength;
      frameLength = h_fields.frameLength;
      suiteData = h_fields.suiteData;
    }

-- 32 bytes, from one on
unfoldable pub bytes_from : ℕ → List ℕ
bytes_from n = n ∷ 0x01 ∷ 0x02 ∷ 0x03 ∷ 0x04 ∷ 0x05 ∷ 0x06 ∷ 0x07 ∷ 0x08 ∷ 0x09 ∷ 0x0A ∷ 0x0B ∷ 0x0C ∷ 0x0D ∷ 0x0E ∷ 0x0F ∷ 0x10 ∷ 0x11 ∷ 0x12 ∷ 0x13 ∷ 0x14 ∷ 0x15 ∷ 0x16 ∷ 0x17 ∷ 0x18 ∷ 0x19 ∷ 0x1A ∷ 0x1B ∷ 0x1C ∷ 0x1D ∷ 0x1E ∷ 0x1F ∷ []

-- a version 2 header of non-framed content, with one pair and one key
unfoldable pub V2 : List ℕ
V2 =
    (0x02 ∷ 0x05 ∷ 0x78 ∷ bytes_from 0xF0)
    ++ ((0x00 ∷ 0x08 ∷ 0x00 ∷ 0x01 ∷ 0x00 ∷ 0x01 ∷ 0x61 ∷ 0x00 ∷ 0x01 ∷ 0x62 ∷ [])
    ++ ((0x00 ∷ 0x01 ∷ 0x00 ∷ 0x01 ∷ 0x70 ∷ 0x00 ∷ 0x00 ∷ 0x00 ∷ 0x01 ∷ 0xAA ∷ [])
    ++ ((0x01 ∷ 0x00 ∷ 0x00 ∷ 0x00 ∷ 0x00 ∷ []) ++ bytes_from 0xC0)))

abbrev pub v2_read : Expected
v2_read = accepts 92 (2 ∷ 0 ∷ 0x0578 ∷ 0 ∷ 3 ∷ 32 ∷ 41 ∷ 1 ∷ 44 ∷ 1 ∷ 49 ∷ 1 ∷ 52 ∷ 0 ∷ 54 ∷ 1 ∷ 1 ∷ 0 ∷ 0 ∷ 60 ∷ 32 ∷ [])

unfoldable pub v2_fields : Fields
v2_fields =
    record {
      version = 2;
      messageType = 0;
      suite = 0x0578;
      messageId = bytes_from 0xF0;
      pairs = record { key = 0x61 ∷ []; value = 0x62 ∷ [] } ∷ [];
      keys = record { keyProviderId = 0x70 ∷ []; keyProviderInfo = []; ciphertext = 0xAA ∷ [] } ∷ [];
      contentType = 1;
      headerIvLength = 0;
      frameLength = 0;
      suiteData = bytes_from 0xC0;
    }

unfoldable pub headers : List Case
headers =
    body (h_with (0x00 ∷ 0x00 ∷ [])) 0 (accepts 46 (1 ∷ 0x80 ∷ 0x0178 ∷ 0 ∷ 4 ∷ 16 ∷ 26 ∷ 2 ∷ 30 ∷ 1 ∷ 33 ∷ 3 ∷ 2 ∷ 12 ∷ 4096 ∷ 0 ∷ 0 ∷ []))
    ∷ body (h_with (0x00 ∷ 0x02 ∷ 0x00 ∷ 0x00 ∷ [])) 0 (accepts 48 (1 ∷ 0x80 ∷ 0x0178 ∷ 1 ∷ 4 ∷ 16 ∷ 28 ∷ 2 ∷ 32 ∷ 1 ∷ 35 ∷ 3 ∷ 2 ∷ 12 ∷ 4096 ∷ 0 ∷ 0 ∷ []))
    ∷ writes today h_without_pairs (h_with (0x00 ∷ 0x00 ∷ []))
    ∷ writes old h_without_pairs (h_with (0x00 ∷ 0x02 ∷ 0x00 ∷ 0x00 ∷ []))
    ∷ body V2 0 v2_read
    ∷ body (0xFF ∷ 0xFF ∷ V2 ++ (0xFF ∷ [])) 2 (accepts 94 (2 ∷ 0 ∷ 0x0578 ∷ 0 ∷ 5 ∷ 32 ∷ 43 ∷ 1 ∷ 46 ∷ 1 ∷ 51 ∷ 1 ∷ 54 ∷ 0 ∷ 56 ∷ 1 ∷ 1 ∷ 0 ∷ 0 ∷ 62 ∷ 32 ∷ []))
    ∷ writes today v2_fields V2
    ∷ []

pub headers_hold : every passes headers ≡ true
unfolding opened laid_out headers passes is H h_fields h_with h_without_pairs bytes_from V2 v2_fields body_numbers
headers_hold = refl

-- the call that writes a body that was read again
abbrev writing_again : List ℕ → HeaderBody → Writing
writing_again m b = writing_header_body (again m b (pair_numbers b.pairs) (key_numbers b.keys))

-- what is written of it, into an output of zeros as long as the bytes consumed and one more
abbrev written_again : List ℕ → ℕ → Answer HeaderBody → List ℕ
written_again m s (accepted b t) = output_after (writing_again m b) (zeros (t - s + 1))
written_again m s (refused k p) = []

-- and what is told of its size
abbrev takes : Answer (Unit {0}) → ℕ → Bool
takes (accepted u n) size = eqb n size
takes (refused k p) size = false

abbrev told_again : List ℕ → ℕ → Answer HeaderBody → Bool
told_again m size (accepted b t) = takes (size_of (writing_again m b)) size
told_again m size (refused k p) = false

-- the message, the start, and how many bytes the body takes
pub record Back : Type 0 where
  pub message : List ℕ
  pub start : ℕ
  pub size : ℕ

abbrev back : List ℕ → ℕ → ℕ → Back
back m s n = record { message = m; start = s; size = n }

unfoldable pub comes_back : Back → Bool
comes_back x =
    let read = operation (read_header_body either tolerant no_max 4096 4096) x.message x.start in
    told_again x.message x.size read && same_bytes (written_again x.message x.start read) (take x.size (drop x.start x.message) ++ (0x00 ∷ []))

unfoldable pub refiled : List Back
refiled =
    back H 0 58
    ∷ back (h_with (0x00 ∷ 0x00 ∷ [])) 0 46
    ∷ back (h_with (0x00 ∷ 0x02 ∷ 0x00 ∷ 0x00 ∷ [])) 0 48
    ∷ back (0xFF ∷ 0xFF ∷ V2 ++ (0xFF ∷ [])) 2 92
    ∷ []

pub all_come_back : every comes_back refiled ≡ true
unfolding opened laid_out refiled comes_back H h_with bytes_from V2 zeros again items in_text part_in fields_to_write table_checks refusal_of writing_header_body_under
all_come_back = refl
