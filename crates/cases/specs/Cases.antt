-- The cases that document 01 marks, in its order, in one table with one statement, with those that document 02 answers by 32. Assumes nothing.
use Rattle.std.specs.Prelude.{◌≡◌, refl, Bool, true, false, ◌&&◌, List, [], ◌∷◌, ◌++◌, ℕ, eqb, take}
use Rattle.std.proofs.Math.Option.{Option, none, some}
use Rattle.format.specs.Read.{◌>>=◌, ◌>>◌, return, test, held, repeat, enclosed, Answer, accepted, refused, at, operation}
use Rattle.format.specs.Serialize.{read, read_uint, read_uint8, read_uint16, write_uint16, read_uint32, write_uint32, read_short_length_seq, write_short_length_seq, images, sum, every, same_bytes}
use Rattle.format.specs.Utf8.{rows, first_byte, octets}
use Rattle.format.specs.Shared.{suites, version_in, read_message_format_version, read_esdk_suite_id, read_content_type, frame_fits}
use Rattle.format.specs.Fields.{Form, today, form_number, Fields, HeaderBody}
use Rattle.format.specs.Context.{seen, write_aad_pair, write_aad_pairs, write_aad, write_expanded_aad_section, write_aad_section, Mode, tolerant, strict, read_text, read_aad_pair, read_next_aad_pair, read_aad_by, read_aad, read_aad_of, read_aad_section, with_mark, read_aad_section_into}
use Rattle.format.specs.Keys.{no_max, write_encrypted_data_key, write_encrypted_data_keys, write_encrypted_data_keys_section, read_encrypted_data_key, read_encrypted_data_keys_of, read_encrypted_data_keys_section}
use Rattle.format.specs.Body.{either, read_lead_of, read_lead, after_lead, read_opening, read_closing_of, read_closing, after_keys, after_context, after_opening, read_body, read_header_body_under, read_header_body, write_opening_of, write_closing_of, image}
use Rattle.format.specs.Checks.{first, each, pairs_checks, keys_checks, body_checks_under, body_checks}
use Rattle.format.specs.Lent.{place, pair_numbers, key_numbers}

-- what is expected: the tail and the numbers read, or a refusal's number and position
pub data Expected : Type 0 where
  accepts : ℕ → List ℕ → Expected
  refuses : ℕ → ℕ → Expected

abbrev pub shortage_at : ℕ → Expected
shortage_at position = refuses 2 position

-- a body's numbers: version, type, suite, mark, the ID's place, the tables, content type, IV length, frame length, the suite data's place
unfoldable pub body_numbers : HeaderBody → List ℕ
body_numbers b =
    (b.version ∷ b.messageType ∷ b.suite ∷ form_number b.form ∷ place b.messageId)
    ++ (pair_numbers b.pairs ++ (key_numbers b.keys ++ (b.contentType ∷ b.headerIvLength ∷ b.frameLength ∷ place b.suiteData)))

pub data Case : Type 0 where
  -- a context section at start 0
  section : Mode → List ℕ → Expected → Case
  -- a message read at a start, by the tolerant either-version reader with no maximum
  body : List ℕ → ℕ → Expected → Case
  -- fields that our writer accepts, given the mark, and their image
  writes : Form → Fields → List ℕ → Case

unfoldable pub is : {A : Type 0} → (A → List ℕ) → Answer A → Expected → Bool
is numbers (accepted a t) (accepts tail these) = eqb t tail && same_bytes (numbers a) these
is numbers (accepted a t) (refuses k p) = false
is numbers (refused k p) (accepts tail these) = false
is numbers (refused k p) (refuses number position) = eqb k number && eqb p position

abbrev no_refusal : Option ℕ → Bool
no_refusal none = true
no_refusal (some k) = false

unfoldable pub passes : Case → Bool
passes (section mode m want) = is pair_numbers (operation (read_aad_section_into mode 4096) m 0) want
passes (body m s want) = is body_numbers (operation (read_header_body either tolerant no_max 4096 4096) m s) want
passes (writes form f want) = no_refusal (first (body_checks [] [] form f)) && same_bytes (image form f) want

-- header H
unfoldable pub H : List ℕ
H =
    0x01 ∷ 0x80 ∷ 0x01 ∷ 0x78
    ∷ 0x00 ∷ 0x01 ∷ 0x02 ∷ 0x03 ∷ 0x04 ∷ 0x05 ∷ 0x06 ∷ 0x07 ∷ 0x08 ∷ 0x09 ∷ 0x0A ∷ 0x0B ∷ 0x0C ∷ 0x0D ∷ 0x0E ∷ 0x0F
    ∷ 0x00 ∷ 0x0C ∷ 0x00 ∷ 0x01 ∷ 0x00 ∷ 0x04 ∷ 0x6C ∷ 0x61 ∷ 0x6E ∷ 0x67 ∷ 0x00 ∷ 0x02 ∷ 0x63 ∷ 0x79
    ∷ 0x00 ∷ 0x01 ∷ 0x00 ∷ 0x02 ∷ 0x70 ∷ 0x31 ∷ 0x00 ∷ 0x01 ∷ 0x61 ∷ 0x00 ∷ 0x03 ∷ 0xAA ∷ 0xBB ∷ 0xCC
    ∷ 0x02
    ∷ 0x00 ∷ 0x00 ∷ 0x00 ∷ 0x00
    ∷ 0x0C
    ∷ 0x00 ∷ 0x00 ∷ 0x10 ∷ 0x00
    ∷ []

abbrev pub h_read : Expected
h_read = accepts 58 (1 ∷ 0x80 ∷ 0x0178 ∷ 0 ∷ 4 ∷ 16 ∷ 26 ∷ 4 ∷ 32 ∷ 2 ∷ 38 ∷ 2 ∷ 42 ∷ 1 ∷ 45 ∷ 3 ∷ 2 ∷ 12 ∷ 4096 ∷ 0 ∷ 0 ∷ [])

unfoldable pub h_fields : Fields
h_fields =
    record {
      version = 1;
      messageType = 0x80;
      suite = 0x0178;
      messageId = 0 ∷ 1 ∷ 2 ∷ 3 ∷ 4 ∷ 5 ∷ 6 ∷ 7 ∷ 8 ∷ 9 ∷ 10 ∷ 11 ∷ 12 ∷ 13 ∷ 14 ∷ 15 ∷ [];
      pairs = record { key = 0x6C ∷ 0x61 ∷ 0x6E ∷ 0x67 ∷ []; value = 0x63 ∷ 0x79 ∷ [] } ∷ [];
      keys = record { keyProviderId = 0x70 ∷ 0x31 ∷ []; keyProviderInfo = 0x61 ∷ []; ciphertext = 0xAA ∷ 0xBB ∷ 0xCC ∷ [] } ∷ [];
      contentType = 2;
      headerIvLength = 12;
      frameLength = 4096;
      suiteData = [];
    }

unfoldable pub cases : List Case
cases =
    section tolerant (0x00 ∷ 0x00 ∷ []) (accepts 2 [])
    ∷ section tolerant (0x00 ∷ 0x02 ∷ 0x00 ∷ 0x00 ∷ []) (accepts 4 [])
    ∷ section strict (0x00 ∷ 0x02 ∷ 0x00 ∷ 0x00 ∷ []) (refuses 21 0)
    ∷ section tolerant (0x00 ∷ 0x02 ∷ 0x00 ∷ 0x01 ∷ []) (refuses 8 0)
    ∷ section tolerant (0x00 ∷ 0x03 ∷ 0x00 ∷ 0x00 ∷ 0x00 ∷ []) (refuses 9 0)
    ∷ section tolerant (0x00 ∷ 0x01 ∷ 0x00 ∷ []) (refuses 32 0)
    ∷ section tolerant (0x00 ∷ 0x01 ∷ 0x00 ∷ 0x00 ∷ []) (refuses 32 0)
    ∷ section tolerant (0x00 ∷ 0x06 ∷ 0x00 ∷ 0x01 ∷ 0x00 ∷ 0x00 ∷ 0x00 ∷ 0x00 ∷ []) (accepts 8 (6 ∷ 0 ∷ 8 ∷ 0 ∷ []))
    ∷ section tolerant (0x00 ∷ 0x0A ∷ 0x00 ∷ 0x02 ∷ 0x00 ∷ 0x00 ∷ 0x00 ∷ 0x00 ∷ 0x00 ∷ 0x00 ∷ 0x00 ∷ 0x00 ∷ []) (refuses 12 0)
    ∷ section tolerant (0x00 ∷ 0x04 ∷ 0x00 ∷ 0x01 ∷ 0x00 ∷ 0x05 ∷ []) (refuses 32 0)
    ∷ section tolerant (0x00 ∷ 0x04 ∷ 0x00 ∷ 0x01 ∷ 0x00 ∷ 0x05 ∷ 0x61 ∷ 0x62 ∷ 0x63 ∷ 0x64 ∷ 0x65 ∷ 0x00 ∷ 0x00 ∷ []) (refuses 32 0)
    ∷ body H 0 h_read
    ∷ writes today h_fields H
    ∷ body (take 22 H) 0 (shortage_at 34)
    ∷ body H 70 (shortage_at 71)
    ∷ []

-- to unfold this is to unfold all that a reader is made of
unfoldable pub opened : Unit {0}
unfolding ◌>>=◌ ◌>>◌ return test held repeat enclosed at operation read read_uint read_uint8 read_uint16 read_uint32 read_short_length_seq sum same_bytes rows first_byte octets suites version_in read_message_format_version read_esdk_suite_id read_content_type frame_fits seen read_text read_aad_pair read_next_aad_pair read_aad_by read_aad read_aad_of read_aad_section with_mark read_aad_section_into read_encrypted_data_key read_encrypted_data_keys_of read_encrypted_data_keys_section read_lead_of read_lead after_lead read_opening read_closing_of read_closing after_keys after_context after_opening read_body read_header_body_under
opened = tt

-- and a writer
unfoldable pub laid_out : Unit {0}
unfolding write_uint16 write_uint32 write_short_length_seq images every write_aad_pair write_aad_pairs write_aad write_expanded_aad_section write_aad_section write_encrypted_data_key write_encrypted_data_keys write_encrypted_data_keys_section write_opening_of write_closing_of image first each pairs_checks keys_checks body_checks_under
laid_out = tt

pub marked : every passes cases ≡ true
unfolding opened laid_out cases passes is H h_fields body_numbers
marked = refl
