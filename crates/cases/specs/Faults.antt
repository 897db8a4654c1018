-- Where two refusals apply, the first listed is answered: messages and fields with two faults, one behind the other in the order of
-- the tests, in one table with one statement. Of readers these are examples of the lists in Rattle.format.specs.First; of writers,
-- whose lists are their definitions, they pin the order. Assumes nothing.
use Rattle.std.specs.Prelude.{◌≡◌, refl, Bool, true, false, List, [], ◌∷◌, ◌++◌, ℕ, eqb, take, drop, replicate}
use Rattle.std.proofs.Math.Option.{Option, none, some}
use Rattle.format.specs.Read.{operation}
use Rattle.format.specs.Serialize.{every}
use Rattle.format.specs.Fields.{Form, today, old, Pair, EncryptedDataKey}
use Rattle.format.specs.Context.{Mode, tolerant, strict, read_aad_section_into, look_up, find_value}
use Rattle.format.specs.Keys.{no_max, at_most, read_encrypted_data_keys_section_into}
use Rattle.format.specs.Body.{Which, either, v1_only, v2_only, read_header_body}
use Rattle.format.specs.Auth.{read_header_auth_tag, read_header_auth_tag_of, write_header_auth_tag, zeros}
use Rattle.format.specs.Frames.{Frame, read_frames_into}
use Rattle.format.specs.OnlyAuthenticated.{write_only_authenticated}
use Rattle.format.specs.Checks.{first, pairs_checks, keys_checks, auth_checks, frames_checks}
use Rattle.format.specs.Lent.{pair_numbers, key_numbers, frame_numbers, table_checks, Writing, refusal_of, BodyToWrite, fields_to_write, writing_aad_section, writing_encrypted_data_keys_section, writing_header_body_under, writing_header_body, writing_header_auth_tag, writing_frames}
use Rattle.cases.specs.Cases.{Expected, accepts, refuses, shortage_at, is, body_numbers, H, opened, laid_out}
use Rattle.cases.specs.Headers.{bytes_from, V2}
use Rattle.cases.specs.Tags.{selecting}
use Rattle.cases.specs.Frames.{iv, tag, regular, final, two, of_frames}

pub data Fault : Type 0 where
  -- a context section of a mode, with a table of so many numbers
  section : Mode → ℕ → List ℕ → Expected → Fault
  -- a value's key, in a context section
  find : List ℕ → List ℕ → Expected → Fault
  -- what is only authenticated of a context section, by a required table over no text, into an output of so many bytes
  select : List ℕ → ℕ → List ℕ → Expected → Fault
  -- a key section, at most one key, with a table of so many numbers
  keys : ℕ → List ℕ → Expected → Fault
  -- a body, at a start, with tables of so many numbers each
  body : Which → ℕ → ℕ → List ℕ → ℕ → Expected → Fault
  -- a body read strictly, with no tables
  strictly : List ℕ → Expected → Fault
  -- an authentication record of a suite, at a start
  auth : ℕ → List ℕ → ℕ → Expected → Fault
  -- frames of a frame length, at a start, with a table of so many numbers
  frames : ℕ → ℕ → List ℕ → ℕ → Expected → Fault
  -- a writer's call, into an output of no bytes
  write : Writing → ℕ → Fault
  -- pairs, keys and frames of length 2 that a writer is handed, whatever their table
  write_pairs : List Pair → ℕ → Fault
  write_keys : List EncryptedDataKey → ℕ → Fault
  write_frames : List Frame → ℕ → Fault

abbrev none_else : Option ℕ → ℕ → Bool
none_else none k = false
none_else (some j) k = eqb j k

abbrev no_numbers : {A : Type 0} → A → List ℕ
no_numbers a = []

unfoldable pub answered : Fault → Bool
answered (section mode room m want) = is pair_numbers (operation (read_aad_section_into mode room) m 0) want
answered (find k m want) = is no_numbers (operation (find_value k) m 0) want
answered (select required room m want) = is (λ bytes. bytes) (operation (write_only_authenticated [] required room) m 0) want
answered (keys room m want) = is key_numbers (operation (read_encrypted_data_keys_section_into (at_most 1) room) m 0) want
answered (body which pairRoom keyRoom m s want) = is body_numbers (operation (read_header_body which tolerant no_max pairRoom keyRoom) m s) want
answered (strictly m want) = is body_numbers (operation (read_header_body either strict no_max 0 0) m 0) want
answered (auth suite m s want) = is no_numbers (operation (read_header_auth_tag suite) m s) want
answered (frames frame room m s want) = is frame_numbers (operation (read_frames_into frame room) m s) want
answered (write w k) = none_else (refusal_of w []) k
answered (write_pairs ps k) = none_else (first (pairs_checks ps)) k
answered (write_keys ks k) = none_else (first (keys_checks ks)) k
answered (write_frames fs k) = none_else (first (frames_checks 2 [] fs)) k

-- H up to its key section's end, with another rest
abbrev before_closing : List ℕ → List ℕ
before_closing rest = take 48 H ++ rest

abbrev pub id : List ℕ
id = take 16 (drop 4 H)

-- a call of the body writer that writes H, but for the text, the mark and the numbers given
abbrev pub lent_in : Form → List ℕ → ℕ → ℕ → ℕ → List ℕ → List ℕ → List ℕ → ℕ → ℕ → List ℕ → ℕ → BodyToWrite
lent_in form text version messageType suite messageId pairTable keyTable contentType iv suiteData frame =
    record {
      version = version;
      messageType = messageType;
      suite = suite;
      contentType = contentType;
      headerIvLength = iv;
      frameLength = frame;
      form = form;
      messageId = messageId;
      suiteData = suiteData;
      text = text;
      pairTable = pairTable;
      keyTable = keyTable;
    }

abbrev to_write_in : Form → List ℕ → ℕ → ℕ → ℕ → List ℕ → List ℕ → List ℕ → ℕ → ℕ → List ℕ → ℕ → Writing
to_write_in form text version messageType suite messageId pairTable keyTable contentType iv suiteData frame =
    writing_header_body (lent_in form text version messageType suite messageId pairTable keyTable contentType iv suiteData frame)

abbrev pub some_text : List ℕ
some_text = 0x6C ∷ 0x61 ∷ 0x6E ∷ 0x67 ∷ 0x63 ∷ 0x79 ∷ 0xFF ∷ []

abbrev to_write : ℕ → ℕ → ℕ → List ℕ → List ℕ → List ℕ → ℕ → ℕ → List ℕ → ℕ → Writing
to_write = to_write_in today some_text

-- a key table of one key, whose parts are empty
abbrev pub one : List ℕ
one = 0 ∷ 0 ∷ 0 ∷ 0 ∷ 0 ∷ 0 ∷ []

-- marked old, with those tables and nothing behind them that would pass
abbrev old_with : List ℕ → List ℕ → Writing
old_with pairTable keyTable = to_write_in old some_text 1 0x80 0x0178 id pairTable keyTable 0 0 [] 0

-- two frames of length 2, whose parts have those lengths
abbrev of_lengths : ℕ → ℕ → ℕ → ℕ → ℕ → ℕ → Writing
of_lengths iv content tag iv₂ content₂ tag₂ = writing_frames 2 two (4 ∷ iv ∷ 16 ∷ content ∷ 18 ∷ tag ∷ 42 ∷ iv₂ ∷ 56 ∷ content₂ ∷ 58 ∷ tag₂ ∷ [])

-- no UTF-8
abbrev long_text : ℕ → List ℕ
long_text n = replicate n 0xFF

unfoldable pub faults : List Fault
faults =
    -- read a body
    body either 0 0 [] 4294967296 (refuses 1 0)
    ∷ body either 0 0 (0x03 ∷ []) 0 (refuses 3 0)
    ∷ body v2_only 0 0 (0x01 ∷ 0x81 ∷ []) 0 (refuses 4 0)
    ∷ body v1_only 0 0 (0x02 ∷ []) 0 (refuses 4 0)
    ∷ body either 0 0 (0x01 ∷ 0x81 ∷ []) 0 (refuses 5 0)
    ∷ body either 0 0 (0x01 ∷ 0x80 ∷ 0x04 ∷ 0x99 ∷ []) 0 (refuses 6 0)
    ∷ body either 0 0 (0x02 ∷ 0x00 ∷ 0x00 ∷ []) 0 (refuses 6 0)
    ∷ body either 0 0 (0x01 ∷ 0x80 ∷ 0x04 ∷ 0x78 ∷ []) 0 (refuses 7 0)
    ∷ body either 0 0 (0x02 ∷ 0x01 ∷ 0x78 ∷ []) 0 (refuses 7 0)
    ∷ body either 0 0 (before_closing (0x03 ∷ [])) 0 (refuses 17 0)
    ∷ body either 0 0 (before_closing (0x02 ∷ 0x00 ∷ 0x00 ∷ 0x00 ∷ 0x01 ∷ [])) 0 (refuses 18 0)
    ∷ body either 0 0 (before_closing (0x02 ∷ 0x00 ∷ 0x00 ∷ 0x00 ∷ 0x00 ∷ 0x0B ∷ [])) 0 (refuses 19 0)
    ∷ body either 0 0 (before_closing (0x02 ∷ 0x00 ∷ 0x00 ∷ 0x00 ∷ 0x00 ∷ 0x0C ∷ 0x00 ∷ 0x00 ∷ 0x00 ∷ [])) 0 (shortage_at 58)
    ∷ body either 0 0 (before_closing (0x02 ∷ 0x00 ∷ 0x00 ∷ 0x00 ∷ 0x00 ∷ 0x0C ∷ 0x00 ∷ 0x00 ∷ 0x00 ∷ 0x00 ∷ [])) 0 (refuses 20 0)
    ∷ body v1_only 0 0 (before_closing (0x02 ∷ 0x00 ∷ 0x00 ∷ 0x00 ∷ 0x00 ∷ 0x0C ∷ 0x00 ∷ 0x00 ∷ 0x00 ∷ 0x00 ∷ [])) 0 (refuses 22 0)
    ∷ body either 3 5 H 0 (refuses 22 0)
    ∷ body either 4 5 H 0 (refuses 23 0)
    ∷ body either 0 0 (take 20 H ++ (0x00 ∷ 0x02 ∷ 0x00 ∷ 0x01 ∷ 0xFF ∷ [])) 0 (refuses 8 0)
    ∷ body either 0 0 (take 20 H ++ (0x00 ∷ 0x04 ∷ 0x00 ∷ 0x01 ∷ 0x00 ∷ 0x05 ∷ [])) 0 (refuses 32 0)
    ∷ body either 0 0 (take 34 H ++ (0x00 ∷ 0x01 ∷ 0x00 ∷ 0x01 ∷ 0xFF ∷ 0x00 ∷ 0x00 ∷ 0x00 ∷ 0x00 ∷ 0x03 ∷ [])) 0 (refuses 16 0)
    ∷ body either 0 0 (take 34 H ++ (0x00 ∷ [])) 0 (shortage_at 36)
    ∷ body either 0 0 (take 34 H ++ (0x00 ∷ 0x00 ∷ 0x03 ∷ [])) 0 (refuses 38 0)
    ∷ body either 0 0 (take 34 H ++ (0x00 ∷ 0x00 ∷ [])) 0 (refuses 38 0)
    ∷ body v1_only 0 0 (take 34 H ++ (0x00 ∷ 0x00 ∷ drop 48 H)) 0 (refuses 38 0)
    ∷ body v2_only 0 0 (take 45 V2 ++ (0x00 ∷ 0x00 ∷ drop 55 V2)) 0 (refuses 38 0)
    ∷ body either 0 0 (take 20 H ++ (0x00 ∷ 0x07 ∷ 0x00 ∷ 0x01 ∷ 0x00 ∷ 0x00 ∷ 0x00 ∷ 0x00 ∷ 0x00 ∷ 0x00 ∷ 0x00 ∷ [])) 0 (refuses 14 0)
    ∷ body either 0 0 (take 55 V2) 0 (shortage_at 56)
    ∷ body either 0 0 (take 55 V2 ++ (0x02 ∷ 0x00 ∷ 0x00 ∷ 0x00 ∷ [])) 0 (shortage_at 60)
    ∷ body either 0 0 (take 55 V2 ++ (0x02 ∷ 0x00 ∷ 0x00 ∷ 0x00 ∷ 0x00 ∷ [])) 0 (shortage_at 92)
    ∷ body either 0 0 (take 55 V2 ++ (0x02 ∷ drop 56 V2)) 0 (refuses 20 0)
    ∷ strictly (take 20 H ++ (0x00 ∷ 0x02 ∷ 0x00 ∷ 0x00 ∷ [])) (refuses 21 0)
    ∷ strictly (take 20 H ++ (0x00 ∷ 0x02 ∷ 0x00 ∷ 0x00 ∷ 0x00 ∷ 0x00 ∷ [])) (refuses 21 0)
    ∷ strictly (take 20 H ++ (0x00 ∷ 0x00 ∷ 0x00 ∷ 0x00 ∷ 0x03 ∷ [])) (refuses 38 0)
    ∷ strictly (take 20 H ++ (0x00 ∷ 0x02 ∷ 0x00 ∷ 0x01 ∷ [])) (refuses 8 0)
    -- find a value
    ∷ find (0x61 ∷ []) (0x00 ∷ 0x07 ∷ 0x00 ∷ 0x01 ∷ 0x00 ∷ 0x00 ∷ 0x00 ∷ 0x00 ∷ 0x00 ∷ []) (refuses 14 0)
    ∷ find (0x61 ∷ []) (0x00 ∷ 0x01 ∷ 0x00 ∷ []) (refuses 32 0)
    ∷ find (0x61 ∷ []) (0x00 ∷ 0x02 ∷ 0x00 ∷ 0x00 ∷ []) (refuses 29 0)
    ∷ find (0x6C ∷ 0x61 ∷ []) (take 14 (drop 20 H)) (refuses 29 0)
    ∷ find (0x6C ∷ 0x61 ∷ 0x6E ∷ 0x67 ∷ []) (take 14 (drop 20 H)) (accepts 14 [])
    -- select what is only authenticated
    ∷ select (0 ∷ []) 0 (0x00 ∷ 0x01 ∷ 0x00 ∷ []) (refuses 32 0)
    ∷ select (0 ∷ []) 0 (0x00 ∷ 0x07 ∷ 0x00 ∷ 0x01 ∷ 0x00 ∷ 0x00 ∷ 0x00 ∷ 0x00 ∷ 0x00 ∷ []) (refuses 14 0)
    ∷ select (0 ∷ 0 ∷ 0 ∷ []) 5 (0x00 ∷ 0x06 ∷ 0x00 ∷ 0x01 ∷ 0x00 ∷ 0x00 ∷ 0x00 ∷ 0x00 ∷ []) (refuses 31 0)
    ∷ select (0 ∷ 0 ∷ 0 ∷ 1 ∷ []) 5 (0x00 ∷ 0x06 ∷ 0x00 ∷ 0x01 ∷ 0x00 ∷ 0x00 ∷ 0x00 ∷ 0x00 ∷ []) (refuses 31 0)
    ∷ select (0 ∷ 0 ∷ 0 ∷ 0 ∷ []) 5 (0x00 ∷ 0x06 ∷ 0x00 ∷ 0x01 ∷ 0x00 ∷ 0x00 ∷ 0x00 ∷ 0x00 ∷ []) (refuses 28 0)
    ∷ select (0 ∷ 0 ∷ 0 ∷ 0 ∷ []) 6 (0x00 ∷ 0x06 ∷ 0x00 ∷ 0x01 ∷ 0x00 ∷ 0x00 ∷ 0x00 ∷ 0x00 ∷ []) (accepts 8 (0x00 ∷ 0x01 ∷ 0x00 ∷ 0x00 ∷ 0x00 ∷ 0x00 ∷ []))
    -- read a context section
    ∷ section strict 0 (0x00 ∷ 0x02 ∷ 0x00 ∷ 0x01 ∷ []) (refuses 8 0)
    ∷ section strict 0 (0x00 ∷ 0x03 ∷ 0x00 ∷ 0x00 ∷ []) (shortage_at 5)
    ∷ section strict 0 (0x00 ∷ 0x01 ∷ []) (shortage_at 3)
    ∷ section strict 0 (0x00 ∷ 0x01 ∷ 0x00 ∷ 0x00 ∷ []) (refuses 32 0)
    ∷ section tolerant 0 (0x00 ∷ 0x03 ∷ 0x00 ∷ 0x01 ∷ 0x00 ∷ []) (refuses 32 0)
    ∷ section tolerant 0 (0x00 ∷ 0x05 ∷ 0x00 ∷ 0x01 ∷ 0x00 ∷ 0x02 ∷ 0xFF ∷ 0xFF ∷ []) (refuses 32 0)
    ∷ section tolerant 0 (0x00 ∷ 0x05 ∷ 0x00 ∷ 0x01 ∷ 0x00 ∷ 0x01 ∷ 0xFF ∷ []) (refuses 10 0)
    ∷ section tolerant 0 (0x00 ∷ 0x05 ∷ 0x00 ∷ 0x01 ∷ 0x00 ∷ 0x00 ∷ 0x00 ∷ []) (refuses 32 0)
    ∷ section tolerant 0 (0x00 ∷ 0x06 ∷ 0x00 ∷ 0x01 ∷ 0x00 ∷ 0x00 ∷ 0x00 ∷ 0x01 ∷ 0xFF ∷ []) (refuses 32 0)
    ∷ section tolerant 0 (0x00 ∷ 0x0C ∷ 0x00 ∷ 0x02 ∷ 0x00 ∷ 0x00 ∷ 0x00 ∷ 0x00 ∷ 0x00 ∷ 0x00 ∷ 0x00 ∷ 0x02 ∷ 0xC0 ∷ 0x80 ∷ []) (refuses 11 0)
    ∷ section tolerant 0 (0x00 ∷ 0x0A ∷ 0x00 ∷ 0x03 ∷ 0x00 ∷ 0x00 ∷ 0x00 ∷ 0x00 ∷ 0x00 ∷ 0x00 ∷ 0x00 ∷ 0x00 ∷ []) (refuses 12 0)
    ∷ section tolerant 0 (0x00 ∷ 0x0A ∷ 0x00 ∷ 0x02 ∷ 0x00 ∷ 0x00 ∷ 0x00 ∷ 0x00 ∷ 0x00 ∷ 0x00 ∷ 0x00 ∷ 0x01 ∷ 0x61 ∷ []) (refuses 32 0)
    ∷ section tolerant 0 (0xFF ∷ 0xFF ∷ 0x00 ∷ 0x01 ∷ 0xFF ∷ 0xFA ∷ zeros 65532) (refuses 32 0)
    ∷ section tolerant 0 (0x00 ∷ 0x07 ∷ 0x00 ∷ 0x01 ∷ 0x00 ∷ 0x00 ∷ 0x00 ∷ 0x00 ∷ 0x00 ∷ []) (refuses 14 0)
    ∷ section tolerant 3 (0x00 ∷ 0x06 ∷ 0x00 ∷ 0x01 ∷ 0x00 ∷ 0x00 ∷ 0x00 ∷ 0x00 ∷ []) (refuses 22 0)
    -- read a key section
    ∷ keys 0 (0x00 ∷ []) (shortage_at 2)
    ∷ keys 0 (0x00 ∷ 0x00 ∷ []) (refuses 38 0)
    ∷ keys 0 (0x00 ∷ 0x00 ∷ 0x00 ∷ 0x01 ∷ 0xFF ∷ []) (refuses 38 0)
    ∷ keys 0 (0x00 ∷ 0x02 ∷ []) (refuses 15 0)
    ∷ keys 0 (0x00 ∷ 0x01 ∷ 0x00 ∷ 0x01 ∷ 0xFF ∷ []) (refuses 16 0)
    ∷ keys 5 (0x00 ∷ 0x01 ∷ 0x00 ∷ 0x00 ∷ 0x00 ∷ 0x00 ∷ 0x00 ∷ []) (shortage_at 8)
    ∷ keys 5 (0x00 ∷ 0x01 ∷ 0x00 ∷ 0x00 ∷ 0x00 ∷ 0x00 ∷ 0x00 ∷ 0x00 ∷ []) (refuses 23 0)
    -- read an authentication record
    ∷ auth 0x0000 [] 4294967296 (refuses 1 0)
    ∷ auth 0x0000 [] 0 (refuses 6 0)
    ∷ auth 0x0178 [] 0 (shortage_at 12)
    ∷ auth 0x0478 [] 0 (shortage_at 16)
    -- read frames
    ∷ frames 0 0 [] 4294967296 (refuses 1 0)
    ∷ frames 0 0 [] 0 (refuses 20 0)
    ∷ frames 2 0 [] 0 (shortage_at 4)
    ∷ frames 2 0 (0x00 ∷ 0x00 ∷ 0x00 ∷ 0x02 ∷ []) 0 (refuses 34 0)
    ∷ frames 2 0 (0x00 ∷ 0x00 ∷ 0x00 ∷ 0x01 ∷ []) 0 (shortage_at 16)
    ∷ frames 2 0 (take 16 two) 0 (shortage_at 18)
    ∷ frames 2 0 (take 18 two) 0 (shortage_at 34)
    ∷ frames 2 0 (take 34 two) 0 (shortage_at 38)
    ∷ frames 2 0 (take 38 two) 0 (shortage_at 42)
    ∷ frames 2 0 (take 34 two ++ (0xFF ∷ 0xFF ∷ 0xFF ∷ 0xFF ∷ 0x00 ∷ 0x00 ∷ 0x00 ∷ 0x01 ∷ [])) 0 (refuses 34 0)
    ∷ frames 2 0 (take 42 two) 0 (shortage_at 54)
    ∷ frames 2 0 (take 54 two) 0 (shortage_at 58)
    ∷ frames 2 0 (take 54 two ++ (0x00 ∷ 0x00 ∷ 0x00 ∷ 0x03 ∷ [])) 0 (refuses 35 0)
    ∷ frames 2 0 (take 54 two ++ (0x00 ∷ 0x00 ∷ 0x00 ∷ 0x02 ∷ [])) 0 (shortage_at 60)
    ∷ frames 2 0 (final 2 3 []) 0 (refuses 34 0)
    ∷ frames 2 0 (take 59 two) 0 (shortage_at 75)
    ∷ frames 2 5 (final 1 3 (0x61 ∷ 0x62 ∷ 0x63 ∷ [])) 0 (refuses 35 0)
    ∷ frames 2 11 two 0 (refuses 23 0)
    ∷ frames 2 11 (two ++ (0xFF ∷ [])) 0 (refuses 23 0)
    -- write a body: each fault with the one that follows it in the order
    ∷ write (to_write 3 1 0 [] (0 ∷ []) [] 0 0 [] 0) 3
    ∷ write (to_write 1 0 0 [] (0 ∷ []) [] 0 0 [] 0) 5
    ∷ write (to_write 2 0x80 0 [] (0 ∷ []) [] 0 0 [] 0) 5
    ∷ write (to_write 1 0x80 0 [] (0 ∷ []) [] 0 0 [] 0) 6
    ∷ write (to_write 1 0x80 0x0478 [] (0 ∷ []) [] 0 0 [] 0) 7
    ∷ write (to_write 1 0x80 0x0178 [] (0 ∷ []) [] 0 0 [] 0) 24
    ∷ write (to_write 1 0x80 0x0178 id (6 ∷ 1 ∷ 6 ∷ 2 ∷ []) [] 0 0 [] 0) 26
    ∷ write (to_write 1 0x80 0x0178 id (0 ∷ 4 ∷ 4 ∷ []) [] 0 0 [] 0) 26
    ∷ write (to_write 1 0x80 0x0178 id (6 ∷ 1 ∷ 6 ∷ 1 ∷ []) (0 ∷ []) 0 0 [] 0) 10
    ∷ write (to_write 1 0x80 0x0178 id (0 ∷ 4 ∷ 4 ∷ 2 ∷ 0 ∷ 4 ∷ 6 ∷ 1 ∷ []) (0 ∷ []) 0 0 [] 0) 11
    ∷ write (to_write 1 0x80 0x0178 id (0 ∷ 4 ∷ 4 ∷ 2 ∷ 0 ∷ 4 ∷ 4 ∷ 2 ∷ []) (0 ∷ []) 0 0 [] 0) 12
    ∷ write (to_write 1 0x80 0x0178 id (0 ∷ 4 ∷ 4 ∷ 2 ∷ []) (6 ∷ 1 ∷ 0 ∷ 0 ∷ 0 ∷ 0 ∷ 0 ∷ []) 0 0 [] 0) 26
    ∷ write (to_write 1 0x80 0x0178 id (0 ∷ 4 ∷ 4 ∷ 2 ∷ []) (6 ∷ 1 ∷ 0 ∷ 0 ∷ 0 ∷ 0 ∷ []) 0 0 [] 0) 16
    ∷ write (to_write 1 0x80 0x0178 id (0 ∷ 4 ∷ 4 ∷ 2 ∷ []) (0 ∷ 0 ∷ []) 0 0 [] 0) 26
    ∷ write (to_write 1 0x80 0x0178 id (0 ∷ 4 ∷ 4 ∷ 2 ∷ []) [] 0 0 [] 0) 38
    ∷ write (to_write 1 0x80 0x0178 id (0 ∷ 4 ∷ 4 ∷ 2 ∷ []) one 0 0 (0 ∷ []) 0) 17
    ∷ write (to_write 1 0x80 0x0178 id (0 ∷ 4 ∷ 4 ∷ 2 ∷ []) one 2 0 (0 ∷ []) 0) 19
    ∷ write (to_write 1 0x80 0x0178 id (0 ∷ 4 ∷ 4 ∷ 2 ∷ []) one 2 12 (0 ∷ []) 0) 25
    ∷ write (to_write 1 0x80 0x0178 id (0 ∷ 4 ∷ 4 ∷ 2 ∷ []) one 2 12 [] 0) 20
    ∷ write (to_write 1 0x80 0x0178 id (0 ∷ 4 ∷ 4 ∷ 2 ∷ []) one 1 12 [] 1) 20
    ∷ write (to_write 1 0x80 0x0178 id (0 ∷ 4 ∷ 4 ∷ 2 ∷ []) one 2 12 [] 1) 28
    ∷ write (old_with (6 ∷ 1 ∷ 4 ∷ 2 ∷ []) []) 10
    ∷ write (old_with (0 ∷ 4 ∷ 4 ∷ 3 ∷ []) []) 11
    ∷ write (old_with (0 ∷ 4 ∷ 4 ∷ 2 ∷ 0 ∷ 4 ∷ 4 ∷ 2 ∷ []) []) 12
    ∷ write (old_with (0 ∷ 4 ∷ 4 ∷ []) []) 26
    ∷ write (old_with (0 ∷ 4 ∷ 4 ∷ 2 ∷ []) (0 ∷ [])) 33
    ∷ write (old_with (0 ∷ 4 ∷ 4 ∷ 2 ∷ []) (6 ∷ 1 ∷ 0 ∷ 0 ∷ 0 ∷ 0 ∷ [])) 33
    ∷ write (old_with (0 ∷ 4 ∷ 4 ∷ 2 ∷ []) []) 33
    ∷ write (old_with [] (0 ∷ [])) 26
    ∷ write (old_with [] []) 38
    ∷ write (old_with [] one) 17
    ∷ write (to_write_in old some_text 1 0x80 0x0178 id (0 ∷ 4 ∷ 4 ∷ 2 ∷ []) [] 2 12 [] 1) 33
    ∷ write (to_write_in old some_text 1 0x80 0x0178 id [] [] 2 12 [] 1) 38
    ∷ write (to_write_in old some_text 1 0x80 0x0178 id [] one 2 12 [] 1) 28
    ∷ write (to_write_in old (zeros 65530) 1 0x80 0x0178 id (0 ∷ 65530 ∷ 0 ∷ 0 ∷ []) (0 ∷ []) 0 0 [] 0) 13
    ∷ write (to_write_in today (zeros 65530) 1 0x80 0x0178 id (0 ∷ 65530 ∷ 0 ∷ 0 ∷ []) (0 ∷ []) 0 0 [] 0) 13
    ∷ write (to_write_in today (zeros 65530) 1 0x80 0x0178 id (0 ∷ 65530 ∷ 0 ∷ 0 ∷ []) [] 0 0 [] 0) 13
    ∷ write (to_write_in today (zeros 65536) 1 0x80 0x0178 id (0 ∷ 65536 ∷ 0 ∷ 0 ∷ []) [] 0 0 [] 0) 27
    -- write a section, a record
    ∷ write (writing_aad_section (long_text 65536) (0 ∷ 65536 ∷ 65536 ∷ 1 ∷ [])) 26
    ∷ write (writing_aad_section (long_text 65536) (0 ∷ 65536 ∷ 0 ∷ 0 ∷ [])) 27
    ∷ write (writing_encrypted_data_keys_section (long_text 65536) (0 ∷ 0 ∷ 0 ∷ 65536 ∷ 65536 ∷ 1 ∷ [])) 26
    ∷ write (writing_encrypted_data_keys_section (long_text 65536) (0 ∷ 1 ∷ 0 ∷ 65536 ∷ 0 ∷ 0 ∷ [])) 27
    ∷ write_pairs (replicate 65536 (record { key = 0xFF ∷ []; value = [] })) 27
    ∷ write_keys (replicate 65536 (record { keyProviderId = 0xFF ∷ []; keyProviderInfo = []; ciphertext = [] })) 27
    ∷ write (writing_aad_section (zeros 65526) (0 ∷ 0 ∷ 0 ∷ 0 ∷ 0 ∷ 0 ∷ 0 ∷ 65526 ∷ [])) 12
    ∷ write (writing_aad_section [] (0 ∷ 0 ∷ [])) 26
    ∷ write (writing_aad_section [] []) 28
    ∷ write (writing_encrypted_data_keys_section [] (0 ∷ 0 ∷ 0 ∷ 0 ∷ [])) 26
    ∷ write (writing_encrypted_data_keys_section [] []) 38
    ∷ write (writing_encrypted_data_keys_section [] one) 28
    ∷ write (writing_header_auth_tag 0x0000 [] []) 6
    ∷ write (writing_header_auth_tag 0x0178 [] []) 19
    ∷ write (writing_header_auth_tag 0x0478 id []) 19
    ∷ write (writing_header_auth_tag 0x0478 (take 12 id) []) 30
    ∷ write (writing_header_auth_tag 0x0478 (take 12 id) id) 28
    -- write frames: their places in two, by the length of each one's IV, content and tag
    ∷ write (writing_frames 0 [] (0 ∷ [])) 20
    ∷ write (writing_frames 0 [] []) 20
    ∷ write (writing_frames 2 [] (0 ∷ 1 ∷ [])) 26
    ∷ write (writing_frames 2 [] (0 ∷ 0 ∷ 0 ∷ 0 ∷ 0 ∷ 1 ∷ [])) 26
    ∷ write (writing_frames 2 [] []) 36
    ∷ write_frames (replicate 65536 (record { iv = []; content = []; tag = [] })) 27
    ∷ write (of_lengths 11 1 15 12 3 16) 19
    ∷ write (of_lengths 12 1 15 11 3 16) 30
    ∷ write (of_lengths 12 1 16 13 3 15) 19
    ∷ write (of_lengths 12 3 16 12 3 17) 30
    ∷ write (of_lengths 12 1 16 12 3 16) 37
    ∷ write (of_lengths 12 3 16 12 2 16) 37
    ∷ write (of_lengths 12 2 16 12 3 16) 35
    ∷ write (of_lengths 12 2 16 12 1 16) 28
    ∷ write (of_lengths 12 2 16 12 2 16) 28
    ∷ []

pub first_fault : every answered faults ≡ true
unfolding opened laid_out selecting of_frames iv tag regular final two faults answered is H V2 bytes_from body_numbers look_up find_value zeros read_encrypted_data_keys_section_into read_header_auth_tag_of read_header_auth_tag write_header_auth_tag auth_checks table_checks refusal_of fields_to_write writing_aad_section writing_encrypted_data_keys_section writing_header_body_under writing_header_auth_tag
first_fault = refl
