-- EncryptionContext.dfy and EncryptedDataKeys.dfy as their function bodies read: the source holds no part of a context section to the section's
-- end, and tests what the pairs take instead; and it reads and writes a key count of 0. What documents 01 and 02 add to the source, the strict mode, the
-- tables, the numbers, the mark, a policy in reading and what writers test, is in both, so that they differ in nothing else. It is kept to be compared with
-- (specs/SourceEquality); no contract cites it. Assumes nothing.
use Rattle.std.specs.Prelude.{Bool, true, false, not, List, [], map, ◌++◌, ℕ, ◌+◌, ◌*◌, leb, ltb, eqb, length}
use Rattle.format.specs.Read.{Reader, ◌>>=◌, ◌>>◌, return, test, no_end, enclosed}
use Rattle.format.specs.Serialize.{Part, read_uint16, images}
use Rattle.format.specs.Fields.{PairAt, pair_of, EncryptedDataKey, EncryptedDataKeyAt, key_parts, HeaderBody}
use Rattle.format.specs.Context.{seen, pair_length, linear_length, pairs_limit, Mode, tolerant, read_aad_pair, read_aad_by, ContextAt, with_mark, look_up}
use Rattle.format.specs.Keys.{Max, read_encrypted_data_keys_of, write_encrypted_data_keys_section}
use Rattle.format.specs.OnlyAuthenticated.{only_authenticated, in_twos, fitting}
use Rattle.format.specs.Policies.{no_policy}
use Rattle.format.specs.Body.{Opening, read_opening, Request, after_keys, image}
use Rattle.format.specs.Checks.{Check, each, count_checks, key_checks, pairs_checks, body_checks_of}
use Rattle.format.specs.Lent.{keys_in, table_checks, Writing, BodyToWrite, fields_to_write}

-- a step of ReadAADPairs, with 13: the pairs so far take 65,534 bytes or more
unfoldable pub source_read_next_aad_pair : List PairAt → Reader PairAt
source_read_next_aad_pair acc = do
  p ← read_aad_pair no_end
  test 12 (not (seen p.key.bytes (map pair_of acc)))
  test 13 (ltb (linear_length (map pair_of acc) + pair_length (pair_of p)) pairs_limit)
  return p

-- what follows the section's length n; true: n is 0. Here 14 means ending early or late.
unfoldable pub source_read_aad_of : Mode → Bool → ℕ → Reader (List PairAt)
source_read_aad_of mode true n = return []
source_read_aad_of mode false n = enclosed n 14 (λ e. read_aad_by source_read_next_aad_pair mode n)

-- ReadAADSection
unfoldable pub source_read_aad_section : Mode → Reader (List PairAt)
source_read_aad_section mode = do
  n ← read_uint16
  source_read_aad_of mode (eqb n 0) n

-- the operations that read a section, each with the source's in its place
unfoldable pub source_read_aad_section_into : Mode → ℕ → Reader (List PairAt)
source_read_aad_section_into mode room = do
  ps ← source_read_aad_section mode
  test 22 (leb (4 * length ps) room)
  return ps

unfoldable pub source_find_value : List ℕ → Reader Part
source_find_value k = do
  ps ← source_read_aad_section tolerant
  look_up k ps

unfoldable pub source_write_only_authenticated : List ℕ → List ℕ → ℕ → Reader (List ℕ)
source_write_only_authenticated text required room = do
  ps ← source_read_aad_section tolerant
  test 31 (in_twos text required)
  fitting room (only_authenticated text required ps)

-- ReadEncryptedDataKeysSection
unfoldable pub source_read_encrypted_data_keys_section : Max → Reader (List EncryptedDataKeyAt)
source_read_encrypted_data_keys_section max = do
  count ← read_uint16
  read_encrypted_data_keys_of max count

unfoldable pub source_read_encrypted_data_keys_section_into : Max → ℕ → Reader (List EncryptedDataKeyAt)
source_read_encrypted_data_keys_section_into max room = do
  ks ← source_read_encrypted_data_keys_section max
  test 23 (leb (6 * length ks) room)
  return ks

-- a body with both
unfoldable pub source_after_context : Request → Opening → ContextAt → Reader HeaderBody
source_after_context q o x = source_read_encrypted_data_keys_section q.max >>= after_keys q o x

unfoldable pub source_after_opening : Request → Opening → Reader HeaderBody
source_after_opening q o = with_mark (source_read_aad_section q.mode) >>= source_after_context q o

unfoldable pub source_read_body : Request → Reader HeaderBody
source_read_body q = read_opening q.which q.policy >>= source_after_opening q

-- WriteEncryptedDataKeysSection, and a body with it
unfoldable pub source_keys_checks : List EncryptedDataKey → List Check
source_keys_checks ks = count_checks (length ks) (images key_parts ks) ++ each key_checks [] ks

unfoldable pub source_writing_encrypted_data_keys_section : List ℕ → List ℕ → Writing
source_writing_encrypted_data_keys_section text keys =
    record { checks = table_checks 6 text keys ++ source_keys_checks (keys_in text keys); image = write_encrypted_data_keys_section (keys_in text keys) }

unfoldable pub source_writing_header_body : BodyToWrite → Writing
source_writing_header_body b =
    let f = fields_to_write b in
    record {
      checks = body_checks_of no_policy (table_checks 4 b.text b.pairTable ++ pairs_checks f.pairs) (table_checks 6 b.text b.keyTable ++ source_keys_checks f.keys) b.form f;
      image = image b.form f;
    }
