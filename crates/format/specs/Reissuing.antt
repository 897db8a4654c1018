-- A version 1 draft, reissued in version 2: its pairs, keys, content type and frame length, with another ID, a committing suite and that
-- suite's data. Assumes nothing.
use Rattle.std.specs.Prelude.{List, ℕ, eqb, length}
use Rattle.format.specs.Read.{Reader, ◌>>=◌, ◌>>◌, return, test}
use Rattle.format.specs.Shared.{known, of_version, id_length, commit_key_length, frame_fits}
use Rattle.format.specs.Fields.{today, Fields, HeaderBody, fields_of}
use Rattle.format.specs.Body.{v1_only, read_body, image}
use Rattle.format.specs.OnlyAuthenticated.{fitting}
use Rattle.format.specs.Mending.{without_tables}

-- what is added to the draft
pub record Reissue : Type 0 where
  pub suite : ℕ
  pub messageId : List ℕ
  pub suiteData : List ℕ

-- the fields of the version 2 body; that version has no type byte and no IV length
abbrev pub reissued : Reissue → Fields → Fields
reissued a f =
    record {
      version = 2;
      messageType = 0;
      suite = a.suite;
      messageId = a.messageId;
      pairs = f.pairs;
      keys = f.keys;
      contentType = f.contentType;
      headerIvLength = 0;
      frameLength = f.frameLength;
      suiteData = a.suiteData;
    }

-- in today's form, whatever form the draft was read in
abbrev pub reissued_image : Reissue → HeaderBody → List ℕ
reissued_image a b = image today (reissued a (fields_of b))

-- The version 2 body of the draft at a start, without an output. 20 is the draft's, which a reader of one version doesn't test; 6, 7, 24 and 25
-- are of what is added.
unfoldable pub reissued_header_body : Reissue → Reader (List ℕ)
reissued_header_body a = do
  b ← read_body (without_tables v1_only)
  test 20 (frame_fits b.contentType b.frameLength)
  test 6 (known a.suite)
  test 7 (of_version 2 a.suite)
  test 24 (eqb (length a.messageId) (id_length 2))
  test 25 (eqb (length a.suiteData) commit_key_length)
  return (reissued_image a b)

-- The operation, with an output of that many bytes: 28.
unfoldable pub reissue_header_body : Reissue → ℕ → Reader (List ℕ)
reissue_header_body a room = reissued_header_body a >>= fitting room
