-- SharedHeaderFunctions.dfy: versions, suites, message IDs, content types. Assumes nothing.
use Rattle.std.specs.Prelude.{Bool, cond, ◌&&◌, ◌||◌, not, List, [], ◌∷◌, ℕ, eqb}
use Rattle.format.specs.Read.{Reader, ◌>>=◌, ◌>>◌, return, test}
use Rattle.format.specs.Serialize.{read_uint8, read_uint16}

-- by version: the first where it is 1, else the second
abbrev pub by : ℕ → ℕ → ℕ → ℕ
by version a b = cond (eqb version 1) a b

-- the versions 01 and 02; the content types 01, non-framed, and 02, framed
abbrev pub one_or_two : ℕ → Bool
one_or_two x = eqb x 1 || eqb x 2

-- a row of the suite table
pub record SuiteRow : Type 0 where
  pub number : ℕ
  pub version : ℕ

abbrev pub row : ℕ → ℕ → SuiteRow
row number version = record { number = number; version = version }

-- the suite table; the suites of version 2 are the committing ones
unfoldable pub suites : List SuiteRow
suites =
    row 0x0014 1
    ∷ row 0x0046 1
    ∷ row 0x0078 1
    ∷ row 0x0114 1
    ∷ row 0x0146 1
    ∷ row 0x0178 1
    ∷ row 0x0214 1
    ∷ row 0x0346 1
    ∷ row 0x0378 1
    ∷ row 0x0478 2
    ∷ row 0x0578 2
    ∷ []

-- the version of the first row that has the number; 0: there is none
unfoldable pub version_in : List SuiteRow → ℕ → ℕ
version_in [] suite = 0
version_in (r ∷ rows) suite = cond (eqb r.number suite) r.version (version_in rows suite)

abbrev pub suite_version : ℕ → ℕ
suite_version suite = version_in suites suite

abbrev pub known : ℕ → Bool
known suite = not (eqb (suite_version suite) 0)

abbrev pub of_version : ℕ → ℕ → Bool
of_version version suite = eqb (suite_version suite) version

-- constants that belong to every suite; only the suites of version 2 have a commit key
abbrev pub iv_length : ℕ
iv_length = 12

abbrev pub tag_length : ℕ
tag_length = 16

abbrev pub commit_key_length : ℕ
commit_key_length = 32

-- ReadMessageFormatVersion
unfoldable pub read_message_format_version : Reader ℕ
read_message_format_version = do
  version ← read_uint8
  test 3 (one_or_two version)
  return version

-- ReadESDKSuiteId, and the test of its version that the body readers make next
unfoldable pub read_esdk_suite_id : ℕ → Reader ℕ
read_esdk_suite_id version = do
  suite ← read_uint16
  test 6 (known suite)
  test 7 (of_version version suite)
  return suite

-- ReadMessageIdV1, ReadMessageIdV2
abbrev pub id_length : ℕ → ℕ
id_length version = by version 16 32

-- ReadContentType
unfoldable pub read_content_type : Reader ℕ
read_content_type = do
  content ← read_uint8
  test 17 (one_or_two content)
  return content

-- framed content needs a frame length above 0, non-framed content needs 0
unfoldable pub frame_fits : ℕ → ℕ → Bool
frame_fits content frame = (eqb content 1 && eqb frame 0) || (eqb content 2 && not (eqb frame 0))
