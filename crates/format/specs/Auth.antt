-- HeaderAuth.dfy: the authentication record of a suite, read and written. Assumes nothing.
use Rattle.std.specs.Prelude.{Bool, true, false, cond, List, ◌++◌, ℕ, eqb, replicate}
use Rattle.format.specs.Read.{Reader, ◌>>=◌, ◌>>◌, return, test, Answer, accepted, refused}
use Rattle.format.specs.Serialize.{read}
use Rattle.format.specs.Shared.{suite_version, known, iv_length, tag_length}

-- the source's AESMac, as bytes
pub record HeaderAuth : Type 0 where
  pub headerIv : List ℕ
  pub headerAuthTag : List ℕ

-- GetIvLengthZeros, and as many for a tag
unfoldable pub zeros : ℕ → List ℕ
zeros n = replicate n 0

-- ReadHeaderAuthTagV1 and ReadHeaderAuthTagV2; true: version 1
unfoldable pub read_header_auth_tag_of : Bool → Reader HeaderAuth
read_header_auth_tag_of true = do
  iv ← read iv_length
  tag ← read tag_length
  return (record { headerIv = iv.bytes; headerAuthTag = tag.bytes })
read_header_auth_tag_of false = do
  tag ← read tag_length
  return (record { headerIv = zeros iv_length; headerAuthTag = tag.bytes })

-- ReadHeaderAuthTag
unfoldable pub read_header_auth_tag : ℕ → Reader HeaderAuth
read_header_auth_tag suite = do
  test 6 (known suite)
  read_header_auth_tag_of (eqb (suite_version suite) 1)

-- WriteHeaderAuthTag: version 2 has no IV, and ignores the contents of the one that it is lent
unfoldable pub write_header_auth_tag : ℕ → List ℕ → List ℕ → List ℕ
write_header_auth_tag suite iv tag = cond (eqb (suite_version suite) 1) (iv ++ tag) tag

-- what a refused read gives in the record's place
abbrev pub no_header_auth : HeaderAuth
no_header_auth = record { headerIv = zeros iv_length; headerAuthTag = zeros tag_length }

abbrev pub header_auth_of : Answer HeaderAuth → HeaderAuth
header_auth_of (accepted a t) = a
header_auth_of (refused k p) = no_header_auth
