-- The code's answer, of what a reader answers. Assumes nothing.
use Rattle.std.specs.Prelude.{ℕ, List, Result}
use Rattle.format.specs.Read.{Reader, ◌>>=◌, return, Answer}
use Rattle.format.specs.Serialize.{read}
use Rattle.format.specs.Shared.{tag_length}
use Rattle.format.specs.Auth.{HeaderAuth as AuthRead}
use Rattle.wire.specs.Codes.{read_of}
use Rattle.wire.specs.declared.refusals.Refusal.{Refusal}
use Rattle.wire.specs.declared.SuccessfulRead.{SuccessfulRead}
use Rattle.auth.specs.declared.HeaderAuth.{HeaderAuth}

-- the tag, behind an IV: what the readers of both versions end with
unfoldable pub read_tag : List ℕ → Reader AuthRead
read_tag iv = do
  tag ← read tag_length
  return (record { headerIv = iv; headerAuthTag = tag.bytes })

abbrev pub auth_code : AuthRead → HeaderAuth
auth_code a = record { iv = a.headerIv; tag = a.headerAuthTag }

abbrev pub auth_of : Answer AuthRead → Result (SuccessfulRead HeaderAuth) Refusal
auth_of = read_of auth_code
