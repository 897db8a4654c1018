-- The code's answer becomes the same record as the definition's. Assumes nothing.
use Prim.Native.Nat.{ℕ}
use mathlib.Core.Path.{◌≡◌, refl}
use mathlib.Core.List.{List}
use Rattle.format.specs.Read.{Answer, accepted, refused}
use Rattle.format.specs.Serialize.{Part}
use Rattle.format.specs.Fields.{HeaderBody as BodyRead}
use Rattle.format.specs.Auth.{HeaderAuth as AuthTag}
use Rattle.entries.specs.Codes.{counted}
use Rattle.context.specs.Codes.{found_of}
use Rattle.auth.specs.Codes.{auth_of}
use Rattle.body_reader.specs.Codes.{body_of}
use Rattle.checks.specs.Answers.{write_answer_of, written_as}
use Rattle.crossing.specs.Records.{section_record, section_fields, auth_record, auth_fields, body_record, body_fields, place_record, found_fields, written_record, write_fields, image_record}

-- the code's answer crosses as the definition's does
pub section_as : {A : Type 0} (o : Answer (List A)) → section_fields (counted o) ≡ section_record o
section_as (accepted items t) = refl
section_as (refused k p) = refl

pub auth_as : (o : Answer AuthTag) → auth_fields (auth_of o) ≡ auth_record o
auth_as (accepted a t) = refl
auth_as (refused k p) = refl

pub body_as : (o : Answer BodyRead) → body_fields (body_of o) ≡ body_record o
body_as (accepted b t) = refl
body_as (refused k p) = refl

pub found_as : (o : Answer Part) → found_fields (found_of o) ≡ place_record o
found_as (accepted v t) = refl
found_as (refused k p) = refl

pub write_as : (o : Answer (Unit {0})) → write_fields (write_answer_of o) ≡ written_record o
write_as (accepted u n) = refl
write_as (refused k p) = refl

pub image_as : (o : Answer (List ℕ)) → write_fields (written_as o) ≡ image_record o
image_as (accepted image t) = refl
image_as (refused k p) = refl
