-- For each number of a body's size, under each policy, a call that is told it. Assumes nothing.
use mathlib.Core.Path.{◌≡◌, refl}
use mathlib.Core.Bool.{Bool, true, false}
use mathlib.Core.Option.{Option, some}
use mathlib.Core.List.{List, [], ◌∷◌, ◌++◌, map}
use Prim.Native.Nat.{ℕ}
use Rattle.format.specs.Fields.{Form, today, old}
use Rattle.format.specs.Policies.{Policy, no_policy, forbid_encrypt_allow_decrypt, require_encrypt_allow_decrypt, require_encrypt_require_decrypt}
use Rattle.format.specs.Auth.{zeros}
use Rattle.format.specs.Lent.{items, in_text, part_in, table_checks, BodyToWrite, fields_to_write, size_of, writing_header_body_under}
use Rattle.format.specs.Size.{writing_policy_refusals, size_refusals}
use Rattle.cases.specs.Cases.{H, opened, laid_out}
use Rattle.cases.specs.Faults.{id, some_text, one, lent_in}
use Rattle.cases.proofs.Calls.{number_of}

abbrev pub size_said : Policy → BodyToWrite → Option ℕ
size_said policy b = number_of (size_of (writing_header_body_under policy b))

-- bodies to write with one fault each, behind an opening of a version that is let be written; 27 by a part, and 13 by all parts together. True: version 1
abbrev opened_by : ℕ → ℕ → ℕ → List ℕ → BodyToWrite
opened_by version messageType suite messageId = lent_in today some_text version messageType suite messageId [] one 2 12 [] 1

abbrev kind : Bool → ℕ → ℕ → ℕ
kind true a b = a
kind false a b = b

abbrev data_of : Bool → List ℕ
data_of true = []
data_of false = zeros 32

abbrev id_of : Bool → List ℕ
id_of true = id
id_of false = zeros 32

abbrev lent_as : Bool → Form → List ℕ → List ℕ → List ℕ → ℕ → ℕ → List ℕ → ℕ → BodyToWrite
lent_as v1 form text = lent_in form text (kind v1 1 2) (kind v1 0x80 0) (kind v1 0x0178 0x0578) (id_of v1)

abbrev with_pairs : Bool → Form → List ℕ → List ℕ → BodyToWrite
with_pairs v1 form text pairTable = lent_as v1 form text pairTable one 2 (kind v1 12 0) (data_of v1) 1

abbrev closed_by : Bool → List ℕ → ℕ → ℕ → List ℕ → ℕ → BodyToWrite
closed_by v1 = lent_as v1 today some_text []

abbrev to_7 : List BodyToWrite
to_7 = opened_by 3 0x80 0x0178 id ∷ opened_by 1 0 0x0178 id ∷ opened_by 1 0x80 0 id ∷ opened_by 1 0x80 0x0478 id ∷ []

abbrev from_24 : Bool → List BodyToWrite
from_24 v1 =
    opened_by (kind v1 1 2) (kind v1 0x80 0) (kind v1 0x0178 0x0578) []
    ∷ with_pairs v1 today some_text (0 ∷ 0 ∷ [])
    ∷ with_pairs v1 today (zeros 65536) (0 ∷ 65536 ∷ 0 ∷ 0 ∷ [])
    ∷ with_pairs v1 today some_text (6 ∷ 1 ∷ 0 ∷ 0 ∷ [])
    ∷ with_pairs v1 today some_text (0 ∷ 0 ∷ 6 ∷ 1 ∷ [])
    ∷ with_pairs v1 today some_text (0 ∷ 0 ∷ 0 ∷ 0 ∷ 0 ∷ 0 ∷ 0 ∷ 0 ∷ [])
    ∷ with_pairs v1 today (zeros 65530) (0 ∷ 65530 ∷ 0 ∷ 0 ∷ [])
    ∷ with_pairs v1 old some_text (0 ∷ 0 ∷ 0 ∷ 0 ∷ [])
    ∷ closed_by v1 [] 2 (kind v1 12 0) (data_of v1) 1
    ∷ closed_by v1 (6 ∷ 1 ∷ 0 ∷ 0 ∷ 0 ∷ 0 ∷ []) 2 (kind v1 12 0) (data_of v1) 1
    ∷ closed_by v1 one 0 (kind v1 12 0) (data_of v1) 1
    ∷ closed_by v1 one 2 1 (data_of v1) 1
    ∷ closed_by v1 one 2 (kind v1 12 0) (0 ∷ []) 1
    ∷ closed_by v1 one 2 (kind v1 12 0) (data_of v1) 0
    ∷ []

-- a whole body of the other version, where the policy forbids that
unfoldable pub size_calls : Policy → List BodyToWrite
size_calls no_policy = to_7 ++ from_24 true
size_calls forbid_encrypt_allow_decrypt = to_7 ++ (closed_by false one 2 0 (zeros 32) 1 ∷ from_24 true)
size_calls require_encrypt_allow_decrypt = to_7 ++ (closed_by true one 2 12 [] 1 ∷ from_24 false)
size_calls require_encrypt_require_decrypt = to_7 ++ (closed_by true one 2 12 [] 1 ∷ from_24 false)

pub size_answers : (policy : Policy) → map (size_said policy) (size_calls policy) ≡ map some (size_refusals policy)
unfolding opened laid_out size_calls size_refusals writing_policy_refusals H zeros items in_text part_in table_checks fields_to_write writing_header_body_under
size_answers no_policy = refl
size_answers forbid_encrypt_allow_decrypt = refl
size_answers require_encrypt_allow_decrypt = refl
size_answers require_encrypt_require_decrypt = refl
