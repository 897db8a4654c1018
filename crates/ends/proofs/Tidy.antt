-- The readers of both ends are tidy, and end within the message. Assumes nothing.
use Prim.Native.Nat.{ℕ, ◌≤◌}
use mathlib.Core.Path.{◌≡◌}
use mathlib.Core.Bool.{Bool, true, false}
use mathlib.Core.List.{List}
use native.Mathlib.Omega.{arith}
use lib.ListN.{length}
use Rattle.format.specs.Read.{Reader, ◌>>=◌, accepted, at}
use Rattle.format.specs.Serialize.{read_uint8}
use Rattle.format.specs.Shared.{read_message_format_version, read_esdk_suite_id, read_content_type}
use Rattle.format.specs.Policies.{Policy}
use Rattle.format.specs.Body.{Which, Lead, read_lead_of, read_lead, after_lead, read_opening, read_closing_of, read_closing}
use Rattle.steps.proofs.Tidy.{Tidy, tidy}
use Rattle.steps.proofs.Steps.{un_bind, inside}
use Rattle.steps.proofs.Numbers.{uint8_known}

pub version_tidy : Tidy read_message_format_version
unfolding read_message_format_version
version_tidy = search tidy depth 20

pub suite_tidy : (version : ℕ) → Tidy (read_esdk_suite_id version)
unfolding read_esdk_suite_id
suite_tidy version = search tidy depth 20

pub content_tidy : Tidy read_content_type
unfolding read_content_type
content_tidy = search tidy depth 20

lead_of_tidy : (v1 : Bool) → Tidy (read_lead_of v1)
unfolding read_lead_of
lead_of_tidy true = search (suite_tidy, tidy) depth 20
lead_of_tidy false = search (suite_tidy, tidy) depth 20

pub lead_tidy : (which : Which) → Tidy (read_lead which)
unfolding read_lead
lead_tidy which = search (version_tidy, lead_of_tidy, tidy) depth 20

after_lead_tidy : (policy : Policy) (l : Lead) → Tidy (after_lead policy l)
unfolding after_lead
after_lead_tidy policy l = search tidy depth 20

pub opening_tidy : (which : Which) (policy : Policy) → Tidy (read_opening which policy)
unfolding read_opening
opening_tidy which policy = search (lead_tidy, after_lead_tidy, tidy) depth 20

closing_of_tidy : (v1 : Bool) (content : ℕ) → Tidy (read_closing_of v1 content)
unfolding read_closing_of
closing_of_tidy true content = search tidy depth 20
closing_of_tidy false content = search tidy depth 20

pub closing_tidy : (v1 : Bool) → Tidy (read_closing v1)
unfolding read_closing
closing_tidy v1 = search (content_tidy, closing_of_tidy, tidy) depth 20

-- an accepted read ends within the message, wherever it began: some bytes were read
pub record Within {A : Type 0} (r : Reader A) : Type 0 where
  pub ends : (m : List ℕ) (s : ℕ) (a : A) (t : ℕ) → at r m s ≡ accepted a t → t ≤ length m

pub bind_within : {A B : Type 0} {r : Reader A} {f : A → Reader B} → Tidy r → Within r → ((a : A) → Tidy (f a)) → Within (r >>= f)
bind_within {f = f} hr wr hf =
    record { ends = λ m s b u e. let z = un_bind f hr m s b u e in inside (hf z.0) m z.1 (wr.ends m s z.0 z.1 z.2) b u z.3 }

pub uint8_within : Within read_uint8
uint8_within = record { ends = λ m s v t e. let y = uint8_known m s v t e in omega arith }

pub version_within : Within read_message_format_version
unfolding read_message_format_version
version_within = search (bind_within, uint8_within, tidy) depth 20

pub content_within : Within read_content_type
unfolding read_content_type
content_within = search (bind_within, uint8_within, tidy) depth 20

pub lead_within : (which : Which) → Within (read_lead which)
unfolding read_lead
lead_within which = search (bind_within, version_within, version_tidy, lead_of_tidy, tidy) depth 20

pub opening_within : (which : Which) (policy : Policy) → Within (read_opening which policy)
unfolding read_opening
opening_within which policy = search (bind_within, lead_within, lead_tidy, after_lead_tidy, tidy) depth 20
