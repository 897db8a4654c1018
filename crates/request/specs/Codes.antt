-- The parts of a request, as the definitions have them. Assumes nothing.
use Rattle.std.specs.Prelude.{ℕ, Option, Some, None}
use Rattle.format.specs.Context.{tolerant, strict}
use Rattle.format.specs.Context.{Mode as ModeAsked}
use Rattle.format.specs.Keys.{no_max, at_most}
use Rattle.format.specs.Keys.{Max as MaxAsked}
use Rattle.format.specs.Policies.{no_policy, forbid_encrypt_allow_decrypt, require_encrypt_allow_decrypt, require_encrypt_require_decrypt}
use Rattle.format.specs.Policies.{Policy as PolicyAsked}
use Rattle.format.specs.Body.{either, v1_only, v2_only}
use Rattle.format.specs.Body.{Which as WhichAsked}
use Rattle.request.specs.declared.Mode.{Mode}
use Rattle.request.specs.declared.Mode.TheVariants.{Tolerant, Strict}
use Rattle.request.specs.declared.Which.{Which}
use Rattle.request.specs.declared.Which.TheVariants.{Either, V1Only, V2Only}
use Rattle.request.specs.declared.Policy.{Policy}
use Rattle.request.specs.declared.Policy.TheVariants as policy

abbrev pub max_of : Option ℕ → MaxAsked
max_of None = no_max
max_of (Some n) = at_most n

abbrev pub mode_of : Mode → ModeAsked
mode_of Tolerant = tolerant
mode_of Strict = strict

abbrev pub which_of : Which → WhichAsked
which_of Either = either
which_of V1Only = v1_only
which_of V2Only = v2_only

abbrev pub policy_of : Policy → PolicyAsked
policy_of policy.None = no_policy
policy_of policy.ForbidEncryptAllowDecrypt = forbid_encrypt_allow_decrypt
policy_of policy.RequireEncryptAllowDecrypt = require_encrypt_allow_decrypt
policy_of policy.RequireEncryptRequireDecrypt = require_encrypt_require_decrypt
