-- What a request's numbers ask for. Assumes nothing.
use Rattle.std.specs.Prelude.{ℕ, ◌<◌, ◌≡◌, true, cond, eqb, Option, Some, None}
use Rattle.format.specs.Policies.{lets_read}
use Rattle.request.specs.Codes.{policy_of}
use Rattle.request.specs.declared.Mode.{Mode}
use Rattle.request.specs.declared.Mode.TheVariants.{Tolerant, Strict}
use Rattle.request.specs.declared.Which.{Which}
use Rattle.request.specs.declared.Which.TheVariants.{Either, V1Only, V2Only}
use Rattle.request.specs.declared.Policy.{Policy}
use Rattle.request.specs.declared.Policy.TheVariants as policy
use Rattle.request.specs.declared.Request.{Request}

-- 1: version 1 only; 2: version 2 only; any other: either version
abbrev pub which_asked : ℕ → Which
which_asked n = cond (eqb n 1) V1Only (cond (eqb n 2) V2Only Either)

-- 0: tolerant; any other: strict
abbrev pub mode_asked : ℕ → Mode
mode_asked n = cond (eqb n 0) Tolerant Strict

-- 0: none; any other: at most that many keys
abbrev pub max_asked : ℕ → ℕ → Option ℕ
max_asked hasMax max = cond (eqb hasMax 0) None (Some max)

-- 0: none; 1: FORBID_ENCRYPT_ALLOW_DECRYPT; 2: REQUIRE_ENCRYPT_ALLOW_DECRYPT; any other: REQUIRE_ENCRYPT_REQUIRE_DECRYPT
abbrev pub policy_asked : ℕ → Policy
policy_asked n =
    cond (eqb n 0) policy.None (cond (eqb n 1) policy.ForbidEncryptAllowDecrypt (cond (eqb n 2) policy.RequireEncryptAllowDecrypt policy.RequireEncryptRequireDecrypt))

abbrev pub request_asked : ℕ → ℕ → ℕ → ℕ → ℕ → Request
request_asked which mode hasMax max policy =
    record { which = which_asked which; policy = policy_asked policy; mode = mode_asked mode; max = max_asked hasMax max }

-- a number that names no policy lets nothing be read that any policy forbids
pub record PolicyNumbers : Type 0 where
  pub named : (policy_asked 0 ≡ policy.None) × (policy_asked 1 ≡ policy.ForbidEncryptAllowDecrypt) × (policy_asked 2 ≡ policy.RequireEncryptAllowDecrypt)
      × (policy_asked 3 ≡ policy.RequireEncryptRequireDecrypt)
  pub unnamed : (n : ℕ) → 3 < n → (p : Policy) (version : ℕ) → lets_read (policy_of (policy_asked n)) version ≡ true → lets_read (policy_of p) version ≡ true
