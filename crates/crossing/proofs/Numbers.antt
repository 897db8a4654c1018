-- What an unknown policy number stands for. Assumes nothing.
use Prim.Native.Nat.{ℕ, ◌<◌}
use native.Mathlib.Omega.{arith}
use mathlib.Core.Path.{◌≡◌, refl, ap, ◌∙◌}
use borrow.Author.Tests.{eqb-true, ne_eqb}
use Rattle.format.specs.Policies.{lets_read}
use Rattle.format.proofs.ListedEnds.{two_read}
use Rattle.request.specs.Codes.{policy_of}
use Rattle.request.specs.declared.Policy.TheVariants.{RequireEncryptRequireDecrypt}
use Rattle.crossing.specs.Asked.{policy_asked, PolicyNumbers}

last : (n : ℕ) → 3 < n → policy_asked n ≡ RequireEncryptRequireDecrypt
last n h = rw (ne_eqb n 0 (λ e. omega arith), ne_eqb n 1 (λ e. omega arith), ne_eqb n 2 (λ e. omega arith)) refl

pub policy_numbers : PolicyNumbers
policy_numbers =
    record {
      named = (refl, refl, refl, refl);
      unnamed = λ n h p version e. (let two : version ≡ 2 = eqb-true version 2 (rw (last n h) at e) in ap (lets_read (policy_of p)) two ∙ two_read (policy_of p));
    }
