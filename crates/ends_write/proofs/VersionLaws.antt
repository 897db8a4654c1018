-- Laws of the tests that look at the version, and of what passed a test. Assumes nothing.
use Prim.Native.Nat.{ℕ, ◌<◌}
use native.Mathlib.Omega.{arith}
use mathlib.Core.Path.{◌≡◌, refl, ◌∙◌}
use mathlib.Core.Bool.{Bool, true, false, cond, ◌||◌}
use mathlib.Core.List.{List, ◌∷◌}
use lib.Dec.{eqb}
use borrow.Author.Tests.{eqb-true}
use Rattle.std.specs.Prelude.{Err}
use Rattle.format.specs.Shared.{one_or_two}
use Rattle.format.specs.Checks.{Check, check, first}
use Rattle.wire.specs.Codes.{because}
use Rattle.checks.specs.Answers.{Checked, checked}
use Rattle.checks.proofs.Stages.{check_eq, pass_eq}

-- a check of a number that the version decides, which the code compares with n
module _ (k x y : ℕ) (cs : List Check) (r : Checked) (n : ℕ) (nIs : n ≡ y) where
  pub check_by : (x ≡ n → ⊥) → r ≡ Err (because k 0) → r ≡ checked (first (check k (eqb x y) ∷ cs))
  check_by h = check_eq k x y cs r (rw nIs at h)

  pub pass_by : x ≡ n → r ≡ checked (first cs) → r ≡ checked (first (check k (eqb x y) ∷ cs))
  pass_by e = pass_eq k x y cs r (e ∙ nIs)

-- numbers that passed their test are small
pub one_or_two_small : (x : ℕ) → one_or_two x ≡ true → x < 256
one_or_two_small x e = go (eqb x 1) refl e
  where
    go : (t : Bool) → eqb x 1 ≡ t → t || eqb x 2 ≡ true → x < 256
    go true q f = let z = eqb-true x 1 q in omega arith
    go false q f = let z = eqb-true x 2 f in omega arith

pub by_small : (t : Bool) (a b n : ℕ) → n ≡ cond t a b → a < 256 → b < 256 → n < 256
by_small true a b n e h k = omega arith
by_small false a b n e h k = omega arith
