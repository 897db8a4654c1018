-- Laws of 6 and 7, by the suite as it was looked up. Assumes nothing.
use Prim.Native.Nat.{ℕ}
use mathlib.Core.Path.{◌≡◌, refl, ap}
use mathlib.Core.List.{List, ◌∷◌}
use lib.Dec.{eqb}
use borrow.Author.Tests.{eq-eqb, ne_eqb}
use Rattle.std.specs.Prelude.{Option, Some, None, Result, Ok, Err}
use Rattle.std.specs.Option.{ok_or}
use Rattle.format.specs.Shared.{known, of_version}
use Rattle.format.specs.Checks.{Check, check, first}
use Rattle.suites.specs.Table.{suite_of}
use Rattle.suites.specs.declared.Suite.{Suite}
use Rattle.suites.proofs.Answers.{unknown, its_version, in_table}
use Rattle.wire.specs.Codes.{because}
use Rattle.wire.specs.Reasons.{number_of}
use Rattle.wire.specs.declared.refusals.Refusal.{Refusal}
use Rattle.wire.specs.declared.refusals.Reason.{Reason}
use Rattle.wire.specs.declared.refusals.Reason.TheVariants.{UnknownSuite}
use Rattle.checks.specs.Answers.{Checked, checked}
use Rattle.checks.proofs.Stages.{check_stop, check_pass}

module _ (n : ℕ) (x : Option Suite) (x_is : x ≡ suite_of n) (y : Result Suite Reason) (made : y ≡ ok_or x UnknownSuite) (cs : List Check) where
  pub check_6 : (e : Reason) → y ≡ Err e → (q : Refusal) → q ≡ because (number_of e) 0 → ◌≡◌ {A = Checked} (Err q) (checked (first (check 6 (known n) ∷ cs)))
  check_6 e f q g = by x refl
    where
      by : (o : Option Suite) → x ≡ o → ◌≡◌ {A = Checked} (Err q) (checked (first (check 6 (known n) ∷ cs)))
      by None h =
          let z : e ≡ UnknownSuite = cc in
          check_stop 6 (known n) cs (Err q) (known n) refl (unknown n x x_is h) (rw (g, z) refl)
      by (Some k) h = cc

  module _ (k : Suite) (its : y ≡ Ok k) where
    got : x ≡ Some k
    got = by x refl
      where
        by : (o : Option Suite) → x ≡ o → x ≡ Some k
        by None h = cc
        by (Some j) h = cc

    pub pass_6 : (r : Checked) → r ≡ checked (first cs) → r ≡ checked (first (check 6 (known n) ∷ cs))
    pass_6 r = check_pass 6 (known n) cs r (known n) refl (in_table n x x_is k got)

    of : (version : ℕ) → eqb k.version version ≡ of_version version n
    of version = ap (λ (z : ℕ). eqb z version) (its_version n x x_is k got)

    pub check_7 : (version : ℕ) (r : Checked) → (k.version ≡ version → ⊥) → r ≡ Err (because 7 0) → r ≡ checked (first (check 7 (of_version version n) ∷ cs))
    check_7 version r h = check_stop 7 (of_version version n) cs r (eqb k.version version) (of version) (ne_eqb _ _ h)

    pub pass_7 : (version : ℕ) (r : Checked) → k.version ≡ version → r ≡ checked (first cs) → r ≡ checked (first (check 7 (of_version version n) ∷ cs))
    pass_7 version r h = check_pass 7 (of_version version n) cs r (eqb k.version version) (of version) (eq-eqb _ _ h)
