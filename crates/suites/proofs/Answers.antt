-- A suite as it was looked up: taking the answer apart. Assumes nothing.
use mathlib.Core.Path.{◌≡◌, refl, sym, ap, ◌∙◌}
use mathlib.Core.Bool.{Bool, true, false, cond, not}
use Prim.Native.Nat.{ℕ}
use lib.Dec.{eqb}
use borrow.Author.Tests.{eq-eqb, ne_eqb, eqb-true, eqb-false}
use Rattle.std.specs.Prelude.{Option, Some, None}
use Rattle.format.specs.Shared.{suite_version, known}
use Rattle.suites.specs.Table.{suite_of}
use Rattle.suites.specs.declared.Suite.{Suite}

pub record IsSuite (n : ℕ) (k : Suite) : Type 0 where
  pub number : k.number ≡ n
  pub version : k.version ≡ suite_version n
  pub some : k.version ≡ 0 → ⊥

module _ (n : ℕ) (x : Option Suite) (is : x ≡ suite_of n) where
  pub no_version : x ≡ None → suite_version n ≡ 0
  no_version e = by (eqb (suite_version n) 0) refl (sym e ∙ is)
    where
      by : (c : Bool) → eqb (suite_version n) 0 ≡ c → ◌≡◌ {A = Option Suite} None (cond c None (Some (record { number = n; version = suite_version n }))) → suite_version n ≡ 0
      by true q f = eqb-true _ _ q
      by false q f = cc

  pub unknown : x ≡ None → known n ≡ false
  unknown e = ap not (eq-eqb _ _ (no_version e))

  module _ (k : Suite) (e : x ≡ Some k) where
    pub suite_is : IsSuite n k
    suite_is = by (eqb (suite_version n) 0) refl (sym e ∙ is)
      where
        by : (c : Bool) → eqb (suite_version n) 0 ≡ c → ◌≡◌ {A = Option Suite} (Some k) (cond c None (Some (record { number = n; version = suite_version n }))) → IsSuite n k
        by true q f = cc
        by false q f = let y : k ≡ record { number = n; version = suite_version n } = cc in rw y (record { number = refl; version = refl; some = eqb-false _ _ q })

    pub its_version : k.version ≡ suite_version n
    its_version = suite_is.version

    pub has_version : k.version ≡ 0 → ⊥
    has_version = suite_is.some

    pub in_table : known n ≡ true
    in_table = ap not (ap (λ (y : ℕ). eqb y 0) (sym its_version) ∙ ne_eqb _ _ has_version)
