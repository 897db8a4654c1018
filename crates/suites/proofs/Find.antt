-- Looking a number up in the table of suites is the definition's rule over it. Assumes nothing.
use mathlib.Core.Path.{◌≡◌, refl}
use mathlib.Core.Bool.{Bool, true, false, cond, not}
use mathlib.Core.List.{List, [], ◌∷◌, map}
use Prim.Native.Nat.{ℕ}
use lib.Dec.{eqb}
use borrow.Author.Tests.{eqb-true, not-true}
use Rattle.std.specs.Prelude.{Option, Some, find, ◌==◌}
use Rattle.format.specs.Serialize.{every}
use Rattle.format.specs.Shared.{SuiteRow, suites, version_in, suite_version}
use Rattle.format.proofs.Firsts.{both}
use Rattle.suites.specs.declared.Suite.{Suite}
use Rattle.suites.specs.Table.{row_of, by_version, suite_of}

-- the table holds each number once: every row is found by its number
pub each_found : map (λ (r : SuiteRow). suite_version r.number) suites ≡ map (λ (r : SuiteRow). r.version) suites
unfolding suites version_in
each_found = refl

-- every row has a version, so that 0 says that there is none
is_row : SuiteRow → Bool
is_row r = not (eqb r.version 0)

all_rows : every is_row suites ≡ true
unfolding every is_row suites
all_rows = refl

-- the first row with the number, in any table whose rows have versions
found_in : (t : List SuiteRow) (n : ℕ) → every is_row t ≡ true → find (λ (s : Suite). s.number == n) (map row_of t) ≡ by_version n (version_in t n)
unfolding every is_row version_in
found_in [] n e = refl
found_in (r ∷ t) n e = by (eqb r.number n) refl (found_in t n (both (is_row r) (every is_row t) e).1)
  where
    left : Option Suite
    left = find (λ (s : Suite). s.number == n) (map row_of t)

    by : (c : Bool) → eqb r.number n ≡ c → left ≡ by_version n (version_in t n) → cond {A = Option Suite} c (Some (row_of r)) left ≡ by_version n (cond c r.version (version_in t n))
    by true q f = rw (← eqb-true _ _ q, not-true _ (both (is_row r) (every is_row t) e).0)
    by false q f = f

pub found : (n : ℕ) → find (λ (s : Suite). s.number == n) (map row_of suites) ≡ suite_of n
found n = found_in suites n all_rows
