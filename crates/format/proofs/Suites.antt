-- The suite table: looking a number up finds its row. Assumes nothing.
use mathlib.Core.Path.{◌≡◌, refl, sym, ap, ◌∙◌}
use mathlib.Core.Bool.{Bool, true, false, cond, not, ◌||◌}
use mathlib.Core.Logic.{⊎_elim}
use mathlib.Core.List.Memᴰ
use mathlib.Core.List.{List, [], ◌∷◌, map, Memᴰ}
use Prim.Native.Nat.{ℕ}
use native.Mathlib.Omega.{arith}
use lib.Dec.{leb, eqb}
use Rattle.format.specs.Serialize.{every}
use Rattle.format.specs.Shared.{one_or_two, SuiteRow, row, suites, version_in, suite_version, known}
use Rattle.format.specs.Pinned.{number_of}
use Rattle.format.proofs.Tests.{is_eqb}
use Rattle.format.proofs.Firsts.{both}

-- a computed test of a whole table holds at each entry
pub every_member : {A : Type 0} (f : A → Bool) (xs : List A) → every f xs ≡ true → (x : A) → Memᴰ x xs → f x ≡ true
unfolding every
every_member f [] e x h = absurd (Memᴰ.not-nil h)
every_member f (y ∷ ys) e x h =
    let z = both (f y) (every f ys) e in
    ⊎_elim (λ q. ap f q ∙ z.0) (λ m. every_member f ys z.1 x m) (Memᴰ.cases_cons h)

found_row : (rows : List SuiteRow) (x : ℕ) → not (eqb (version_in rows x) 0) ≡ true → Memᴰ (row x (version_in rows x)) rows
unfolding version_in
found_row [] x e = let z : ◌≡◌ {A = ℕ} 0 1 = cc in absurd (omega arith)
found_row (r ∷ rows) x e = go (eqb r.number x) refl e (found_row rows x)
  where
    go : (b : Bool) → eqb r.number x ≡ b → not (eqb (cond b r.version (version_in rows x)) 0) ≡ true
        → (not (eqb (version_in rows x) 0) ≡ true → Memᴰ (row x (version_in rows x)) rows) → Memᴰ (row x (cond b r.version (version_in rows x))) (r ∷ rows)
    go true q e f = let z : r.number ≡ x = is_eqb r.number x q in Memᴰ.head (ap (λ n. row n r.version) (sym z))
    go false q e f = Memᴰ.tail (f e)

pub in_a_row : (suite : ℕ) → known suite ≡ true → Memᴰ (row suite (suite_version suite)) suites
in_a_row suite e = found_row suites suite e

finds_itself : SuiteRow → Bool
finds_itself r = eqb (suite_version r.number) r.version

all_found : every finds_itself suites ≡ true
unfolding every finds_itself suites version_in
all_found = refl

pub row_of : (r : SuiteRow) → Memᴰ r suites → suite_version r.number ≡ r.version
unfolding finds_itself
row_of r h = is_eqb _ _ (every_member finds_itself suites all_found r h)

of_two_versions : SuiteRow → Bool
of_two_versions r = one_or_two r.version

two_versions : every of_two_versions suites ≡ true
unfolding every of_two_versions suites
two_versions = refl

pub no_third : (suite : ℕ) → known suite ≡ true → one_or_two (suite_version suite) ≡ true
unfolding of_two_versions
no_third suite e = every_member of_two_versions suites two_versions (row suite (suite_version suite)) (in_a_row suite e)

commits : SuiteRow → Bool
commits r = eqb r.version (cond (leb 0x0400 r.number) 2 1)

all_commit : every commits suites ≡ true
unfolding every commits suites
all_commit = refl

pub committing : (suite : ℕ) → known suite ≡ true → suite_version suite ≡ cond (leb 0x0400 suite) 2 1
unfolding commits
committing suite e = is_eqb _ _ (every_member commits suites all_commit (row suite (suite_version suite)) (in_a_row suite e))

-- a known suite that is not of version 1 is of version 2
pub version_2 : (suite : ℕ) → known suite ≡ true → eqb (suite_version suite) 1 ≡ false → suite_version suite ≡ 2
version_2 suite k e = go (eqb (suite_version suite) 1) e (no_third suite k)
  where
    go : (b : Bool) → b ≡ false → (b || eqb (suite_version suite) 2) ≡ true → suite_version suite ≡ 2
    go true p t = let z : ◌≡◌ {A = ℕ} 0 1 = cc in absurd (omega arith)
    go false p t = is_eqb _ _ t

pub eleven : map number_of suites ≡ (0x0014 ∷ 0x0046 ∷ 0x0078 ∷ 0x0114 ∷ 0x0146 ∷ 0x0178 ∷ 0x0214 ∷ 0x0346 ∷ 0x0378 ∷ 0x0478 ∷ 0x0578 ∷ [])
unfolding suites
eleven = refl
