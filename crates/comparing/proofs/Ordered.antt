-- What std's `==` and `cmp` answer at bytes is what the definitions say, and so `compare_bytes` is a total order: equal exactly where
-- the strings are, the other way round reversed, and transitive. Assumes nothing.
use Prim.Native.Nat.{ℕ, ◌<◌}
use native.Mathlib.Omega.{arith}
use mathlib.Core.Path.{◌≡◌, refl, sym, ap, subst, ◌∙◌}
use mathlib.Core.List.{List, [], ◌∷◌}
use mathlib.Core.Bool.{Bool, true, false, ◌&&◌}
use lib.Dec.{ltb, eqb}
use lib.Pointwise.{pointwise}
use borrow.Author.Tests.{ltb-true, ltb-false}
use Rattle.std.specs.declared.cmp.Ordering.TheVariants.{Less, Equal, Greater}
use Rattle.std.specs.Ordering.{is_eq, is_lt, nat_cmp, ordering_reverse}
use Rattle.std.specs.Cmp.{IsTotalOrder}
use Rattle.std.specs.Cmp.Lexicographic.{slice_cmp}
use Rattle.std.proofs.lemmas.Bool.Decides.{nat_tests}
use Rattle.std.proofs.lemmas.Cmp.{nat_list_cmp_total, same_from_slice_cmp, tied_itself}
use Rattle.std.proofs.lemmas.Map.Lookups.{exact_bytes}
use Rattle.std.proofs.lemmas.Map.Text.{is_eq-slice_cmp}
use Rattle.format.specs.Serialize.{same_bytes}
use Rattle.format.specs.Sorted.{before}
use Rattle.comparing.specs.Order.{compare_bytes}

-- the ways two numbers stand
pub data Way (x y : ℕ) : Type 0 where
  under : x < y → Way x y
  same : x ≡ y → Way x y
  over : y < x → Way x y

pub way : (x y : ℕ) → Way x y
way x y = go (ltb x y) (ltb y x) refl refl
  where
    go : (t u : Bool) → ltb x y ≡ t → ltb y x ≡ u → Way x y
    go true u e f = under (ltb-true x y e)
    go false true e f = over (ltb-true y x f)
    go false false e f = same (let a = ltb-false x y e in let b = ltb-false y x f in omega arith)

pub same_as : (a b : List ℕ) → pointwise eqb a b ≡ same_bytes a b
unfolding same_bytes
same_as [] [] = refl
same_as [] (y ∷ t) = refl
same_as (x ∷ s) [] = refl
same_as (x ∷ s) (y ∷ t) = ap (λ (u : Bool). eqb x y && u) (same_as s t)

pub compare_as : (a b : List ℕ) → slice_cmp nat_cmp a b ≡ compare_bytes a b
unfolding compare_bytes
compare_as [] [] = refl
compare_as [] (y ∷ t) = refl
compare_as (x ∷ s) [] = refl
compare_as (x ∷ s) (y ∷ t) = let h = compare_as s t in grind (arith, nat_tests)

compare_total : IsTotalOrder compare_bytes
compare_total = subst IsTotalOrder (λ i a b. compare_as a b i) nat_list_cmp_total

pub compare_flip : (a b : List ℕ) → compare_bytes b a ≡ ordering_reverse (compare_bytes a b)
compare_flip a b = compare_total.antisymm b a

pub compare_trans : (a b c : List ℕ) → compare_bytes a b ≡ Less → compare_bytes b c ≡ Less → compare_bytes a c ≡ Less
compare_trans = compare_total.trans

pub compare_equal : (a b : List ℕ) → compare_bytes a b ≡ Equal → a ≡ b
compare_equal a b e = exact_bytes a b (compare_as a b ∙ e)

-- it is the order that pairs are sorted by
compare_before : (a b : List ℕ) → is_lt (compare_bytes a b) ≡ before a b
unfolding before
compare_before a b =
    same_from_slice_cmp nat_cmp is_lt before refl (λ _ _. refl) (λ _ _. refl) (λ x y s t o h. grind (arith, nat_tests)) a b (compare_bytes a b) (sym (compare_as a b))

pub less_before : (a b : List ℕ) → compare_bytes a b ≡ Less → before a b ≡ true
less_before a b e = sym (compare_before a b) ∙ ap is_lt e

pub greater_before : (a b : List ℕ) → compare_bytes a b ≡ Greater → before a b ≡ false
greater_before a b e = sym (compare_before a b) ∙ ap is_lt e

-- the same bytes are those in the order Equal
compare_same : (a b : List ℕ) → same_bytes a b ≡ is_eq (compare_bytes a b)
compare_same a b = sym (same_as a b) ∙ sym (is_eq-slice_cmp a b) ∙ ap is_eq (compare_as a b)

pub same_refl : (a : List ℕ) → same_bytes a a ≡ true
same_refl a = compare_same a a ∙ ap is_eq (tied_itself compare_total a)

pub less_not_same : (a b : List ℕ) → compare_bytes a b ≡ Less → same_bytes a b ≡ false
less_not_same a b e = compare_same a b ∙ ap is_eq e

pub greater_not_same : (a b : List ℕ) → compare_bytes a b ≡ Greater → same_bytes a b ≡ false
greater_not_same a b e = compare_same a b ∙ ap is_eq e
