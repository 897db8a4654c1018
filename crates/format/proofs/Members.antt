-- Whether a number is of a list, as a computed test: so that a list of refusals has another's numbers, or lacks one, by computing.
-- Assumes nothing.
use mathlib.Core.Path.{◌≡◌, refl, sym, ◌∙◌}
use mathlib.Core.Bool.{Bool, true, false, ◌&&◌, ◌||◌, false≢true}
use mathlib.Core.List.{List, [], ◌∷◌, ◌++◌, Memᴰ}
use Prim.Native.Nat.{ℕ}
use lib.Dec.{eqb}
use Rattle.format.proofs.Tests.{eqb_is, is_eqb}
use Rattle.format.proofs.Firsts.{both, or_right}

abbrev pub has : List ℕ → ℕ → Bool
has [] k = false
has (j ∷ js) k = eqb k j || has js k

abbrev pub has_all : List ℕ → List ℕ → Bool
has_all js [] = true
has_all js (k ∷ ks) = has js k && has_all js ks

pub is_member : (js : List ℕ) (k : ℕ) → has js k ≡ true → Memᴰ k js
is_member [] k e = absurd (false≢true e)
is_member (j ∷ js) k e = go (eqb k j) refl e (is_member js k)
  where
    go : (b : Bool) → eqb k j ≡ b → b || has js k ≡ true → (has js k ≡ true → Memᴰ k js) → Memᴰ k (j ∷ js)
    go true q e ih = Memᴰ.head (is_eqb k j q)
    go false q e ih = Memᴰ.tail (ih e)

pub member_is : (js : List ℕ) (k : ℕ) → Memᴰ k js → has js k ≡ true
member_is [] k x' = elim x' [ ]
member_is (j ∷ js) k (Memᴰ.head e) = rw (eqb_is k j e) refl
member_is (j ∷ js) k (Memᴰ.tail h) = or_right (eqb k j) (member_is js k h)

pub members : (js ks : List ℕ) → has_all js ks ≡ true → (k : ℕ) → Memᴰ k ks → Memᴰ k js
members js [] e k x'' = elim x'' [ ]
members js (j ∷ ks) e k (Memᴰ.head q) = rw q (is_member js j (both (has js j) _ e).0)
members js (j ∷ ks) e k (Memᴰ.tail h) = members js ks (both (has js j) _ e).1 k h

pub has_neither : (xs ys : List ℕ) (k : ℕ) → has xs k ≡ false → has ys k ≡ false → has (xs ++ ys) k ≡ false
has_neither [] ys k e f = f
has_neither (x ∷ xs) ys k e f = go (eqb k x) e (λ h. has_neither xs ys k h f)
  where
    go : (b : Bool) → b || has xs k ≡ false → (has xs k ≡ false → has (xs ++ ys) k ≡ false) → b || has (xs ++ ys) k ≡ false
    go true e ih = e
    go false e ih = ih e

pub no_member : (ks : List ℕ) (k : ℕ) → has ks k ≡ false → Memᴰ k ks → ⊥
no_member ks k e h = false≢true (sym e ∙ member_is ks k h)
