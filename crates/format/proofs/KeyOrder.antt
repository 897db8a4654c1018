-- The order of keys, by their bytes: of two keys one comes first or they are equal. Assumes nothing.
use mathlib.Core.Path.{◌≡◌, refl, sym, ◌∙◌}
use mathlib.Core.Bool.{Bool, true, false, ◌&&◌}
use mathlib.Core.Logic.{◌⊎◌, inl, inr, ⊎_elim}
use mathlib.Core.List.{List, [], ◌∷◌, ◌++◌}
use Prim.Native.Nat.{ℕ, suc, ◌≤◌, ◌<◌}
use native.Mathlib.Omega.{arith}
use lib.Dec.{leb, ltb, eqb}
use Rattle.format.specs.Sorted.{before}
use Rattle.format.specs.Selection.{KeyOrder}
use Rattle.format.proofs.Tests.{never, fails, leb_is, nleb_is, is_leb, is_nleb, eqb_is, is_eqb}
use Rattle.format.proofs.Firsts.{both, or_cases}

-- what the first bytes say
by_less : (x y : ℕ) (a b : List ℕ) → x < y → before (x ∷ a) (y ∷ b) ≡ true
unfolding before
by_less x y a b h = rw (leb_is (suc x) y h) refl

by_equal : (x : ℕ) (a b : List ℕ) → before (x ∷ a) (x ∷ b) ≡ before a b
unfolding before
by_equal x a b = rw (nleb_is (suc x) x (omega arith), eqb_is x x refl) refl

-- one key comes before another by a smaller byte, or by what follows an equal one
abbrev Less : ℕ → ℕ → List ℕ → List ℕ → Type 0
Less x y a b = (x < y) ⊎ ((x ≡ y) × (before a b ≡ true))

less : (x y : ℕ) (a b : List ℕ) → before (x ∷ a) (y ∷ b) ≡ true → Less x y a b
unfolding before
less x y a b e =
    ⊎_elim (λ p. inl (is_leb (suc x) y p)) (λ p. (let z = both (eqb x y) (before a b) p in inr (is_eqb x y z.0, z.1))) (or_cases (ltb x y) (eqb x y && before a b) e)

is_less : (x y : ℕ) (a b : List ℕ) → Less x y a b → before (x ∷ a) (y ∷ b) ≡ true
is_less x y a b (inl h) = by_less x y a b h
is_less x y a b (inr (e, h)) = rw e (by_equal y a b ∙ h)

pub total : (a b : List ℕ) → (before a b ≡ true) ⊎ ((a ≡ b) ⊎ (before b a ≡ true))
unfolding before
total [] [] = inr (inl refl)
total [] (y ∷ b) = inl refl
total (x ∷ a) [] = inr (inr refl)
total (x ∷ a) (y ∷ b) = go (leb x y) refl (leb y x) refl (total a b)
  where
    go : (c : Bool) → leb x y ≡ c → (d : Bool) → leb y x ≡ d → (before a b ≡ true) ⊎ ((a ≡ b) ⊎ (before b a ≡ true))
        → (before (x ∷ a) (y ∷ b) ≡ true) ⊎ (((x ∷ a) ≡ (y ∷ b)) ⊎ (before (y ∷ b) (x ∷ a) ≡ true))
    go false p d q ih = inr (inr (by_less y x b a (is_nleb x y p)))
    go true p false q ih = inl (by_less x y a b (is_nleb y x q))
    go true p true q ih =
        let g : x ≤ y = is_leb x y p in
        let h : y ≤ x = is_leb y x q in
        let e : x ≡ y = omega arith in
        ⊎_elim (λ l. inl (is_less x y a b (inr (e, l)))) (⊎_elim (λ s. inr (inl (cc))) (λ l. inr (inr (is_less y x b a (inr (sym e, l)))))) ih

pub not_itself : (a : List ℕ) → before a a ≡ false
unfolding before
not_itself [] = refl
not_itself (x ∷ a) = by_equal x a a ∙ not_itself a

pub passes_on : (a b c : List ℕ) → before a b ≡ true → before b c ≡ true → before a c ≡ true
unfolding before
passes_on [] [] c e f = f
passes_on [] (y ∷ b) [] e f = f
passes_on [] (y ∷ b) (z ∷ c) e f = refl
passes_on (x ∷ a) [] c e f = never e refl
passes_on (x ∷ a) (y ∷ b) [] e f = f
passes_on (x ∷ a) (y ∷ b) (z ∷ c) e f = is_less x z a c (go (less x y a b e) (less y z b c f) (passes_on a b c))
  where
    go : Less x y a b → Less y z b c → (before a b ≡ true → before b c ≡ true → before a c ≡ true) → Less x z a c
    go (inl h) (inl k) ih = inl (omega arith)
    go (inl h) (inr (q, k)) ih = inl (omega arith)
    go (inr (p, h)) (inl k) ih = inl (omega arith)
    go (inr (p, h)) (inr (q, k)) ih = inr (p ∙ q, ih h k)

-- no key comes before one that comes before it
pub not_both : {C : Type 0} (a b : List ℕ) → before a b ≡ true → before b a ≡ true → C
not_both a b e f = never (passes_on a b a e f) (not_itself a)

one_way : (a b : List ℕ) → before a b ≡ true → before b a ≡ false
one_way a b e = fails (before b a) (not_both a b e)

beginning : (a : List ℕ) (x : ℕ) (b : List ℕ) → before a (a ++ (x ∷ b)) ≡ true
unfolding before
beginning [] x b = refl
beginning (y ∷ a) x b = by_equal y a (a ++ (x ∷ b)) ∙ beginning a x b

first_difference : (front : List ℕ) (x y : ℕ) (a b : List ℕ) → x < y → before (front ++ (x ∷ a)) (front ++ (y ∷ b)) ≡ true
first_difference [] x y a b h = by_less x y a b h
first_difference (z ∷ front) x y a b h = by_equal z (front ++ (x ∷ a)) (front ++ (y ∷ b)) ∙ first_difference front x y a b h

pub key_order : KeyOrder
key_order = record { total = total; one_way = one_way; not_itself = not_itself; passes_on = passes_on; beginning = beginning; first_difference = first_difference }
