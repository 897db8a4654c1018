-- What a rearrangement of any list keeps. Assumes nothing.
use mathlib.Core.Path.{◌≡◌, refl, sym, ap, ◌∙◌}
use mathlib.Core.Bool.{Bool, true, false, ◌&&◌}
use mathlib.Core.List.Permᴰ
use mathlib.Core.List.{List, ◌∷◌, Memᴰ}
use Prim.Native.Nat.{ℕ, suc, ◌+◌}
use native.Mathlib.Omega.{arith}
use lib.ListN.{length}
use Rattle.format.specs.Serialize.{sum, every}
use Rattle.format.specs.Arrangement.{Rearranged}

module _ {A : Type 0} where
  -- what is worked out item by item, in steps that can be exchanged
  pub same : {B : Type 0} (h : List A → B) (step : A → B → B) → ((x : A) (xs : List A) → h (x ∷ xs) ≡ step x (h xs))
      → ((x y : A) (b : B) → step x (step y b) ≡ step y (step x b)) → {xs ys : List A} → Rearranged xs ys → h xs ≡ h ys
  same h step is swap Permᴰ.nil = refl
  same h step is swap (Permᴰ.cons {a} {b} {l₁} {l₂} e d) = is a l₁ ∙ ap (step a) (same h step is swap d) ∙ ap (λ x. step x (h l₂)) e ∙ sym (is b l₂)
  same h step is swap (Permᴰ.swap {a} {b} {a'} {b'} {l} e f) =
      is a (b ∷ l) ∙ ap (step a) (is b l) ∙ swap a b (h l) ∙ ap (λ x. step x (step a (h l))) f ∙ ap (λ x. step a' (step x (h l))) e ∙ ap (step a') (sym (is b' l)) ∙ sym (is a' (b' ∷ l))
  same h step is swap (Permᴰ.trans d e) = same h step is swap d ∙ same h step is swap e

  pub same_length : {xs ys : List A} → Rearranged xs ys → length xs ≡ length ys
  same_length = same length (λ x n. suc n) (λ x xs. refl) (λ x y n. refl)

  pub same_sum : (f : A → ℕ) {xs ys : List A} → Rearranged xs ys → sum f xs ≡ sum f ys
  unfolding sum
  same_sum f = same (sum f) (λ x n. f x + n) (λ x xs. refl) (λ x y n. omega arith)

  pub same_every : (f : A → Bool) {xs ys : List A} → Rearranged xs ys → every f xs ≡ every f ys
  unfolding every
  same_every f = same (every f) (λ x b. f x && b) (λ x xs. refl) (λ x y b. swap (f x) (f y) b)
    where
      swap : (a b c : Bool) → (a && (b && c)) ≡ (b && (a && c))
      swap true b c = refl
      swap false true c = refl
      swap false false c = refl

  pub member : {x : A} {xs ys : List A} → Rearranged xs ys → Memᴰ x xs → Memᴰ x ys
  member Permᴰ.nil m = elim m [ ]
  member (Permᴰ.cons e d) (Memᴰ.head f) = Memᴰ.head (f ∙ e)
  member (Permᴰ.cons e d) (Memᴰ.tail m) = Memᴰ.tail (member d m)
  member (Permᴰ.swap e f) (Memᴰ.head g) = Memᴰ.tail (Memᴰ.head (g ∙ e))
  member (Permᴰ.swap e f) (Memᴰ.tail (Memᴰ.head g)) = Memᴰ.head (g ∙ f)
  member (Permᴰ.swap e f) (Memᴰ.tail (Memᴰ.tail m)) = Memᴰ.tail (Memᴰ.tail m)
  member (Permᴰ.trans d e) m = member e (member d m)
