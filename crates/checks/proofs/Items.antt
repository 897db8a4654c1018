-- Laws of items that stand in a table, and of what is made of each. Assumes nothing.
use Prim.Native.Nat.{ℕ, zero, suc, ◌+◌, ◌*◌, ◌-◌, ◌≤◌, ◌<◌}
use native.Mathlib.Nat.{add-zero, mul-zero, mul-suc, add_assoc, add_comm, not-suc-le-zero}
use native.Mathlib.Omega.{arith}
use mathlib.Core.Path.{◌≡◌, refl, ap, ap₂, ◌∙◌}
use mathlib.Core.Bool.{Bool, true}
use mathlib.Core.List.{List, [], ◌∷◌, ◌++◌}
use Rattle.format.proofs.Serialize.{images_append, sum_append}
use Rattle.format.specs.Serialize.{images, sum, every}
use Rattle.format.specs.Lent.{items, here}
use Rattle.format.proofs.Firsts.{both}

module _ {A : Type 0} (f : ℕ → A) (k n i at : ℕ) where
  pub items_step : i < n → items f k (n - i) at ≡ f at ∷ items f k (n - (i + 1)) (at + k)
  unfolding items
  items_step h = let e : n - i ≡ suc (n - (i + 1)) = omega arith in rw e

  pub items_none : n ≤ i → items f k (n - i) at ≡ []
  unfolding items
  items_none h = let e : n - i ≡ 0 = omega arith in rw e

pub items_snoc : {A : Type 0} (f : ℕ → A) (k i at : ℕ) → items f k (suc i) at ≡ items f k i at ++ (f (at + k * i) ∷ [])
unfolding items
items_snoc f k zero at = rw (mul-zero, add-zero)
items_snoc f k (suc i) at =
    let e : at + k + k * i ≡ at + k * suc i = rw (mul-suc, add_assoc at k, add_comm k) in
    ap (λ l. f at ∷ l) (items_snoc f k i (at + k) ∙ ap (λ (x : ℕ). items f k i (at + k) ++ (f x ∷ [])) e)

-- what holds of every place holds of each
pub every_at : (f : ℕ → Bool) (n at : ℕ) → every f (items here 2 n at) ≡ true → (j : ℕ) → j < n → f (at + 2 * j) ≡ true
unfolding every items
every_at f zero at e j h = absurd (not-suc-le-zero h)
every_at f (suc n) at e zero h = let z : at + 2 * 0 ≡ at = omega arith in rw z (both (f at) _ e).0
every_at f (suc n) at e (suc j) h =
    let z : at + 2 * suc j ≡ at + 2 + 2 * j = omega arith in
    rw z (every_at f n (at + 2) (both (f at) _ e).1 j (omega arith))

-- what is made of the parts of items is what is made of the items
module _ {A B C : Type 0} where
  pub images_of_images : (f : B → List C) (g : A → List B) (h : A → List C) → ((x : A) → images f (g x) ≡ h x) → (xs : List A) → images f (images g xs) ≡ images h xs
  unfolding images
  images_of_images f g h e [] = refl
  images_of_images f g h e (x ∷ xs) = images_append f (g x) (images g xs) ∙ ap₂ (λ a b. a ++ b) (e x) (images_of_images f g h e xs)

module _ {A B : Type 0} where
  pub sum_of_images : (f : B → ℕ) (g : A → List B) (h : A → ℕ) → ((x : A) → sum f (g x) ≡ h x) → (xs : List A) → sum f (images g xs) ≡ sum h xs
  unfolding sum images
  sum_of_images f g h e [] = refl
  sum_of_images f g h e (x ∷ xs) = sum_append f (g x) (images g xs) ∙ ap₂ (λ (a b : ℕ). a + b) (e x) (sum_of_images f g h e xs)
