-- Checks of each item that look at the item, and at it beside each one before it: what they say together, without an order. Assumes nothing.
use mathlib.Core.Path.{◌≡◌, refl, sym, subst}
use mathlib.Core.Logic.{∥∥₁_elim, ⊎_elim}
use mathlib.Core.Bool.{Bool, true}
use mathlib.Core.List.Memᴰ
use mathlib.Core.List.{List, [], ◌∷◌, ◌++◌, Memᴰ, Pairwise}
use Rattle.format.specs.Serialize.{every}
use Rattle.format.specs.Checks.{Check, each}
use Rattle.format.proofs.Firsts.{Holds, split, join, both, and}

-- what the checks of one item say: a test of it, and something of it beside each one before it
pub record Says {A : Type 0} (f : List A → A → List Check) (test : A → Bool) (Apart : A → A → Type 0) : Type 0 where
  pub onward : (done : List A) (x : A) → Holds (f done x) → (test x ≡ true) × ((y : A) → Memᴰ y done → Apart y x)
  pub back : (done : List A) (x : A) → test x ≡ true → ((y : A) → Memᴰ y done → Apart y x) → Holds (f done x)

module _ {A : Type 0} (f : List A → A → List Check) (test : A → Bool) (Apart : A → A → Type 0) (prop : (x y : A) → IsProp (Apart x y)) (says : Says f test Apart) where
  pub each_then : (done xs : List A) → Holds (each f done xs) → (every test xs ≡ true) × ((x y : A) → Memᴰ x xs → Memᴰ y done → Apart y x) × Pairwise Apart xs
  unfolding each every
  each_then done [] h = (refl, (λ x y m i. absurd (Memᴰ.not-nil m)), Pairwise.nil)
  each_then done (x ∷ xs) h =
      let (a, b) = split (f done x) (each f (done ++ (x ∷ [])) xs) h in
      let (t, beside) = says.onward done x a in
      let (ts, apart, pairs) = each_then (done ++ (x ∷ [])) xs b in
      (and t ts, behind beside apart, Pairwise.cons (λ y m. ∥∥₁_elim m (prop x y) (λ i. apart y x i (Memᴰ.append_right done (Memᴰ.head refl)))) pairs)
    where
      behind : ((y : A) → Memᴰ y done → Apart y x) → ((z y : A) → Memᴰ z xs → Memᴰ y (done ++ (x ∷ [])) → Apart y z)
          → (z y : A) → Memᴰ z (x ∷ xs) → Memᴰ y done → Apart y z
      behind beside apart z y (Memᴰ.head e) i = subst (Apart y) (sym e) (beside y i)
      behind beside apart z y (Memᴰ.tail m) i = apart z y m (Memᴰ.append_left (x ∷ []) i)

  pub then_each : (done xs : List A) → every test xs ≡ true → ((x y : A) → Memᴰ x xs → Memᴰ y done → Apart y x) → Pairwise Apart xs → Holds (each f done xs)
  unfolding each every
  then_each done [] t apart pairs = tt
  then_each done (x ∷ xs) t apart (Pairwise.cons h pairs) =
      let (a, b) = both (test x) (every test xs) t in
      join (f done x) (each f (done ++ (x ∷ [])) xs) (says.back done x a (λ y i. apart x y (Memᴰ.head refl) i))
      (then_each (done ++ (x ∷ [])) xs b (λ z y m i. ⊎_elim (λ j. apart z y (Memᴰ.tail m) j) (λ j. last z y m j) (Memᴰ.append_cases done i)) pairs)
    where
      last : (z y : A) → Memᴰ z xs → Memᴰ y (x ∷ []) → Apart y z
      last z y m (Memᴰ.tail x8) = elim x8 [ ]
      last z y m (Memᴰ.head e) = subst (λ w. Apart w z) (sym e) (h z ∣ m ∣₁)
