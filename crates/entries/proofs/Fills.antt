-- A loop that fills a table with the numbers of items that stand one behind the other, k numbers an item: what the table holds in the end
-- is what it holds now with the numbers of the items left stored. Assumes nothing.
use mathlib.Core.Path.{◌≡◌, refl, sym, ap, ◌∙◌}
use mathlib.Core.List.{List, [], ◌∷◌, ◌++◌}
use Prim.Native.Nat.{ℕ, suc, ◌+◌, ◌*◌, ◌-◌, ◌≤◌, ◌<◌}
use native.Mathlib.Nat.{sub-zero, zero-add, add-zero, mul-suc, mul_comm, mul-zero}
use native.Mathlib.Numerals.{add-one}
use native.Mathlib.Omega.{arith}
use lib.ListN.{length, set}
use lib.Seq.{sets, sets-eq, length-sets}
use Rattle.format.specs.Serialize.{images}
use Rattle.format.specs.Lent.{filled}
use Rattle.format.specs.Places.{items_here, items_end}
use Rattle.format.proofs.Filled.{each_long}
use Rattle.entries.proofs.Items.{reach, end_step, here_length, here_step}

-- storing numbers and then others behind them
sets_more : (xs ys table : List ℕ) (j : ℕ) → sets table j (xs ++ ys) ≡ sets (sets table j xs) (j + length xs) ys
sets_more [] ys table j = ap (λ (i : ℕ). sets table i ys) (sym (add-zero j))
sets_more (x ∷ xs) ys table j = let e : suc j + length xs ≡ j + suc (length xs) = omega arith in sets_more xs ys (set table j x) (suc j) ∙ ap (λ (i : ℕ). sets (sets (set table j x) (suc j) xs) i ys) e

-- each item has k numbers, and ends at its start or behind it
pub record Numbered {A : Type 0} (end : List ℕ → ℕ → ℕ) (numbers : A → List ℕ) (k : ℕ) : Type 0 where
  pub forward : (m : List ℕ) (s : ℕ) → s ≤ end m s
  pub many : (a : A) → length (numbers a) ≡ k

numbers_long : {A : Type 0} {end : List ℕ → ℕ → ℕ} {numbers : A → List ℕ} {k : ℕ} → Numbered end numbers k → (items : List A) → length (images numbers items) ≡ k * length items
numbers_long {numbers = numbers} {k = k} each items = each_long numbers k each.many items ∙ mul_comm (length items) k

-- the loop's invariant: i of n items are stored, up to j, and the next one stands at s
pub record Fills {A : Type 0} (here : List ℕ → ℕ → A) (end : List ℕ → ℕ → ℕ) (numbers : A → List ℕ) (k : ℕ) (m table₀ table : List ℕ) (first n i j s : ℕ) : Type 0 where
  pub some : i ≤ n
  pub room : j ≡ k * i
  pub inside : i < n → items_end end m (n - i) s ≤ length m
  pub long : length table ≡ length table₀
  pub same : sets table₀ 0 (images numbers (items_here here end m n first)) ≡ sets table j (images numbers (items_here here end m (n - i) s))

module _ {A : Type 0} {here : List ℕ → ℕ → A} {end : List ℕ → ℕ → ℕ} {numbers : A → List ℕ} {k : ℕ} where
  pub fills_start : (m t : List ℕ) (first n : ℕ) → (0 < n → items_end end m n first ≤ length m) → Fills here end numbers k m t t first n 0 0 first
  fills_start m t first n h = record { some = omega arith; room = sym (mul-zero k); inside = rw sub-zero h; long = refl; same = rw sub-zero }

  module _ (each : Numbered end numbers k) (m t₀ t : List ℕ) (first n i j s : ℕ) (w : Fills here end numbers k m t₀ t first n i j s) where
    module _ (h : i < n) where
      pub fills_next : end m s ≤ length m
      fills_next = omega (arith, w.inside h, end_step end m n i s h, reach end m (each.forward m) (n - (i + 1)) (end m s))

      pub fills_more : (t' : List ℕ) (j' s' : ℕ) → t' ≡ sets t j (numbers (here m s)) → j' ≡ j + k → s' ≡ end m s → Fills here end numbers k m t₀ t' first n (i + 1) j' s'
      unfolding images
      fills_more t' j' s' f g e =
          let one = each.many (here m s) in
          let step : k * (i + 1) ≡ k * i + k = ap (λ (x : ℕ). k * x) (add-one i) ∙ mul-suc k i in
          let far : j + length (numbers (here m s)) ≡ j' = omega arith in
          record {
            some = omega arith;
            room = omega (arith, w.room);
            inside = λ _. rw e (rw (end_step end m n i s h) at (w.inside h));
            long = rw f (length-sets t j (numbers (here m s)) ∙ w.long);
            same = w.same ∙ rw (here_step here end m n i s h, sets_more (numbers (here m s)) (images numbers (items_here here end m (n - (i + 1)) (end m s))) t j, far, f, e);
          }

    pub fills_end : k * n ≤ length t₀ → n ≤ i → t ≡ filled (images numbers (items_here here end m n first)) t₀
    unfolding images items_here
    fills_end r h =
        let e : n - i ≡ 0 = omega arith in
        let l = numbers_long each (items_here here end m n first) in
        let c = here_length here end m n first in
        let fits : 0 + length (images numbers (items_here here end m n first)) ≤ length t₀ = rw (l, c, zero-add) r in
        sym (w.same ∙ rw e) ∙ sets-eq (images numbers (items_here here end m n first)) t₀ 0 fits ∙ rw zero-add
