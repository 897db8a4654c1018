-- Laws of the passes over a table: a test of each place, a sum, and the checks of each item, for each way out of a loop. Assumes nothing.
use mir.Syntax.{w32}
use mir.Val.{Fits}
use Rattle.std.specs.Prelude.{map}
use Rattle.std.proofs.lemmas.List.Sums.{sum_by-cons}
use Rattle.std.specs.Prelude.{sum as total}
use Rattle.std.specs.List.{list_all, range_with_len}
use Prim.Native.Nat.{zero, suc, ℕ, ◌+◌, ◌*◌, ◌-◌, ◌≤◌, ◌<◌}
use native.Mathlib.Nat.{sub-zero, zero-add, mul-suc, add_comm, mul-zero}
use native.Mathlib.Numerals.{add-one}
use native.Mathlib.Omega.{arith}
use mathlib.Core.Path.{◌≡◌, refl, sym, ap, ◌∙◌}
use mathlib.Core.Bool.{Bool, ◌&&◌}
use mathlib.Core.List.{List, [], ◌∷◌, ◌++◌}
use lib.ListN.{get_or}
use Rattle.format.specs.Serialize.{every, sum}
use Rattle.format.specs.Checks.{Check, first, each}
use Rattle.format.specs.Lent.{items, here}
use Rattle.wire.specs.declared.refusals.Refusal.{Refusal}
use Rattle.checks.specs.Answers.{Checked, checked}
use Rattle.checks.specs.Each.{Each}
use Rattle.checks.specs.Table.{entry_size}
use Rattle.checks.proofs.Items.{items_step, items_none, items_snoc}
use Rattle.checks.proofs.Stages.{stage_passes, stage_fails}
use Rattle.std.specs.Prelude.{Ok, Err}

-- a test of each place, and the sum of what is counted at each
pub every_all : (f : ℕ → Bool) (n i : ℕ) → list_all (λ k. f (2 * k)) (range_with_len i n) ≡ every f (items here 2 n (2 * i))
unfolding every items
every_all f zero i = refl
every_all f (suc n) i =
    let next : 2 * i + 2 ≡ 2 * (i + 1) = omega arith in
    rw next (ap (λ (t : Bool). f (2 * i) && t) (every_all f n (i + 1)))

-- how many bytes the entry of the k-th part takes
abbrev pub entry_at : List ℕ → ℕ → ℕ
entry_at table k = 2 + get_or table (2 * k + 1) 0

pub entries_all : (table : List ℕ) (n i : ℕ) → total (map (entry_at table) (range_with_len i n)) ≡ sum (entry_size table) (items here 2 n (2 * i))
unfolding sum items entry_size
entries_all table zero i = refl
entries_all table (suc n) i =
    let next : 2 * i + 2 ≡ 2 * (i + 1) = omega arith in
    sum_by-cons (λ x. x) (entry_at table i) (map (entry_at table) (range_with_len (i + 1) n)) ∙ rw next (ap (λ (t : ℕ). entry_at table i + t) (entries_all table n (i + 1)))

-- within the width
pub entries_small : (table : List ℕ) → ((k : ℕ) → Fits w32 (get_or table k 0)) → (n i : ℕ) → total (map (entry_at table) (range_with_len i n)) ≤ 4294967300 * n
entries_small table fits zero i = omega arith
entries_small table fits (suc n) i =
    let one = (fits (2 * i + 1)).fits in
    let more = entries_small table fits n (i + 1) in
    let split = sum_by-cons (λ x. x) (entry_at table i) (map (entry_at table) (range_with_len (i + 1) n)) in
    omega arith

-- the checks of each item
pub each_start : {A : Type 0} (f : List A → A → List Check) (g : ℕ → A) (k n : ℕ) → Each f g k n 0
unfolding items
each_start f g k n = record { some = omega arith; same = rw (sub-zero, mul-zero) }

module _ {A : Type 0} (f : List A → A → List Check) (g : ℕ → A) (k n i : ℕ) (e : Each f g k n i) where
  pub each_end : n ≤ i → ◌≡◌ {A = Checked} (Ok tt) (checked (first (each f [] (items g k n 0))))
  unfolding each first
  each_end h = sym (e.same ∙ rw (items_none g k n i (k * i) h))

  module _ (h : i < n) (c : Checked) (is : c ≡ checked (first (f (items g k i 0) (g (k * i))))) where
    step : checked (first (each f [] (items g k n 0)))
        ≡ checked (first (f (items g k i 0) (g (k * i)) ++ each f (items g k i 0 ++ (g (k * i) ∷ [])) (items g k (n - (i + 1)) (k * i + k))))
    unfolding each
    step = e.same ∙ rw (items_step g k n i (k * i) h)

    pub each_bad : (r : Refusal) → c ≡ Err r → ◌≡◌ {A = Checked} (Err r) (checked (first (each f [] (items g k n 0))))
    each_bad r q = sym (step ∙ stage_fails _ c is _ r q)

    pub each_more : c ≡ Ok tt → Each f g k n (i + 1)
    each_more q =
        let longer : items g k (i + 1) 0 ≡ items g k i 0 ++ (g (k * i) ∷ []) = rw (add-one, items_snoc g k i 0, zero-add) in
        let next : k * i + k ≡ k * (i + 1) = rw (add-one, mul-suc, add_comm) in
        record { some = omega arith; same = step ∙ stage_passes _ c is _ q ∙ rw (longer, next) }
