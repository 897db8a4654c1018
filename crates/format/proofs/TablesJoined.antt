-- A table behind another has the pairs of the one and then those of the other. Assumes nothing.
use mathlib.Core.Path.{◌≡◌, refl, ap, ap₂, ◌∙◌}
use mathlib.Core.List.{List, ◌++◌}
use Prim.Native.Nat.{ℕ, ◌+◌, ◌*◌, ◌/◌, ◌%◌, ◌<◌}
use native.Mathlib.Omega.{arith}
use lib.ListN.{length, get_or, length-append, get_or-append}
use lib.Seq.{get_or-append-add}
use Rattle.format.specs.Fields.{Pair}
use Rattle.format.specs.Lent.{bytes_at, items, part_in, pair_in, pairs_in}
use Rattle.format.proofs.Tables.{items_append, items_same}

module _ (text a b : List ℕ) where
  part_in_front : (at : ℕ) → at + 1 < length a → part_in text (a ++ b) at ≡ part_in text a at
  unfolding part_in
  part_in_front at h = rw (get_or-append a b 0 at (omega arith), get_or-append a b 0 (at + 1) h) refl

  part_behind : (at n : ℕ) → at ≡ length a + n → part_in text (a ++ b) at ≡ part_in text b n
  unfolding part_in
  part_behind at n e =
      let start : get_or (a ++ b) at 0 ≡ get_or b n 0 = ap (λ i. get_or (a ++ b) i 0) e ∙ get_or-append-add a b n 0 in
      let next : at + 1 ≡ length a + (n + 1) = omega arith in
      let size : get_or (a ++ b) (at + 1) 0 ≡ get_or b (n + 1) 0 = ap (λ i. get_or (a ++ b) i 0) next ∙ get_or-append-add a b (n + 1) 0 in
      ap₂ (bytes_at text) start size

  abbrev pair_of_parts : List ℕ → List ℕ → Pair
  pair_of_parts k v = record { key = k; value = v }

  pub tables_joined : length a % 4 ≡ 0 → pairs_in text (a ++ b) ≡ pairs_in text a ++ pairs_in text b
  tables_joined whole =
      let n = length a / 4 in
      let m = length b / 4 in
      let count : length (a ++ b) / 4 ≡ n + m = (let l = length-append a b in omega arith) in
      ap (λ c. items (pair_in text (a ++ b)) 4 c 0) count
      ∙ items_append (pair_in text (a ++ b)) 4 n m 0
      ∙ ap₂ (λ x y. x ++ y)
      (items_same (pair_in text (a ++ b)) (pair_in text a) 4 n 0 0 (λ x h. ap₂ pair_of_parts (part_in_front (0 + 4 * x) (omega arith)) (part_in_front (0 + 4 * x + 2) (omega arith))))
      (items_same (pair_in text (a ++ b)) (pair_in text b) 4 m (0 + 4 * n) 0 (λ x h. ap₂ pair_of_parts (part_behind (0 + 4 * n + 4 * x) (0 + 4 * x) (omega arith)) (part_behind (0 + 4 * n + 4 * x + 2) (0 + 4 * x + 2) (omega arith))))
