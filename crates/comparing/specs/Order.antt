-- The order of byte strings. Assumes nothing.
use Rattle.std.specs.Prelude.{ℕ, cond, List, [], ◌∷◌, ltb}
use Rattle.std.specs.declared.cmp.Ordering.{Ordering}
use Rattle.std.specs.declared.cmp.Ordering.TheVariants.{Less, Equal, Greater}

-- by the first byte that differs; a string that begins another comes before it
unfoldable pub compare_bytes : List ℕ → List ℕ → Ordering
compare_bytes [] [] = Equal
compare_bytes [] (y ∷ t) = Less
compare_bytes (x ∷ s) [] = Greater
compare_bytes (x ∷ s) (y ∷ t) = cond (ltb x y) Less (cond (ltb y x) Greater (compare_bytes s t))
