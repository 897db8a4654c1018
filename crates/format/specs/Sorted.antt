-- Pairs in the order of their keys. Assumes nothing.
use Rattle.std.specs.Prelude.{Bool, true, false, cond, ◌&&◌, ◌||◌, List, [], ◌∷◌, ℕ, ltb, eqb}
use Rattle.format.specs.Fields.{Pair}

-- the order of keys: by the first byte that differs; a key that begins another comes first
unfoldable pub before : List ℕ → List ℕ → Bool
before [] [] = false
before [] (y ∷ b) = true
before (x ∷ a) [] = false
before (x ∷ a) (y ∷ b) = ltb x y || (eqb x y && before a b)

-- a pair put among sorted ones: in front of the first whose key comes behind its own
unfoldable pub put_in_order : List Pair → Pair → List Pair
put_in_order [] p = p ∷ []
put_in_order (q ∷ qs) p = cond (before p.key q.key) (p ∷ q ∷ qs) (q ∷ put_in_order qs p)

-- pairs put among sorted ones, each in its turn
unfoldable pub sort_among : List Pair → List Pair → List Pair
sort_among [] sorted = sorted
sort_among (p ∷ ps) sorted = sort_among ps (put_in_order sorted p)

abbrev pub sort_pairs : List Pair → List Pair
sort_pairs ps = sort_among ps []
