-- Which places of an index are marked, and the pairs that stand there. Assumes nothing.
use Rattle.std.specs.Prelude.{◌≡◌, Bool, false, cond, ◌||◌, List, [], ◌∷◌, ◌++◌, ℕ, zero, suc, ◌+◌, ◌≤◌, ◌<◌, length, get_or}
use Rattle.format.specs.Serialize.{same_bytes}
use Rattle.format.specs.Fields.{Pair}
use Rattle.format.specs.Places.{pair_end}
use Rattle.format.specs.OnlyAuthenticated.{is_among}
use Rattle.pair_index.specs.Index.{key_of, pair_from}
use Rattle.pair_index.specs.declared.PairIndex.{PairIndex}

-- the key of the pair at place i of an index, and the pair
abbrev pub key_in : PairIndex → ℕ → List ℕ
key_in x i = key_of x.m.now x.first (get_or x.keys.now i 0)

abbrev pub pair_in : PairIndex → ℕ → Pair
pair_in x i = pair_from x.m.now x.first (get_or x.keys.now i 0)

-- it stands at s, in the message
pub record StandsAt (x : PairIndex) (i s : ℕ) : Type 0 where
  pub is : s ≡ x.first + get_or x.keys.now i 0
  pub inside : pair_end x.m.now s ≤ length x.m.now

-- the pair at place i, if the place is marked
unfoldable pub marked_at : PairIndex → List Bool → ℕ → List Pair
marked_at x marks i = cond (get_or marks i false) (pair_in x i ∷ []) []

-- those of n places, from i on
unfoldable pub marked : PairIndex → List Bool → ℕ → ℕ → List Pair
marked x marks zero i = []
marked x marks (suc n) i = marked_at x marks i ++ marked x marks n (i + 1)

-- no place is marked
pub record Unmarked (marks : List Bool) : Type 0 where
  pub none : (i : ℕ) → get_or marks i false ≡ false

-- the place of one more key is marked, if it has one
pub record MarksOne (x : PairIndex) (k : List ℕ) (before after : List Bool) : Type 0 where
  pub is : (i : ℕ) → i < x.n → get_or after i false ≡ same_bytes (key_in x i) k || get_or before i false

-- just the places of these keys are marked
pub record MarksAll (x : PairIndex) (keys : List (List ℕ)) (marks : List Bool) : Type 0 where
  pub is : (i : ℕ) → i < x.n → get_or marks i false ≡ is_among keys (key_in x i)
