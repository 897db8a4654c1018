-- An ordered index of the keys of the pairs so far. Assumes nothing.
use Rattle.std.specs.Prelude.{ℕ, zero, suc, ◌-◌, ◌≤◌, ◌<◌, ◌≡◌, true, false, List, [], ◌∷◌, Result, Ok, Err, length, get_or}
use Rattle.std.specs.declared.cmp.Ordering.{Ordering}
use Rattle.std.specs.declared.cmp.Ordering.TheVariants.{Less, Equal, Greater}
use Rattle.format.specs.Serialize.{same_bytes}
use Rattle.format.specs.Fields.{Pair}
use Rattle.format.specs.Context.{seen}
use Rattle.format.specs.Sorted.{sort_pairs}
use Rattle.comparing.specs.Order.{compare_bytes}

-- n numbers stand in s. The key of a number is `key`; `Good` is what the user knows of each number.
pub record Index (key : ℕ → List ℕ) (Good : ℕ → Type 0) (done : List Pair) (n : ℕ) (s : List ℕ) : Type 0 where
  -- the keys ascend, so that none stands twice
  pub ascends : (r q : ℕ) → r < q → q < n → compare_bytes (key (get_or s r 0)) (key (get_or s q 0)) ≡ Less
  pub good : (r : ℕ) → r < n → Good (get_or s r 0)
  -- they are the keys of the pairs
  pub only : (r : ℕ) → r < n → seen (key (get_or s r 0)) done ≡ true
  pub all : (k : List ℕ) → ((r : ℕ) → r < n → same_bytes k (key (get_or s r 0)) ≡ false) → seen k done ≡ false

-- what n numbers of s stand for, from place i on
unfoldable pub numbered : (ℕ → Pair) → List ℕ → ℕ → ℕ → List Pair
numbered pair s zero i = []
numbered pair s (suc n) i = pair (get_or s i 0) ∷ numbered pair s n (suc i)

-- the n numbers stand for the pairs in the order of their keys
pub record Sorts (pair : ℕ → Pair) (done : List Pair) (n : ℕ) (s : List ℕ) : Type 0 where
  pub is : numbered pair s n 0 ≡ sort_pairs done

-- a key stands at a place of an index
pub record Stands (key : ℕ → List ℕ) (n : ℕ) (s k : List ℕ) (p : ℕ) : Type 0 where
  pub within : p < n
  pub is : key (get_or s p 0) ≡ k

-- where a key stands between those of an index: the first p are less, the others greater
pub record Between (key : ℕ → List ℕ) (n : ℕ) (s k : List ℕ) (p : ℕ) : Type 0 where
  pub within : p ≤ n
  pub below : (r : ℕ) → r < p → compare_bytes (key (get_or s r 0)) k ≡ Less
  pub above : (r : ℕ) → p ≤ r → r < n → compare_bytes (key (get_or s r 0)) k ≡ Greater

-- what a search for a key finds
abbrev pub Finds : (ℕ → List ℕ) → ℕ → List ℕ → List ℕ → Result ℕ ℕ → Type 0
Finds key n s k (Ok p) = Stands key n s k p
Finds key n s k (Err p) = Between key n s k p

pub record Sought (key : ℕ → List ℕ) (n : ℕ) (s k : List ℕ) (r : Result ℕ ℕ) : Type 0 where
  pub finds : Finds key n s k r

-- the comparison may give `Equal` at a place of s
pub record Hit (is : ℕ → Ordering → Type 0) (s : List ℕ) (p : ℕ) : Type 0 where
  pub within : p < length s
  pub here : is (get_or s p 0) Equal

-- it may give `Less` in front of a place and `Greater` behind it
pub record Gap (is : ℕ → Ordering → Type 0) (s : List ℕ) (lo hi : ℕ) : Type 0 where
  pub meet : lo ≤ hi
  pub within : hi ≤ length s
  pub before : 0 < lo → is (get_or s (lo - 1) 0) Less
  pub behind : hi < length s → is (get_or s hi 0) Greater

-- where a search by comparison ends
abbrev pub Placed : (ℕ → Ordering → Type 0) → List ℕ → Result ℕ ℕ → Type 0
Placed is s (Ok p) = Hit is s p
Placed is s (Err p) = Gap is s p p

-- t is s with x put in at p, below n
pub record Shifted (s t : List ℕ) (p n x : ℕ) : Type 0 where
  pub below : (r : ℕ) → r < p → get_or t r 0 ≡ get_or s r 0
  pub here : get_or t p 0 ≡ x
  pub above : (r : ℕ) → p ≤ r → r < n → get_or t (suc r) 0 ≡ get_or s r 0

-- t begins with the numbers of s
pub record Copied (s t : List ℕ) : Type 0 where
  pub longer : length s ≤ length t
  pub same : (r : ℕ) → r < length s → get_or t r 0 ≡ get_or s r 0
