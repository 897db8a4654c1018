-- An index of the keys of the first pairs of a section: how far behind the first pair each stands, in the order of the keys.
-- Assumes nothing.
use Rattle.std.specs.Prelude.{◌≡◌, Bool, false, List, map, ℕ, suc, ◌+◌, ◌≤◌, ◌<◌, length}
use Rattle.format.specs.Fields.{Pair, pair_of}
use Rattle.format.specs.Context.{seen}
use Rattle.format.specs.Lent.{bytes_at}
use Rattle.format.specs.Places.{number16, pair_here, pair_end, pairs_here, pairs_end}
use Rattle.index.specs.Index as ordered

-- the key of the pair at a place
abbrev pub key_at : List ℕ → ℕ → List ℕ
key_at m s = bytes_at m (s + 2) (number16 m s)

-- the key of the pair that stands so far behind the first
unfoldable pub key_of : List ℕ → ℕ → ℕ → List ℕ
key_of m first x = key_at m (first + x)

-- that pair, and it lies in the message
abbrev pub pair_from : List ℕ → ℕ → ℕ → Pair
pair_from m first x = pair_of (pair_here m (first + x))

pub record PairInside (m : List ℕ) (first x : ℕ) : Type 0 where
  pub inside : pair_end m (first + x) ≤ length m

abbrev pub first_pairs : List ℕ → ℕ → ℕ → List Pair
first_pairs m first n = map pair_of (pairs_here m n first)

abbrev pub Index : List ℕ → ℕ → ℕ → List ℕ → Type 0
Index m first n s = ordered.Index (key_of m first) (PairInside m first) (first_pairs m first n) n s

-- and it has the pairs in the order of their keys
pub record Indexed (m : List ℕ) (first n : ℕ) (s : List ℕ) : Type 0 where
  pub index : Index m first n s
  pub sorts : ordered.Sorts (pair_from m first) (first_pairs m first n) n s

-- a place is behind the n pairs of the index and within 65,536 bytes of the first, a pair stands there, and the index has room
pub record Ready (m : List ℕ) (first n at : ℕ) (s : List ℕ) : Type 0 where
  pub near : at < first + 65536
  pub behind : first ≤ at
  pub here : at ≡ pairs_end m n first
  pub inside : pair_end m at ≤ length m
  pub room : n < length s
  pub indexed : Indexed m first n s

-- r: whether the key was seen before; if not, the index has it now
pub record Added (m : List ℕ) (first n at : ℕ) (s : List ℕ) (r : Bool) : Type 0 where
  pub answer : r ≡ seen (key_at m at) (first_pairs m first n)
  pub after : r ≡ false → Indexed m first (suc n) s
