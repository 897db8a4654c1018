-- The index of the keys of a table's first pairs. Assumes nothing.
use Rattle.std.specs.Prelude.{◌≡◌, Bool, true, false, not, List, [], ℕ, ◌+◌, ◌*◌, ◌/◌, ◌≤◌, length}
use Rattle.format.specs.Context.{seen}
use Rattle.format.specs.Checks.{first, each, pair_checks}
use Rattle.format.specs.Lent.{items, part_in, pair_in, pairs_in}
use Rattle.index.specs.Index.{Index}
use Rattle.checks.specs.Answers.{Checked, checked}
use Rattle.checks.specs.Each.{Each}
use Rattle.checks.specs.Table.{Within}
use Rattle.std.specs.Prelude.{Ok, Err}

-- the key of the pair with a number
unfoldable pub key_of : List ℕ → List ℕ → ℕ → List ℕ
key_of text table x = part_in text table (4 * x)

-- and it is there
pub record KeyThere (text table : List ℕ) (x : ℕ) : Type 0 where
  pub there : Within text table (4 * x)

-- the first n pairs have these numbers in the index
pub record Indexed (text table : List ℕ) (n : ℕ) (s : List ℕ) : Type 0 where
  pub index : Index (key_of text table) (KeyThere text table) (items (pair_in text table) 4 n 0) n s

abbrev pub IndexedWhere : Bool → List ℕ → List ℕ → ℕ → List ℕ → Type 0
IndexedWhere true text table n s = Indexed text table n s
IndexedWhere false text table n s = Unit {0}

-- r: whether the i-th pair has a key that no pair before it has; if so the index has it too
pub record New (text table : List ℕ) (i : ℕ) (s : List ℕ) (r : Bool) : Type 0 where
  pub is : r ≡ not (seen (part_in text table (4 * i)) (items (pair_in text table) 4 i 0))
  pub after : IndexedWhere r text table (i + 1) s

abbrev pub IndexedAfter : Checked → List ℕ → List ℕ → ℕ → List ℕ → Type 0
IndexedAfter (Ok u) text table n s = Indexed text table n s
IndexedAfter (Err r) text table n s = Unit {0}

-- what the checks of the i-th pair find; and where it passes the index has it
pub record PairChecked (text table : List ℕ) (i : ℕ) (s : List ℕ) (r : Checked) : Type 0 where
  pub is : r ≡ checked (first (pair_checks (items (pair_in text table) 4 i 0) (pair_in text table (4 * i))))
  pub after : IndexedAfter r text table (i + 1) s

-- the first i pairs pass, and the index has room for their keys and has them
pub record Reached (text table : List ℕ) (i : ℕ) (s : List ℕ) : Type 0 where
  pub checks : Each pair_checks (pair_in text table) 4 (length table / 4) i
  pub room : i ≤ length s
  pub index : Indexed text table i s

abbrev pub UpTo : List ℕ → List ℕ → ℕ → List ℕ → Checked → Type 0
UpTo text table i s (Ok u) = Reached text table i s
UpTo text table i s (Err r) = ◌≡◌ {A = Checked} (Err r) (checked (first (each pair_checks [] (pairs_in text table))))

-- r says that the first i pairs pass, or it is what the checks of all of them find
pub record CheckedUpTo (text table : List ℕ) (i : ℕ) (s : List ℕ) (r : Checked) : Type 0 where
  pub up_to : UpTo text table i s r
