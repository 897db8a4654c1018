-- A lent table in its numbers, which is how the code tests and measures it: the parts' lengths are there before their bytes are
-- looked at. Assumes nothing.
use Rattle.std.specs.Prelude.{◌≡◌, Bool, true, List, [], ◌∷◌, ◌++◌, ℕ, ◌+◌, ◌/◌, ◌%◌, ◌≤◌, leb, length, get_or}
use Rattle.format.specs.Serialize.{every, sum}
use Rattle.format.specs.Checks.{Check, check}
use Rattle.format.specs.Lent.{places, in_text, table_checks}

-- the part at a place is not above 65,535 bytes
unfoldable pub short : List ℕ → ℕ → Bool
short table at = leb (get_or table (at + 1) 0) 65535

-- 26, and 27 as the numbers have it
unfoldable pub numbers_checks : ℕ → List ℕ → List ℕ → List Check
numbers_checks k text table =
    table_checks k text table ++ (check 27 (leb (length table / k) 65535) ∷ check 27 (every (short table) (places table)) ∷ [])

-- how many bytes the entry of the part at a place takes, and the entries of all parts
unfoldable pub entry_size : List ℕ → ℕ → ℕ
entry_size table at = 2 + get_or table (at + 1) 0

abbrev pub entries_size : List ℕ → ℕ
entries_size table = sum (entry_size table) (places table)

-- a part is there: its two numbers, and its bytes
pub record Within (text table : List ℕ) (at : ℕ) : Type 0 where
  pub numbers : at + 2 ≤ length table
  pub bytes : get_or table at 0 + get_or table (at + 1) 0 ≤ length text

-- a table of items of k numbers that 26 and 27 do not refuse
pub record Passed (k : ℕ) (text table : List ℕ) : Type 0 where
  pub whole : length table % k ≡ 0
  pub inside : every (in_text text table) (places table) ≡ true
  pub count : length table / k ≤ 65535
  pub shorts : every (short table) (places table) ≡ true
