-- How many bytes the sections take, in the numbers of their tables; and what their stores ask. Assumes nothing.
use Rattle.std.specs.Prelude.{Bool, false, cond, List, ℕ, ◌+◌, ◌/◌, ◌≤◌, ◌<◌, eqb, length}
use Rattle.format.specs.Fields.{Form, today, old}
use Rattle.checks.specs.Table.{Passed, entries_size}

-- a context section that is its length 0 alone
abbrev pub length_alone : Form → List ℕ → Bool
length_alone today pairs = eqb (length pairs / 4) 0
length_alone old pairs = false

unfoldable pub aad_section_size : Form → List ℕ → ℕ
aad_section_size form pairs = cond (length_alone form pairs) 2 (4 + entries_size pairs)

abbrev pub keys_section_size : List ℕ → ℕ
keys_section_size keys = 2 + entries_size keys

-- all that is tested of the pairs' places and lengths, and room
pub record PairsReady (form : Form) (text table : List ℕ) (room : ℕ) : Type 0 where
  pub table_passed : Passed 4 text table
  pub few : entries_size table < 65534
  pub fits : aad_section_size form table ≤ room

-- and of the keys'
pub record KeysReady (text table : List ℕ) (room : ℕ) : Type 0 where
  pub table_passed : Passed 6 text table
  pub fits : keys_section_size table ≤ room
