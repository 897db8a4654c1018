-- The code's table of suites, and what looking a number up answers. Assumes nothing.
use Rattle.std.specs.Prelude.{ℕ, cond, eqb, Option, Some, None}
use Rattle.format.specs.Shared.{suite_version}
use Rattle.format.specs.Shared as format
use Rattle.suites.specs.declared.Suite.{Suite}

-- a row of the definition's table, as the code has it
abbrev pub row_of : format.SuiteRow → Suite
row_of r = record { number = r.number; version = r.version }

-- by the version of the suite; 0: it is not in the table
abbrev pub by_version : ℕ → ℕ → Option Suite
by_version number version = cond (eqb version 0) None (Some (record { number = number; version = version }))

abbrev pub suite_of : ℕ → Option Suite
suite_of number = by_version number (suite_version number)
