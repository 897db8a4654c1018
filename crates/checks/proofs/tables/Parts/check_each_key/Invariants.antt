use Rattle.format.specs.Lent.{key_in}
use Rattle.format.specs.Checks.{key_checks}
use Rattle.checks.specs.Each.{Each}
use Rattle.checks.proofs.tables.Parts.check_each_key.Given as goal

abbrev pub invariant-loop-i : goal.invariant-loop-i
invariant-loop-i l = Each key_checks (key_in l.self.text.now l.self.table.now) 6 l.i-end l.i
