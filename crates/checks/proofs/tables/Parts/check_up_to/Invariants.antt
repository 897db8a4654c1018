use Rattle.checks.proofs.SeenLaws.{Pass}
use Rattle.checks.proofs.tables.Parts.check_up_to.Given as goal

abbrev pub invariant-loop-i : goal.invariant-loop-i
invariant-loop-i l = Pass l.self.text.now l.self.table.now l.to l.initial.keys l.keys l.i
