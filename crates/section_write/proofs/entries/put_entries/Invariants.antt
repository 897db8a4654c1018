use Rattle.section_write.proofs.Putting.{Putting}
use Rattle.section_write.proofs.entries.put_entries.Given as goal

abbrev pub invariant-loop-i : goal.invariant-loop-i
invariant-loop-i l = Putting l.text l.table l.initial.out l.out l.from l.i-end l.i l.at
