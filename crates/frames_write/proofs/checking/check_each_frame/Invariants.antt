use Rattle.format.specs.Lent.{here}
use Rattle.checks.specs.Each.{Each}
use Rattle.frames_write.specs.Table.{sealed_at}
use Rattle.frames_write.proofs.checking.check_each_frame.Given as goal

abbrev pub invariant-loop-i : goal.invariant-loop-i
invariant-loop-i l = Each (sealed_at l.table) here 6 l.i-end l.i
