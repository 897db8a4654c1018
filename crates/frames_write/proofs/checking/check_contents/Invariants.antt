use Rattle.frames_write.proofs.Contents.{Contents}
use Rattle.frames_write.proofs.checking.check_contents.Given as goal

abbrev pub invariant-loop-i : goal.invariant-loop-i
invariant-loop-i l = Contents l.frame l.table l.i
