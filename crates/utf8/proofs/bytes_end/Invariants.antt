use Rattle.utf8.specs.Scan.{Passed}
use Rattle.utf8.proofs.bytes_end.Given as goal

abbrev pub invariant-loop-i : goal.invariant-loop-i
invariant-loop-i l = Passed l.m l.from l.i
