use Rattle.index.proofs.Copying.{Copying}
use Rattle.index.proofs.copy.Given as goal

abbrev pub invariant-loop-i : goal.invariant-loop-i
invariant-loop-i l = Copying l.index l.initial.larger l.larger l.i
