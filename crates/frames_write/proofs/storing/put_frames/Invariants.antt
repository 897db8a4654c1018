use Rattle.frames_write.proofs.Putting.{Putting}
use Rattle.frames_write.proofs.storing.put_frames.Given as goal

abbrev pub invariant-loop-i : goal.invariant-loop-i
invariant-loop-i l = Putting l.text l.table l.initial.out l.out l.i l.at
