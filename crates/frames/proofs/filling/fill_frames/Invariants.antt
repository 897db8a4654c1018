use Rattle.frames.proofs.Places.{Stores}
use Rattle.frames.proofs.filling.fill_frames.Given as goal

abbrev pub invariant-loop-i : goal.invariant-loop-i
invariant-loop-i l = Stores l.frame l.m l.initial.table l.table l.first l.count l.i l.at
