use Rattle.frames.proofs.Walk.{Walk}
use Rattle.frames.proofs.frames_at.Given as goal

abbrev pub invariant-loop-number : goal.invariant-loop-number
invariant-loop-number l = Walk l.frame l.buffer.bytes.now l.buffer.start l.number l.s
