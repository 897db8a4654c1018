use Rattle.context.proofs.PairLaws.{Pass}
use Rattle.context.proofs.pairs.Pairs.up_to.Given as goal

abbrev pub invariant-loop-i : goal.invariant-loop-i
invariant-loop-i l = Pass l.self.buffer.bytes.now l.self.buffer.start l.self.end l.self.count l.to l.initial.keys l.keys l.i l.s
