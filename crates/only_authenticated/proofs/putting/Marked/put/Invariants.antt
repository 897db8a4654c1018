use Rattle.only_authenticated.proofs.PutLaws.{Putting}
use Rattle.only_authenticated.proofs.putting.Marked.put.Given as goal

abbrev pub invariant-loop-i : goal.invariant-loop-i
invariant-loop-i l = Putting l.self.index l.self.marks.now l.initial.out l.out l.from l.i l.at
