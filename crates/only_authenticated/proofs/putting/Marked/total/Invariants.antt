use Rattle.only_authenticated.proofs.TotalLaws.{Totals}
use Rattle.only_authenticated.proofs.putting.Marked.total.Given as goal

abbrev pub invariant-loop-i : goal.invariant-loop-i
invariant-loop-i l = Totals l.self.index l.self.marks.now l.i l.t
