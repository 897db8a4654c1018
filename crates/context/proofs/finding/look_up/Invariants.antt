use Rattle.context.proofs.FindLaws.{Looked}
use Rattle.context.proofs.finding.look_up.Given as goal

abbrev pub invariant-loop : goal.invariant-loop
invariant-loop l = Looked l.key l.m l.first l.count l.counter l.s
