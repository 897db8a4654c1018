use Rattle.drafts.proofs.Closing.{Closing}
use Rattle.drafts.proofs.dropping.close_up.Given as goal

abbrev pub invariant-loop : goal.invariant-loop
invariant-loop l = Closing l.id l.initial.m l.first l.count l.counter l.s l.kept l.m
