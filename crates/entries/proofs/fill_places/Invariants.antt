use Rattle.entries.proofs.Tables.{Filled}
use Rattle.entries.proofs.fill_places.Given as goal

abbrev pub invariant-loop-i : goal.invariant-loop-i
invariant-loop-i l = Filled l.m l.initial.table l.table l.first l.count l.i l.at
