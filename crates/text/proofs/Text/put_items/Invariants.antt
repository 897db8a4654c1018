use Rattle.text.proofs.Loops.{Lines}
use Rattle.text.proofs.Text.put_items.Given as goal

abbrev pub invariant-loop-i : goal.invariant-loop-i
invariant-loop-i l = Lines l.items l.word l.initial.self l.self l.i
