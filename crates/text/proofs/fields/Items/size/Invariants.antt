use Rattle.text.proofs.Sizes.{Counted}
use Rattle.text.proofs.fields.Items.size.Given as goal

abbrev pub invariant-loop-i : goal.invariant-loop-i
invariant-loop-i l = Counted l.self l.word l.total l.i
