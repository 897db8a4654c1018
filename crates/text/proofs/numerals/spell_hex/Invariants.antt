use Rattle.text.proofs.Hex.{Spelled}
use Rattle.text.proofs.numerals.spell_hex.Given as goal

abbrev pub invariant-loop-i : goal.invariant-loop-i
invariant-loop-i l = Spelled l.bytes l.initial.out l.at l.out l.i
