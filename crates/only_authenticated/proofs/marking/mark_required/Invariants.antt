use Prim.Native.Nat.{◌/◌}
use lib.ListN.{length}
use Rattle.only_authenticated.proofs.MarkLaws.{Marking}
use Rattle.only_authenticated.proofs.marking.mark_required.Given as goal

abbrev pub invariant-loop-i : goal.invariant-loop-i
invariant-loop-i l = Marking l.index l.required.text.now l.required.table.now l.initial.marks l.marks (length l.required.table.now / 2) l.i
