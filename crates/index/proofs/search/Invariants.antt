use Prim.Native.Nat.{◌-◌}
use Rattle.index.proofs.Halving.{Halved}
use Rattle.index.proofs.search.Given as goal

abbrev pub invariant-loop-lo : goal.invariant-loop-lo
invariant-loop-lo g l = Halved (goal.F-post g l.order) l.index l.lo l.hi l.mid

abbrev pub decreases-loop-lo : goal.decreases-loop-lo
decreases-loop-lo g l = l.hi - l.lo
