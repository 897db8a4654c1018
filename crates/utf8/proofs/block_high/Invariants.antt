use Rattle.utf8.specs.Scan.{Low}
use Rattle.utf8.proofs.block_high.Given as goal

abbrev pub invariant-loop-k : goal.invariant-loop-k
invariant-loop-k l = Low l.m l.at l.k l.high
