use Rattle.std.proofs.Common.{◌-◌, length}
use Rattle.context.proofs.pairs.Pairs.+onward.Given as goal

abbrev pub decreases-onward : goal.decreases-onward
decreases-onward l = 512 - length l.keys.now
