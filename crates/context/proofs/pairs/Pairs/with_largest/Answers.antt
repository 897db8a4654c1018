use Rattle.std.proofs.Common.{rules}
use Rattle.context.proofs.PairLaws.{reached_some, reached_copied, up_to_all}
use Rattle.context.proofs.pairs.Pairs.with_largest.Goals as goal

ruleset laws = (reached_some, reached_copied, up_to_all, rules)

pub up_to-requires : goal.up_to-requires
up_to-requires c = search laws

pub returns : goal.returns
returns c = search laws
