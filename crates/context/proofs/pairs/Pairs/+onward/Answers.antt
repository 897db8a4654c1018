use Rattle.std.proofs.Common.{rules}
use Rattle.wire.proofs.Exits.{exits}
use Rattle.context.proofs.PairLaws.{reached_some, reached_room, up_to_grown, up_to_stop, up_to_reached, up_to_end}
use Rattle.context.proofs.pairs.Pairs.+onward.Goals as goal

ruleset laws = (exits, reached_some, reached_room, up_to_grown, up_to_stop, up_to_reached, up_to_end, rules)

pub returns-then-to-self : goal.returns-then-to-self
returns-then-to-self t c = search laws

pub onward-requires : goal.onward-requires
onward-requires t c = search laws
