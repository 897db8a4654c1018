use Rattle.std.proofs.Common.{rules}
use Rattle.context.proofs.PairLaws.{reached_start, all_indexed, all_grown, room_enough, room_small, room_less, lent_grows}
use Rattle.context.proofs.pairs.Pairs.read.Goals as goal

ruleset laws = (reached_start, all_indexed, all_grown, room_enough, room_small, room_less, lent_grows, rules)

pub up_to-requires : goal.up_to-requires
up_to-requires c = search laws

pub returns-then-has_room : goal.returns-then-has_room
returns-then-has_room c = search laws

pub onward-requires : goal.onward-requires
onward-requires c = search laws
