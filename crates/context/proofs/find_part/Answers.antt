use Rattle.std.proofs.Common.{rules}
use Rattle.context.proofs.FindLaws.{part_none, part_in, part_is}
use Rattle.context.proofs.find_part.Goals as goal

ruleset laws = (part_none, part_in, part_is, rules)

pub part-requires-2 : goal.part-requires-2
part-requires-2 c = search laws

pub returns : goal.returns
returns c = search laws
