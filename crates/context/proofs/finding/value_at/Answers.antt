use Rattle.std.proofs.Common.{rules}
use Rattle.wire.proofs.Exits.{exits}
use Rattle.context.proofs.Whole.{section_inside}
use Rattle.context.proofs.FindLaws.{value_not, value_up}
use Rattle.context.proofs.finding.value_at.Goals as goal

ruleset laws = (exits, section_inside, value_not, value_up, rules)

pub returns-in_err-pairs : goal.returns-in_err-pairs
returns-in_err-pairs c = search laws

pub look_up-requires : goal.look_up-requires
look_up-requires c = search laws

pub returns : goal.returns
returns c = search laws
