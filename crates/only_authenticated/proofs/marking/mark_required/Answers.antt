use Rattle.std.proofs.Common.{rules}
use Rattle.only_authenticated.proofs.MarkLaws.{marking_more, marking_end}
use Rattle.checks.proofs.Parts.{part_here}
use Rattle.only_authenticated.proofs.marking.mark_required.Goals as goal

ruleset laws = (marking_more, marking_end, part_here, rules)

pub part-requires : goal.part-requires
part-requires c = search laws

pub loop-i-preserved : goal.loop-i-preserved
loop-i-preserved c = search laws

pub returns : goal.returns
returns c = search laws
