use Rattle.std.proofs.Common.{rules}
use Rattle.only_authenticated.proofs.MarkLaws.{mark_absent, mark_found}
use Rattle.only_authenticated.proofs.marking.mark.Goals as goal

ruleset laws = (mark_absent, mark_found, rules)

pub returns : goal.returns
returns c = search laws

pub returns-in_default : goal.returns-in_default
returns-in_default c = search laws
