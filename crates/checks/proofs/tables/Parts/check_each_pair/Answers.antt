use Rattle.std.proofs.Common.{rules}
use Rattle.checks.proofs.SeenLaws.{reached_start, up_to_all}
use Rattle.checks.proofs.tables.Parts.check_each_pair.Goals as goal

ruleset laws = (reached_start, up_to_all, rules)

pub check_up_to-requires : goal.check_up_to-requires
check_up_to-requires c = search laws

pub returns-then-n-le32 : goal.returns-then-n-le32
returns-then-n-le32 c = search laws

pub check_from-requires : goal.check_from-requires
check_from-requires c = search laws
