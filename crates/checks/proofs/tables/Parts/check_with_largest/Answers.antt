use Rattle.std.proofs.Common.{rules}
use Rattle.checks.proofs.SeenLaws.{reached_some, reached_copied, up_to_all}
use Rattle.checks.proofs.tables.Parts.check_with_largest.Goals as goal

ruleset laws = (reached_some, reached_copied, up_to_all, rules)

pub returns : goal.returns
returns c = search laws
