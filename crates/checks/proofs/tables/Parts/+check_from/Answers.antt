use Rattle.std.proofs.Common.{rules}
use Rattle.checks.proofs.SeenLaws.{reached_some, reached_room, up_to_grown, up_to_fails, up_to_reached, up_to_end}
use Rattle.checks.proofs.tables.Parts.+check_from.Goals as goal

ruleset laws = (reached_some, reached_room, up_to_grown, up_to_fails, up_to_reached, up_to_end, rules)

pub returns-then-to-n : goal.returns-then-to-n
returns-then-to-n t c = search laws
