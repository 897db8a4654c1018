use Rattle.std.proofs.Common.{rules}
use Rattle.utf8.proofs.Utf8Laws.{two_not, two_is}
use Rattle.utf8.proofs.is_two.Goals as goal

ruleset laws = (two_not, two_is, rules)

pub returns-then-matches : goal.returns-then-matches
returns-then-matches c = search laws

pub returns-else-matches : goal.returns-else-matches
returns-else-matches c = search laws
