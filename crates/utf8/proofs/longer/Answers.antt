use Rattle.std.proofs.Common.{rules}
use Rattle.utf8.proofs.Utf8Laws.{longer_short, longer_first, longer_not, longer_all}
use Rattle.utf8.proofs.longer.Goals as goal

ruleset laws = (longer_short, longer_first, longer_not, longer_all, rules)

pub returns-then-m-i : goal.returns-then-m-i
returns-then-m-i c = search laws

pub returns-then-all_tails : goal.returns-then-all_tails
returns-then-all_tails c = search laws

pub returns : goal.returns
returns c = search laws
