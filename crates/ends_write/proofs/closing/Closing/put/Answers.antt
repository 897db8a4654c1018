use Rattle.std.proofs.Common.{rules}
use Rattle.ends_write.proofs.Ends.{closing_first, closing_second}
use Rattle.ends_write.proofs.closing.Closing.put.Goals as goal

ruleset laws = (closing_first, closing_second, rules)

pub returns-then-self-eq1 : goal.returns-then-self-eq1
returns-then-self-eq1 c = search laws

pub returns : goal.returns
returns c = search laws
