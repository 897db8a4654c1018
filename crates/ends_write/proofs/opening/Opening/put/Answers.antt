use Rattle.std.proofs.Common.{rules}
use Rattle.ends_write.proofs.Ends.{opening_first, opening_second}
use Rattle.ends_write.proofs.opening.Opening.put.Goals as goal

ruleset laws = (opening_first, opening_second, rules)

pub returns : goal.returns
returns c = search laws
