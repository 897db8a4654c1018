use Rattle.std.proofs.Common.{rules}
use Rattle.ends_write.proofs.Ends.{opening_two}
use Rattle.ends_write.proofs.opening.Opening.put_v2.Goals as goal

ruleset laws = (opening_two, rules)

pub returns : goal.returns
returns c = search laws
