use Rattle.std.proofs.Common.{rules}
use Rattle.ends_write.proofs.Ends.{opening_one}
use Rattle.ends_write.proofs.opening.Opening.put_v1.Goals as goal

ruleset laws = (opening_one, rules)

pub returns : goal.returns
returns c = search laws
