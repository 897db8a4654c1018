use Rattle.std.proofs.Common.{rules}
use Rattle.ends_write.proofs.Ends.{closing_one}
use Rattle.ends_write.proofs.closing.Closing.put_v1.Goals as goal

ruleset laws = (closing_one, rules)

pub returns : goal.returns
returns c = search laws
