use Rattle.std.proofs.Common.{rules}
use Rattle.ends_write.proofs.Ends.{closing_two}
use Rattle.ends_write.proofs.closing.Closing.put_v2.Goals as goal

ruleset laws = (closing_two, rules)

pub returns : goal.returns
returns c = search laws
