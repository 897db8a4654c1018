use Rattle.std.proofs.Common.{rules}
use Rattle.wire.proofs.StoreLaws.{stored_middle}
use Rattle.wire.proofs.writing.write.Goals as goal

ruleset laws = (stored_middle, rules)

pub returns : goal.returns
returns c = search laws
