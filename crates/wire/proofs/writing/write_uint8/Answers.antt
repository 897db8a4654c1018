use Rattle.std.proofs.Common.{rules}
use Rattle.wire.proofs.StoreLaws.{stored_one}
use Rattle.wire.proofs.writing.write_uint8.Goals as goal

ruleset laws = (stored_one, rules)

pub returns : goal.returns
returns c = search laws
