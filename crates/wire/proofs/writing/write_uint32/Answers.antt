use Rattle.std.proofs.Common.{rules}
use Rattle.wire.proofs.StoreLaws.{stored_uint32}
use Rattle.wire.proofs.writing.write_uint32.Goals as goal

ruleset laws = (stored_uint32, rules)

pub returns : goal.returns
returns c = search laws
