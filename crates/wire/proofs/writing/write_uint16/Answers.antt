use Rattle.std.proofs.Common.{rules}
use Rattle.wire.proofs.StoreLaws.{stored_uint16}
use Rattle.wire.proofs.writing.write_uint16.Goals as goal

ruleset laws = (stored_uint16, rules)

pub returns : goal.returns
returns c = search laws
