use Rattle.std.proofs.Common.{rules}
use Rattle.wire.proofs.Exits.{exits}
use Rattle.wire.proofs.BufferLaws.{read_on, read_not}
use Rattle.wire.proofs.operations.read_uint.Goals as goal

ruleset laws = (exits, read_on, read_not, rules)

pub returns-in_err-new : goal.returns-in_err-new
returns-in_err-new g c = search laws

pub returns : goal.returns
returns g c = search laws
