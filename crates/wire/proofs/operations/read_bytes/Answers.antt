use Rattle.std.proofs.Common.{rules}
use Rattle.wire.proofs.Exits.{exits}
use Rattle.wire.proofs.BufferLaws.{bytes_on, bytes_not}
use Rattle.wire.proofs.operations.read_bytes.Goals as goal

ruleset laws = (exits, bytes_on, bytes_not, rules)

pub returns-in_err-b : goal.returns-in_err-b
returns-in_err-b c = search laws

pub returns : goal.returns
returns c = search laws
