use Rattle.std.proofs.Common.{rules}
use Rattle.wire.proofs.Exits.{exits}
use Rattle.wire.proofs.BufferLaws.{span_on, span_not}
use Rattle.wire.proofs.operations.read_entry.Goals as goal

ruleset laws = (exits, span_on, span_not, rules)

pub returns-in_err-new : goal.returns-in_err-new
returns-in_err-new c = search laws

pub returns : goal.returns
returns c = search laws
