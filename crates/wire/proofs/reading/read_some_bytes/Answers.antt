use Rattle.std.proofs.Common.{rules}
use Rattle.wire.proofs.Answers.{span_as}
use Rattle.wire.proofs.ReadLaws.{bytes_read_some}
use Rattle.wire.proofs.reading.read_some_bytes.Goals as goal

ruleset laws = (span_as, bytes_read_some, rules)

pub returns : goal.returns
returns c = search laws
