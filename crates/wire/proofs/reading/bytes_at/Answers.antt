use Rattle.std.proofs.Common.{rules}
use Rattle.wire.proofs.Answers.{not_span}
use Rattle.wire.proofs.ReadLaws.{bytes_there, bytes_no}
use Rattle.wire.proofs.reading.bytes_at.Goals as goal

ruleset laws = (not_span, bytes_there, bytes_no, rules)

pub returns-then-m-tail : goal.returns-then-m-tail
returns-then-m-tail c = search laws

pub returns : goal.returns
returns c = search laws
