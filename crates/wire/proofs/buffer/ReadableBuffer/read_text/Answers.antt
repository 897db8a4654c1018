use Rattle.std.proofs.Common.{rules}
use Rattle.wire.proofs.BufferLaws.{text_within}
use Rattle.wire.proofs.buffer.ReadableBuffer.read_text.Goals as goal

pub returns-clause-within : goal.returns-clause-within
returns-clause-within c = search (text_within, rules)
