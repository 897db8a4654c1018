use Rattle.std.proofs.Common.{rules}
use Rattle.wire.proofs.BufferLaws.{entry_within}
use Rattle.wire.proofs.buffer.ReadableBuffer.read_entry.Goals as goal

pub returns-clause-within : goal.returns-clause-within
returns-clause-within c = search (entry_within, rules)
