use Rattle.wire.proofs.BufferLaws.{bytes_within}
use Rattle.wire.proofs.buffer.ReadableBuffer.read_some_bytes.Goals as goal

pub returns-clause-within : goal.returns-clause-within
returns-clause-within c = bytes_within c.args.self.bytes.now c.args.self.start c.read_some_bytes.result c.args.n c.requires.some c.read_some_bytes.ensures
