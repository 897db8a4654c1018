use Rattle.std.proofs.Common.{rules}
use Rattle.wire.proofs.Exits.{exits}
use Rattle.checks.proofs.Writers.{size_fails, size_told}
use Rattle.frames_write.proofs.Lengths.{size_some, size_few, size_long}
use Rattle.frames_write.proofs.frames_len.Goals as goal

ruleset laws = (exits, size_fails, size_told, size_some, size_few, size_long, rules)

pub frames_size-requires : goal.frames_size-requires
frames_size-requires c = search laws

pub returns : goal.returns
returns c = search laws
