use Rattle.std.proofs.Common.{rules}
use Rattle.wire.proofs.Exits.{exits}
use Rattle.checks.proofs.Writers.{size_fails, size_told}
use Rattle.body_write.proofs.Sizes.{size_small, size_long}
use Rattle.body_write.proofs.body.Body.len.Goals as goal

ruleset laws = (exits, size_fails, size_told, size_small, size_long, rules)

pub size-requires : goal.size-requires
size-requires c = search laws

pub returns : goal.returns
returns c = search laws
