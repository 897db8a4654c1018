use Rattle.std.proofs.Common.{rules}
use Rattle.frames_write.proofs.Lengths.{product_fits, sum_fits, size_is}
use Rattle.frames_write.proofs.frames_size.Goals as goal

ruleset laws = (product_fits, sum_fits, size_is, rules)

pub returns : goal.returns
returns c = search laws
