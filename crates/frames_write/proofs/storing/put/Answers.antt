use Rattle.std.proofs.Common.{rules}
use Rattle.frames_write.proofs.Stores.{bytes_put}
use Rattle.frames_write.proofs.storing.put.Goals as goal

pub returns : goal.returns
returns c = search (bytes_put, rules)
