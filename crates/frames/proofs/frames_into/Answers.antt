use Rattle.std.proofs.Common.{rules}
use Rattle.frames.proofs.Whole.{length_0, length_some}
use Rattle.frames.proofs.frames_into.Goals as goal

ruleset laws = (length_0, length_some, rules)

pub returns-then-frame-eq0 : goal.returns-then-frame-eq0
returns-then-frame-eq0 c = search laws

pub returns : goal.returns
returns c = search laws
