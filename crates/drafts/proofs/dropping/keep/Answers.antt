use Rattle.std.proofs.Common.{rules}
use Rattle.drafts.proofs.TakenOut.{stay_put}
use Rattle.drafts.proofs.dropping.keep.Goals.{then-to-from, else-to-from}
use Rattle.drafts.proofs.dropping.keep.Goals as goal

ruleset laws = (stay_put, rules)

pub returns : goal.returns
returns c = elim c.if-to-from.branch [ then-to-from w ↦ search laws | else-to-from w ↦ search laws ]
