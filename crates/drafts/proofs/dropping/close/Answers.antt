use Rattle.std.proofs.Common.{rules}
use Rattle.drafts.proofs.TakenOut.{closed}
use Rattle.drafts.proofs.dropping.close.Goals as goal

ruleset laws = (closed, rules)

pub returns : goal.returns
returns c = search laws
