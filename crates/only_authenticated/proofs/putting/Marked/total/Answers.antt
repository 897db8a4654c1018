use Rattle.std.proofs.Common.{rules}
use Rattle.only_authenticated.proofs.TotalLaws.{totals_more, totals_end}
use Rattle.only_authenticated.proofs.putting.Marked.total.Goals as goal

ruleset laws = (totals_more, totals_end, rules)

pub loop-i-preserved : goal.loop-i-preserved
loop-i-preserved c = search laws

pub returns : goal.returns
returns c = search laws
