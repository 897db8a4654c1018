use Rattle.std.proofs.Common.{rules}
use Rattle.only_authenticated.proofs.PutLaws.{puts_none, puts_28, puts_whole}
use Rattle.only_authenticated.proofs.putting.Marked.write.Goals as goal

ruleset laws = (puts_none, puts_28, puts_whole, rules)

pub returns-then-t-eq0 : goal.returns-then-t-eq0
returns-then-t-eq0 c = search laws

pub returns-then-out-size : goal.returns-then-out-size
returns-then-out-size c = search laws

pub returns : goal.returns
returns c = search laws
