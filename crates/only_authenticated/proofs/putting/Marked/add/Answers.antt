use Rattle.std.proofs.Common.{rules}
use Rattle.only_authenticated.proofs.TotalLaws.{add_none, add_some}
use Rattle.only_authenticated.proofs.putting.Marked.add.Goals as goal

ruleset laws = (add_none, add_some, rules)

pub returns-then-not-self-i : goal.returns-then-not-self-i
returns-then-not-self-i c = search laws

pub returns : goal.returns
returns c = search laws
