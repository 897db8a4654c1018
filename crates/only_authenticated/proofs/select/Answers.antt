use Rattle.std.proofs.Common.{rules}
use Rattle.only_authenticated.proofs.Whole.{selected}
use Rattle.only_authenticated.proofs.select.Goals as goal

ruleset laws = (selected, rules)

pub returns : goal.returns
returns c = search laws
