use Rattle.std.proofs.Common.{rules}
use Rattle.reissuing.proofs.Found.{none_kept}
use Rattle.reissuing.proofs.reading.context_of.Goals as goal

ruleset laws = (none_kept, rules)

pub returns-then-body-eq0 : goal.returns-then-body-eq0
returns-then-body-eq0 c = search laws
