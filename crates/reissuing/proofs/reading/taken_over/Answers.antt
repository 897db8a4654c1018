use Rattle.std.proofs.Common.{rules}
use Rattle.reissuing.proofs.Found.{context_few}
use Rattle.reissuing.proofs.reading.taken_over.Goals as goal

ruleset laws = (context_few, rules)

pub invariant_of-result : goal.invariant_of-result
invariant_of-result c = search laws
