use Rattle.std.proofs.Common.{rules}
use Rattle.only_authenticated.proofs.PutLaws.{pair_behind, pair_stored}
use Rattle.only_authenticated.proofs.putting.put_pair.Goals as goal

ruleset laws = (pair_behind, pair_stored, rules)

pub returns : goal.returns
returns c = search laws
