use Rattle.std.proofs.Common.{rules}
use Rattle.body_write.proofs.BodyStores.{sections_ready, body_stored}
use Rattle.body_write.proofs.body.Body.put.Goals as goal

ruleset laws = (sections_ready, body_stored, rules)

pub returns : goal.returns
returns c = search laws
