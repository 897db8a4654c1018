use Rattle.std.proofs.Common.{rules}
use Rattle.reissuing.proofs.Stores.{body_put}
use Rattle.reissuing.proofs.Reissue.put_body.Goals as goal

ruleset laws = (body_put, rules)

pub returns : goal.returns
returns c = search laws
