use Rattle.std.proofs.Common.{rules}
use Rattle.reissuing.proofs.Stores.{sections_put}
use Rattle.reissuing.proofs.storing.Draft.put_sections.Goals as goal

ruleset laws = (sections_put, rules)

pub returns : goal.returns
returns c = search laws
