use Rattle.std.proofs.Common.{rules}
use Rattle.ends.proofs.LeadLaws.{v2_is}
use Rattle.wire.proofs.Exits.{exits}
use Rattle.wire.proofs.BufferLaws.{places}
use Rattle.ends.proofs.leading.read_lead_v2.Goals as goal

ruleset laws = (places, exits, v2_is, rules)

pub returns : goal.returns
returns c = search laws
