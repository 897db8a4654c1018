use Rattle.std.proofs.Common.{rules}
use Rattle.ends.proofs.LeadLaws.{v1_no_type, v1_5, v1_then}
use Rattle.wire.proofs.Stood.{uint8_near}
use Rattle.wire.proofs.Exits.{exits}
use Rattle.wire.proofs.BufferLaws.{places}
use Rattle.ends.proofs.leading.read_lead_v1.Goals as goal

ruleset laws = (places, exits, v1_no_type, v1_5, v1_then, uint8_near, rules)

pub returns-in_err-messageType : goal.returns-in_err-messageType
returns-in_err-messageType c = search laws

pub returns-then-messageType-ne128 : goal.returns-then-messageType-ne128
returns-then-messageType-ne128 c = search laws

pub returns : goal.returns
returns c = search laws
