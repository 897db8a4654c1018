use Rattle.std.proofs.Common.{rules}
use Rattle.ends.proofs.SharedLaws.{content_is}
use Rattle.wire.proofs.Exits.{exits}
use Rattle.wire.proofs.BufferLaws.{places}
use Rattle.ends.proofs.shared.read_content_type.Goals as goal

ruleset laws = (places, exits, content_is, rules)

pub returns : goal.returns
returns c = search laws
