use Rattle.std.proofs.Common.{rules}
use Rattle.ends.proofs.SharedLaws.{version_is}
use Rattle.wire.proofs.Exits.{exits}
use Rattle.wire.proofs.BufferLaws.{places}
use Rattle.ends.proofs.shared.read_message_format_version.Goals as goal

ruleset laws = (places, exits, version_is, rules)

pub returns : goal.returns
returns c = search laws
