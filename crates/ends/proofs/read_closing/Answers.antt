use Rattle.std.proofs.Common.{rules}
use Rattle.ends.proofs.ClosingLaws.{closing_none, closing_v1, closing_v2}
use Rattle.ends.proofs.SharedLaws.{number_near}
use Rattle.ends.proofs.Tidy.{content_within}
use Rattle.wire.proofs.Exits.{exits}
use Rattle.wire.proofs.BufferLaws.{places}
use Rattle.ends.proofs.read_closing.Goals as goal

ruleset laws = (places, exits, closing_none, closing_v1, closing_v2, number_near, content_within, rules)

pub returns-in_err-content : goal.returns-in_err-content
returns-in_err-content c = search laws

pub at-requires : goal.at-requires
at-requires c = search laws

pub returns-then-version-eq1 : goal.returns-then-version-eq1
returns-then-version-eq1 c = search laws

pub at-requires-2 : goal.at-requires-2
at-requires-2 c = search laws

pub returns : goal.returns
returns c = search laws
