use Rattle.std.proofs.Common.{rules}
use Rattle.ends.proofs.LeadLaws.{lead_none, lead_4, lead_v1, lead_v2}
use Rattle.ends.proofs.SharedLaws.{number_near}
use Rattle.ends.proofs.Tidy.{version_within}
use borrow.Author.Tests.{not-true, not-false}
use Rattle.wire.proofs.Exits.{exits}
use Rattle.wire.proofs.BufferLaws.{places}
use Rattle.ends.proofs.leading.read_lead.Goals as goal

ruleset laws = (places, exits, lead_none, lead_4, lead_v1, lead_v2, number_near, version_within, not-true, not-false, rules)

pub returns-in_err-version : goal.returns-in_err-version
returns-in_err-version c = search laws

pub returns-then-not-is_asked : goal.returns-then-not-is_asked
returns-then-not-is_asked c = search laws

pub at-requires : goal.at-requires
at-requires c = search laws

pub returns-then-version-eq1 : goal.returns-then-version-eq1
returns-then-version-eq1 c = search laws

pub at-requires-2 : goal.at-requires-2
at-requires-2 c = search laws

pub returns : goal.returns
returns c = search laws
