use Rattle.std.proofs.Common.{rules}
use Rattle.ends.proofs.LeadLaws.{lead_near}
use Rattle.ends.proofs.OpeningLaws.{no_lead, opening_39, no_id, whole}
use borrow.Author.Tests.{not-true, not-false}
use Rattle.wire.proofs.Exits.{exits}
use Rattle.wire.proofs.BufferLaws.{places}
use Rattle.ends.proofs.read_opening.Goals as goal

ruleset laws = (places, exits, lead_near, no_lead, opening_39, no_id, whole, not-true, not-false, rules)

pub returns-in_err-lead : goal.returns-in_err-lead
returns-in_err-lead c = search laws

pub returns-then-not-lets_read : goal.returns-then-not-lets_read
returns-then-not-lets_read c = search laws

pub at-requires : goal.at-requires
at-requires c = search laws

pub returns-in_err-id : goal.returns-in_err-id
returns-in_err-id c = search laws

pub returns : goal.returns
returns c = search laws
