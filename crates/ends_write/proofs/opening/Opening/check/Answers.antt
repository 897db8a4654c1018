use Rattle.std.proofs.Common.{rules}
use Rattle.wire.proofs.Exits.{exits}
use borrow.Author.Tests.{not-true, not-false}
use Rattle.ends_write.proofs.LeadLaws.{no_lead, check_39, check_24, all_checked}
use Rattle.ends_write.proofs.opening.Opening.check.Goals as goal

ruleset laws = (exits, not-true, not-false, no_lead, check_39, check_24, all_checked, rules)

pub returns-in_err-check_lead : goal.returns-in_err-check_lead
returns-in_err-check_lead c = search laws

pub returns-then-not-lets_write : goal.returns-then-not-lets_write
returns-then-not-lets_write c = search laws

pub returns-then-self-by : goal.returns-then-self-by
returns-then-self-by c = search laws

pub returns : goal.returns
returns c = search laws
