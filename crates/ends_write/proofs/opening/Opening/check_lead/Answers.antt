use Rattle.std.proofs.Common.{rules}
use Rattle.wire.proofs.Exits.{exits}
use Rattle.checks.proofs.Stages.{check_stop, check_pass, check_end}
use Rattle.ends_write.proofs.VersionLaws.{check_by, pass_by}
use borrow.Author.Tests.{not-true, not-false}
use Rattle.ends_write.proofs.SuiteLaws.{check_6, pass_6, check_7, pass_7}
use Rattle.ends_write.proofs.opening.Opening.check_lead.Goals as goal

ruleset laws = (exits, check_stop, check_pass, check_end, check_by, pass_by, not-true, not-false, check_6, pass_6, check_7, pass_7, rules)

pub returns-then-not-is_one_or_two : goal.returns-then-not-is_one_or_two
returns-then-not-is_one_or_two c = search laws

pub returns-then-self-by : goal.returns-then-self-by
returns-then-self-by c = search laws

pub returns-in_err-suite : goal.returns-in_err-suite
returns-in_err-suite c = search laws

pub returns-then-from-self : goal.returns-then-from-self
returns-then-from-self c = search laws

pub returns : goal.returns
returns c = search laws
