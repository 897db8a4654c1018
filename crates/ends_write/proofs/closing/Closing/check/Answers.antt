use Rattle.std.proofs.Common.{rules}
use Rattle.checks.proofs.Stages.{check_stop, check_pass, check_end}
use Rattle.ends_write.proofs.VersionLaws.{check_by, pass_by}
use borrow.Author.Tests.{not-true, not-false}
use Rattle.ends_write.proofs.closing.Closing.check.Goals as goal

ruleset laws = (check_stop, check_pass, check_end, check_by, pass_by, not-true, not-false, rules)

pub returns-then-not-is_one_or_two : goal.returns-then-not-is_one_or_two
returns-then-not-is_one_or_two c = search laws

pub returns-then-self-by : goal.returns-then-self-by
returns-then-self-by c = search laws

pub returns-then-self-by-2 : goal.returns-then-self-by-2
returns-then-self-by-2 c = search laws

pub returns-then-not-frame_fits : goal.returns-then-not-frame_fits
returns-then-not-frame_fits c = search laws

pub returns : goal.returns
returns c = search laws
