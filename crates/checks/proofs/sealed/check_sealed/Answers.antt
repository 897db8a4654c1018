use Rattle.std.proofs.Common.{rules}
use Rattle.checks.proofs.Stages.{check_eq, pass_eq, check_end}
use Rattle.checks.proofs.sealed.check_sealed.Goals as goal

ruleset laws = (check_eq, pass_eq, check_end, rules)

pub returns-then-iv-ne-IV_LEN : goal.returns-then-iv-ne-IV_LEN
returns-then-iv-ne-IV_LEN c = search laws

pub returns-then-tag-ne-TAG_LEN : goal.returns-then-tag-ne-TAG_LEN
returns-then-tag-ne-TAG_LEN c = search laws

pub returns : goal.returns
returns c = search laws
