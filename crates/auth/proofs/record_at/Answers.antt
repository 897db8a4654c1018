use Rattle.std.proofs.Common.{rules}
use Rattle.auth.proofs.Laws.{suite_unknown, suite_v1, suite_v2}
use Rattle.auth.proofs.record_at.Goals as goal

ruleset laws = (suite_unknown, suite_v1, suite_v2, rules)

pub returns-in_err-suite : goal.returns-in_err-suite
returns-in_err-suite c = search laws

pub returns-then-suite-eq1 : goal.returns-then-suite-eq1
returns-then-suite-eq1 c = search laws

pub returns : goal.returns
returns c = search laws
