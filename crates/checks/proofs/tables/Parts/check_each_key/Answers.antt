use Rattle.std.proofs.Common.{rules}
use Rattle.std.proofs.lemmas.Result.{err_from_is_err_and}
use Rattle.checks.proofs.Loops.{each_start, each_more, each_bad, each_end}
use Rattle.checks.proofs.tables.Parts.check_each_key.Goals as goal

ruleset laws = (each_start, each_more, each_bad, each_end, rules)

pub loop-i-init : goal.loop-i-init
loop-i-init c = search laws

pub returns-in_err-check_key : goal.returns-in_err-check_key
returns-in_err-check_key c = let p = err_from_is_err_and c.from_residual.result c.from_residual.ensures.1 in rw (p.1, p.2) (each_bad _ _ _ _ _ c.loop-i.invariant c.loop-i-test.true _ c.check_key.ensures _ c.in_err-check_key.was)

pub loop-i-preserved : goal.loop-i-preserved
loop-i-preserved c = search laws

pub returns : goal.returns
returns c = search laws
