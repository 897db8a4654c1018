use Rattle.std.proofs.Common.{rules}
use Rattle.std.proofs.lemmas.Result.{err_from_is_err_and}
use Rattle.checks.proofs.SeenLaws.{pass_start, pass_below, pass_room, pass_more, pass_bad, pass_end}
use Rattle.checks.proofs.tables.Parts.check_up_to.Goals as goal

ruleset laws = (pass_start, pass_below, pass_room, pass_more, pass_bad, pass_end, rules)

pub returns-in_err-check_pair : goal.returns-in_err-check_pair
returns-in_err-check_pair c = let p = err_from_is_err_and c.from_residual.result c.from_residual.ensures.1 in rw (p.1, p.2) (pass_bad _ _ _ _ _ _ c.loop-i.invariant c.loop-i-test.true _ _ c.check_pair.ensures _ c.in_err-check_pair.was)

pub loop-i-preserved : goal.loop-i-preserved
loop-i-preserved c = pass_more _ _ _ _ _ _ c.loop-i.invariant c.loop-i-test.true _ _ c.check_pair.ensures c.in_ok-check_pair.was c.check_pair.auto.keys
