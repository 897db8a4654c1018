use Rattle.std.proofs.Common.{rules}
use Rattle.wire.proofs.Exits.{same_error}
use Rattle.checks.proofs.Loops.{each_start, each_more, each_bad, each_end}
use Rattle.frames_write.proofs.checking.check_each_frame.Goals as goal

ruleset laws = (each_start, each_end, rules)

pub loop-i-init : goal.loop-i-init
loop-i-init c = search laws

pub returns-in_err-check_sealed : goal.returns-in_err-check_sealed
returns-in_err-check_sealed c =
    same_error _ _ c.from_residual.ensures.1 (λ q h. each_bad _ _ _ _ _ c.loop-i.invariant c.loop-i-test.true _ c.check_sealed.ensures q (search rules))

pub loop-i-preserved : goal.loop-i-preserved
loop-i-preserved c = each_more _ _ _ _ _ c.loop-i.invariant c.loop-i-test.true _ c.check_sealed.ensures c.in_ok-check_sealed.was

pub returns : goal.returns
returns c = search laws
