use Rattle.std.proofs.Common.{rules}
use Rattle.std.proofs.lemmas.Result.{err_from_is_err_and}
use Rattle.wire.proofs.BufferLaws.{read_place}
use Rattle.frames.proofs.Walk.{walk_start, walk_near, walk_more, walk_final, walk_not}
use Rattle.frames.proofs.frames_at.Goals as goal

ruleset laws = (walk_start, walk_near, walk_more, rules)

pub loop-number-init : goal.loop-number-init
loop-number-init c = search laws

pub at-requires : goal.at-requires
at-requires c = search laws

pub returns-in_err-f : goal.returns-in_err-f
returns-in_err-f c =
    let f = read_place c.at.ensures _ _ _ c.read_frame.ensures in
    let p = err_from_is_err_and c.from_residual.result c.from_residual.ensures.1 in
    rw (p.1, p.2) (walk_not _ _ _ _ _ c.loop-number.invariant _ f _ c.in_err-f.was)

pub loop-number-preserved : goal.loop-number-preserved
loop-number-preserved c = search laws

pub returns-in-Final : goal.returns-in-Final
returns-in-Final c =
    let f = read_place c.at.ensures _ _ _ c.read_frame.ensures in
    walk_final _ _ _ _ _ c.loop-number.invariant _ f _ c.in_ok-f.was c.in-Final.is
