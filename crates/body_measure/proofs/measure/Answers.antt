use Rattle.std.proofs.Common.{arith}
use Rattle.std.proofs.lemmas.Result.{err_from_is_err_and}
use Rattle.wire.proofs.BufferLaws.{read_place}
use Rattle.body_measure.proofs.MeasureLaws.{measure_no_opening, measure_no_context, measure_no_keys, measure_no_closing, measure_20, opening_in, context_in, keys_in}
use Rattle.body_measure.proofs.measure.Goals as goal

pub returns-in_err-opening : goal.returns-in_err-opening
returns-in_err-opening c =
    let p = err_from_is_err_and c.from_residual.result c.from_residual.ensures.1 in
    rw (p.1, p.2) (measure_no_opening _ _ _ _ c.read_opening.ensures _ c.in_err-opening.was)

pub at-requires : goal.at-requires
at-requires c = let h = opening_in c.args.request _ _ _ c.read_opening.ensures _ c.in_ok-opening.was in omega arith

pub returns-in_err-context : goal.returns-in_err-context
returns-in_err-context c =
    let p = err_from_is_err_and c.from_residual-in_err-context.result c.from_residual-in_err-context.ensures.1 in
    let context = read_place c.at.ensures _ _ _ c.context_at.ensures in
    rw (p.1, p.2) (measure_no_context _ _ _ _ c.read_opening.ensures _ c.in_ok-opening.was _ context _ c.in_err-context.was)

pub at-requires-2 : goal.at-requires-2
at-requires-2 c =
    let context = read_place c.at.ensures _ _ _ c.context_at.ensures in
    let h = context_in c.args.request _ _ _ context _ c.in_ok-context.was in
    omega arith

pub returns-in_err-keys : goal.returns-in_err-keys
returns-in_err-keys c =
    let p = err_from_is_err_and c.from_residual-in_err-keys.result c.from_residual-in_err-keys.ensures.1 in
    let context = read_place c.at.ensures _ _ _ c.context_at.ensures in
    let keys = read_place c.at-2.ensures _ _ _ c.keys_at.ensures in
    rw (p.1, p.2) (measure_no_keys _ _ _ _ c.read_opening.ensures _ c.in_ok-opening.was _ context _ c.in_ok-context.was _ keys _ c.in_err-keys.was)

pub at-requires-3 : goal.at-requires-3
at-requires-3 c =
    let keys = read_place c.at-2.ensures _ _ _ c.keys_at.ensures in
    let h = keys_in c.args.request _ _ _ keys _ c.in_ok-keys.was in
    omega arith

pub returns-in_err-closing : goal.returns-in_err-closing
returns-in_err-closing c =
    let p = err_from_is_err_and c.from_residual-in_err-closing.result c.from_residual-in_err-closing.ensures.1 in
    let context = read_place c.at.ensures _ _ _ c.context_at.ensures in
    let keys = read_place c.at-2.ensures _ _ _ c.keys_at.ensures in
    let closing = read_place c.at-3.ensures _ _ _ c.read_closing.ensures in
    rw (p.1, p.2) (measure_no_closing _ _ _ _ c.read_opening.ensures _ c.in_ok-opening.was _ context _ c.in_ok-context.was _ keys _ c.in_ok-keys.was _ closing _ c.in_err-closing.was)

pub returns-then-not-frame_passes : goal.returns-then-not-frame_passes
returns-then-not-frame_passes c =
    let context = read_place c.at.ensures _ _ _ c.context_at.ensures in
    let keys = read_place c.at-2.ensures _ _ _ c.keys_at.ensures in
    let closing = read_place c.at-3.ensures _ _ _ c.read_closing.ensures in
    measure_20 _ _ _ _ c.read_opening.ensures _ c.in_ok-opening.was _ context _ c.in_ok-context.was _ keys _ c.in_ok-keys.was _ closing _ c.in_ok-closing.was _ c.frame_passes.ensures (search c.if-not-frame_passes.true) _ c.into.ensures
