use Rattle.std.proofs.lemmas.Result.{err_from_is_err_and}
use Rattle.wire.proofs.BufferLaws.{read_place}
use Rattle.entries.proofs.Answers.{next_place}
use Rattle.frames.proofs.FrameLaws.{sealed_place, final_no_number, final_no_iv, final_no_length, final_35, final_no_content, final_whole}
use Rattle.frames.proofs.frame.final_frame.Goals as goal

pub returns-in_err-number : goal.returns-in_err-number
returns-in_err-number c =
    let p = err_from_is_err_and c.from_residual.result c.from_residual.ensures.1 in
    rw (p.1, p.2) (final_no_number _ _ _ _ _ c.read_uint.ensures.answer _ c.in_err-number.was)

pub returns-in_err-size : goal.returns-in_err-size
returns-in_err-size c =
    let iv = next_place c.at.ensures _ _ c.pass_iv.ensures.answer in
    let p = err_from_is_err_and c.from_residual-in_err-size.result c.from_residual-in_err-size.ensures.1 in
    rw (p.1, p.2) (final_no_iv _ _ _ _ _ c.read_uint.ensures.answer _ c.in_ok-number.was _ iv _ c.in_err-size.was)

pub returns-in_err-n : goal.returns-in_err-n
returns-in_err-n c =
    let iv = next_place c.at.ensures _ _ c.pass_iv.ensures.answer in
    let n = read_place c.at-2.ensures _ _ _ c.read_uint-2.ensures.answer in
    let p = err_from_is_err_and c.from_residual-in_err-n.result c.from_residual-in_err-n.ensures.1 in
    rw (p.1, p.2) (final_no_length _ _ _ _ _ c.read_uint.ensures.answer _ c.in_ok-number.was _ iv _ c.in_ok-size.was _ n _ c.in_err-n.was)

pub returns-then-frame-n : goal.returns-then-frame-n
returns-then-frame-n c =
    let iv = next_place c.at.ensures _ _ c.pass_iv.ensures.answer in
    let n = read_place c.at-2.ensures _ _ _ c.read_uint-2.ensures.answer in
    final_35 _ _ _ _ _ c.read_uint.ensures.answer _ c.in_ok-number.was _ iv _ c.in_ok-size.was _ n _ c.in_ok-n.was c.if-frame-n.true _ c.into.ensures

pub returns-in_err-end : goal.returns-in_err-end
returns-in_err-end c =
    let iv = next_place c.at.ensures _ _ c.pass_iv.ensures.answer in
    let n = read_place c.at-2.ensures _ _ _ c.read_uint-2.ensures.answer in
    let sealed = sealed_place c.at-3.ensures c.pass_sealed.ensures in
    let p = err_from_is_err_and c.from_residual-in_err-end.result c.from_residual-in_err-end.ensures.1 in
    rw (p.1, p.2) (final_no_content _ _ _ _ _ c.read_uint.ensures.answer _ c.in_ok-number.was _ iv _ c.in_ok-size.was _ n _ c.in_ok-n.was c.if-frame-n.false _ sealed _ c.in_err-end.was)

pub returns : goal.returns
returns c =
    let iv = next_place c.at.ensures _ _ c.pass_iv.ensures.answer in
    let n = read_place c.at-2.ensures _ _ _ c.read_uint-2.ensures.answer in
    let sealed = sealed_place c.at-3.ensures c.pass_sealed.ensures in
    final_whole _ _ _ _ _ c.read_uint.ensures.answer _ c.in_ok-number.was _ iv _ c.in_ok-size.was _ n _ c.in_ok-n.was c.if-frame-n.false _ sealed _ c.in_ok-end.was
