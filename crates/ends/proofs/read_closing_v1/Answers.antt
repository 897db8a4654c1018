use Rattle.std.proofs.Common.{rules}
use Rattle.wire.proofs.Exits.{exits, same_error}
use Rattle.wire.proofs.BufferLaws.{read_place}
use Rattle.ends.proofs.ClosingLaws.{v1_no_reserved, v1_18, v1_no_iv, v1_19, v1_no_frame, v1_whole}
use Rattle.ends.proofs.read_closing_v1.Goals as goal

ruleset laws = (exits, v1_no_reserved, v1_18, rules)

pub returns-in_err-reserved : goal.returns-in_err-reserved
returns-in_err-reserved c = search laws

pub returns-then-reserved-ne0 : goal.returns-then-reserved-ne0
returns-then-reserved-ne0 c = search laws

pub returns-in_err-headerIvLength : goal.returns-in_err-headerIvLength
returns-in_err-headerIvLength c =
    let iv = read_place c.at.ensures _ _ _ c.read_uint-2.ensures.answer in
    same_error _ _ c.from_residual-in_err-headerIvLength.ensures.1
    (λ q e. rw e (v1_no_iv _ _ _ _ c.read_uint.ensures.answer _ c.in_ok-reserved.was c.if-reserved-ne0.false _ iv _ c.in_err-headerIvLength.was))

pub returns-then-headerIvLength : goal.returns-then-headerIvLength
returns-then-headerIvLength c =
    let iv = read_place c.at.ensures _ _ _ c.read_uint-2.ensures.answer in
    v1_19 _ _ _ _ c.read_uint.ensures.answer _ c.in_ok-reserved.was c.if-reserved-ne0.false _ iv _ c.in_ok-headerIvLength.was c.if-headerIvLength.true _ c.into-then-headerIvLength.ensures

pub returns-in_err-frameLength : goal.returns-in_err-frameLength
returns-in_err-frameLength c =
    let iv = read_place c.at.ensures _ _ _ c.read_uint-2.ensures.answer in
    let frame = read_place c.at-2.ensures _ _ _ c.read_uint-3.ensures.answer in
    same_error _ _ c.from_residual-in_err-frameLength.ensures.1
    (λ q e. rw e (v1_no_frame _ _ _ _ c.read_uint.ensures.answer _ c.in_ok-reserved.was c.if-reserved-ne0.false _ iv _ c.in_ok-headerIvLength.was c.if-headerIvLength.false _ frame _ c.in_err-frameLength.was))

pub returns : goal.returns
returns c =
    let iv = read_place c.at.ensures _ _ _ c.read_uint-2.ensures.answer in
    let frame = read_place c.at-2.ensures _ _ _ c.read_uint-3.ensures.answer in
    v1_whole _ _ _ _ c.read_uint.ensures.answer _ c.in_ok-reserved.was c.if-reserved-ne0.false _ iv _ c.in_ok-headerIvLength.was c.if-headerIvLength.false _ frame _ c.in_ok-frameLength.was
