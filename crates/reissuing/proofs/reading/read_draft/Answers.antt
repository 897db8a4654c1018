use Rattle.std.proofs.Common.{refl}
use Rattle.std.proofs.lemmas.Result.{err_from_is_err_and}
use Rattle.reissuing.proofs.Found.{found_none, found_not, found_within, found_is}
use Rattle.reissuing.proofs.reading.read_draft.Goals as goal

pub returns-in_err-buffer : goal.returns-in_err-buffer
returns-in_err-buffer c =
    let p = err_from_is_err_and c.from_residual.result c.from_residual.ensures.1 in
    rw (p.1, p.2) (found_none c.args.m c.args.start _ c.new.ensures _ c.in_err-buffer.was)

pub returns-in_err-body : goal.returns-in_err-body
returns-in_err-body c =
    let p = err_from_is_err_and c.from_residual-in_err-body.result c.from_residual-in_err-body.ensures.1 in
    rw (p.1, p.2) (found_not c.args.m c.args.start _ c.new.ensures _ c.in_ok-buffer.was _ refl c.default.ensures.1 _ c.measure.ensures _ c.in_err-body.was)

pub taken_over-requires : goal.taken_over-requires
taken_over-requires c = found_within c.args.m c.args.start _ c.new.ensures _ c.in_ok-buffer.was _ refl c.default.ensures.1 _ c.measure.ensures _ c.in_ok-body.was c.type_inv.m

pub returns : goal.returns
returns c = found_is c.args.m c.args.start _ c.new.ensures _ c.in_ok-buffer.was _ refl c.default.ensures.1 _ c.measure.ensures _ c.in_ok-body.was c.type_inv.m _ c.taken_over.ensures
