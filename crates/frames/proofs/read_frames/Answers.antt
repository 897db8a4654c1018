use Rattle.std.proofs.Common.{refl}
use Rattle.std.proofs.lemmas.Result.{err_from_is_err_and}
use Rattle.entries.proofs.Tables.{reads_on, reads_none}
use Rattle.frames.proofs.read_frames.Goals as goal

pub returns-in_err-new : goal.returns-in_err-new
returns-in_err-new c =
    let p = err_from_is_err_and c.from_residual.result c.from_residual.ensures.1 in
    rw (p.1, p.2) (reads_none _ _ _ c.args.m c.args.start c.new.result c.new.ensures _ _ _ c.in_err-new.was refl)

pub returns : goal.returns
returns c = reads_on _ _ _ c.args.m c.args.start c.new.result c.new.ensures _ _ _ c.in_ok-new.was _ c.frames_into.ensures
