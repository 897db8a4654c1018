use Rattle.std.proofs.lemmas.Result.{err_from_is_err_and}
use Rattle.body_reader.proofs.BodyLaws.{body_on, body_none}
use Rattle.body_reader.proofs.read_header_body.Goals as goal

pub returns-in_err-buffer : goal.returns-in_err-buffer
returns-in_err-buffer c =
    let p = err_from_is_err_and c.from_residual.result c.from_residual.ensures.1 in
    rw (p.1, p.2) (body_none _ c.args.m c.args.start _ _ c.new.result c.new.ensures _ c.in_err-buffer.was)

pub returns : goal.returns
returns c = body_on _ c.args.m c.args.start _ _ c.new.result c.new.ensures _ c.in_ok-buffer.was _ _ _ c.body_at.ensures
