use Rattle.std.proofs.Common.{refl, rules}
use Rattle.std.proofs.lemmas.Result.{err_from_is_err_and}
use Rattle.entries.proofs.Tables.{reads_on, reads_none}
use Rattle.only_authenticated.proofs.Whole.{enough_few}
use Rattle.only_authenticated.proofs.write_only_authenticated.Goals as goal

ruleset laws = (enough_few, rules)

pub returns-in_err-buffer : goal.returns-in_err-buffer
returns-in_err-buffer c =
    let p = err_from_is_err_and c.from_residual.result c.from_residual.ensures.1 in
    rw (p.1, p.2) (reads_none _ _ _ c.args.m c.args.start c.new.result c.new.ensures _ _ _ c.in_err-buffer.was refl)

pub with_room-requires : goal.with_room-requires
with_room-requires c = search laws

pub returns-then-claimed-le32 : goal.returns-then-claimed-le32
returns-then-claimed-le32 c = reads_on _ _ _ c.args.m c.args.start c.new.result c.new.ensures _ _ _ c.in_ok-buffer.was _ c.with_room.ensures

pub returns : goal.returns
returns c = reads_on _ _ _ c.args.m c.args.start c.new.result c.new.ensures _ _ _ c.in_ok-buffer.was _ c.with_room-2.ensures
