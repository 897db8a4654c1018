use Rattle.std.proofs.Common.{rules}
use Rattle.std.proofs.lemmas.Result.{err_from_is_err_and}
use Rattle.wire.proofs.Exits.{exits}
use Rattle.frames.proofs.Whole.{frames_inside, frames_of_kinds, into_not, into_23, into_whole}
use Rattle.frames.proofs.frames_tabled.Goals as goal

ruleset laws = (exits, frames_inside, frames_of_kinds, into_not, into_23, into_whole, rules)

pub returns-in_err-frames : goal.returns-in_err-frames
returns-in_err-frames c =
    let p = err_from_is_err_and c.from_residual.result c.from_residual.ensures.1 in
    rw (p.1, p.2) (search laws)

pub returns-then-table-frames : goal.returns-then-table-frames
returns-then-table-frames c = search laws

pub fill_frames-requires : goal.fill_frames-requires
fill_frames-requires c = search laws

pub returns : goal.returns
returns c = search laws
