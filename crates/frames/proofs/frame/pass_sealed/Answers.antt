use Rattle.std.proofs.Common.{rules}
use Rattle.std.proofs.lemmas.Result.{err_from_is_err_and}
use Rattle.wire.proofs.Exits.{exits}
use Rattle.frames.proofs.FrameLaws.{sealed_no_content, content_near, sealed_no_tag, sealed_whole}
use Rattle.frames.proofs.frame.pass_sealed.Goals as goal

ruleset laws = (exits, sealed_no_content, content_near, sealed_no_tag, sealed_whole, rules)

pub returns-in_err-content : goal.returns-in_err-content
returns-in_err-content c =
    let p = err_from_is_err_and c.from_residual.result c.from_residual.ensures.1 in
    rw (p.1, p.2) (search laws)

pub at-requires : goal.at-requires
at-requires c = search laws

pub returns-in_err-tag : goal.returns-in_err-tag
returns-in_err-tag c =
    let p = err_from_is_err_and c.from_residual-in_err-tag.result c.from_residual-in_err-tag.ensures.1 in
    rw (p.1, p.2) (search laws)

pub returns : goal.returns
returns c = search laws
