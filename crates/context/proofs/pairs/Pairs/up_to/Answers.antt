use Rattle.std.proofs.Common.{rules}
use Rattle.std.proofs.lemmas.Result.{err_from_is_err_and}
use Rattle.wire.proofs.Exits.{exits}
use Rattle.context.proofs.PairLaws.{pass_start, pass_end, pass_on, pass_stop, pass_more}
use Rattle.context.proofs.pairs.Pairs.up_to.Goals as goal

ruleset laws = (exits, pass_start, pass_end, pass_on, pass_stop, pass_more, rules)

pub next-requires : goal.next-requires
next-requires c = search laws

pub returns-in_err-s : goal.returns-in_err-s
returns-in_err-s c = let p = err_from_is_err_and c.from_residual.result c.from_residual.ensures.1 in rw (p.1, p.2) (search laws)

pub loop-i-preserved : goal.loop-i-preserved
loop-i-preserved c = search laws
