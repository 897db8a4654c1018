use Rattle.std.proofs.Common.{rules}
use Rattle.std.proofs.lemmas.Result.{err_from_is_err_and}
use Rattle.wire.proofs.Exits.{exits}
use Rattle.entries.proofs.Answers.{next_place}
use Rattle.context.proofs.PairLaws.{step_none, step_ready, step_seen, step_whole}
use Rattle.context.proofs.pairs.Pairs.next.Goals as goal

ruleset laws = (exits, step_none, step_ready, step_seen, step_whole, rules)

pub returns-in_err-tail : goal.returns-in_err-tail
returns-in_err-tail c =
    let pair = next_place c.at.ensures _ _ c.read_pair.ensures in
    let p = err_from_is_err_and c.from_residual.result c.from_residual.ensures.1 in rw (p.1, p.2) (search laws)

pub seen_or_add-requires : goal.seen_or_add-requires
seen_or_add-requires c =
    let pair = next_place c.at.ensures _ _ c.read_pair.ensures in
    search (laws, c.in_ok-tail.was)

pub returns-then-seen_or_add : goal.returns-then-seen_or_add
returns-then-seen_or_add c =
    let pair = next_place c.at.ensures _ _ c.read_pair.ensures in
    search (laws, c.in_ok-tail.was)

pub returns : goal.returns
returns c =
    let pair = next_place c.at.ensures _ _ c.read_pair.ensures in
    search laws
