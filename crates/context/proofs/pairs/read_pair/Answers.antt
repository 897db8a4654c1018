use Rattle.std.proofs.Common.{rules}
use Rattle.wire.proofs.Exits.{exits}
use Rattle.wire.proofs.BufferLaws.{span_place}
use Rattle.context.proofs.PairLaws.{pair_no_key, pair_no_value, pair_whole}
use Rattle.context.proofs.pairs.read_pair.Goals as goal

ruleset laws = (exits, pair_no_key, pair_no_value, pair_whole, rules)

pub returns-in_err-key : goal.returns-in_err-key
returns-in_err-key c = search laws

pub returns-in_err-value : goal.returns-in_err-value
returns-in_err-value c =
    let value = span_place c.at.ensures _ _ c.read_text-2.ensures.answer in
    search laws

pub returns : goal.returns
returns c =
    let value = span_place c.at.ensures _ _ c.read_text-2.ensures.answer in
    search laws
