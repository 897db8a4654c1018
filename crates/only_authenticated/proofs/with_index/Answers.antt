use Rattle.std.proofs.Common.{rules}
use Rattle.std.proofs.lemmas.Result.{err_from_is_err_and}
use Rattle.wire.proofs.Exits.{exits}
use Rattle.only_authenticated.proofs.Whole.{section_refused, odd_table, place_outside, pairs_put}
use Rattle.only_authenticated.proofs.with_index.Goals as goal

ruleset laws = (exits, section_refused, pairs_put, rules)

pub returns-in_err-pairs : goal.returns-in_err-pairs
returns-in_err-pairs c = let p = err_from_is_err_and c.from_residual.result c.from_residual.ensures.1 in rw (p.1, p.2) (search laws)

pub returns-then-required-ne0 : goal.returns-then-required-ne0
returns-then-required-ne0 c =
    let section = c.indexed_context_at in
    odd_table _ _ _ _ _ section.result section.ensures.0 c.in_ok-pairs.pairs c.in_ok-pairs.was c.into.result c.into.ensures c.if-required-ne0.true

pub returns-then-not-all_in_text : goal.returns-then-not-all_in_text
returns-then-not-all_in_text c =
    let section = c.indexed_context_at in
    let into = c.into-then-not-all_in_text in
    place_outside _ _ _ _ _ section.result section.ensures.0 c.in_ok-pairs.pairs c.in_ok-pairs.was into.result into.ensures c.if-required-ne0.false c.all_in_text.result c.all_in_text.ensures
    c.if-not-all_in_text.true

pub returns : goal.returns
returns c = search laws
