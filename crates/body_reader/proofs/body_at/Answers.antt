use Rattle.std.proofs.Common.{rules, arith}
use Rattle.std.proofs.lemmas.Result.{err_from_is_err_and}
use Rattle.wire.proofs.Exits.{exits}
use Rattle.body_reader.proofs.BodyLaws.{body_not, body_22, body_23, body_whole, first_within, second_within, pairs_stand, keys_stand}
use Rattle.body_reader.proofs.body_at.Goals as goal

ruleset laws = (exits, body_not, body_22, body_23, body_whole, pairs_stand, keys_stand, rules)

pub returns-in_err-measured : goal.returns-in_err-measured
returns-in_err-measured c =
    let p = err_from_is_err_and c.from_residual.result c.from_residual.ensures.1 in
    rw (p.1, p.2) (search laws)

pub returns-then-pairTable-measured : goal.returns-then-pairTable-measured
returns-then-pairTable-measured c = search laws

pub returns-then-keyTable-measured : goal.returns-then-keyTable-measured
returns-then-keyTable-measured c = search laws

pub overflow_add-firstPair : goal.overflow_add-firstPair
overflow_add-firstPair c = let h = first_within _ _ _ _ c.measure.ensures _ c.in_ok-measured.was in omega arith

pub overflow_add-firstKey : goal.overflow_add-firstKey
overflow_add-firstKey c = let h = second_within _ _ _ _ c.measure.ensures _ c.in_ok-measured.was in omega arith

pub fill_places-requires : goal.fill_places-requires
fill_places-requires c = search laws

pub fill_places-requires-2 : goal.fill_places-requires-2
fill_places-requires-2 c = search laws

pub body_with-requires : goal.body_with-requires
body_with-requires c = let h = first_within _ _ _ _ c.measure.ensures _ c.in_ok-measured.was in omega arith

pub returns : goal.returns
returns c = search laws
