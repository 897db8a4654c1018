use Rattle.std.proofs.Common.{rules, tests, arith, length, ◌/◌, ◌∙◌}
use Rattle.std.proofs.lemmas.Iterator.{YieldsList-from_range, YieldsList-from_map}
use Rattle.std.proofs.lemmas.Iterator.Consumers.{sum_from_yields_List, fits_from_yields_list}
use Rattle.checks.proofs.Loops.{entry_at, entries_all, entries_small}
use Rattle.checks.proofs.tables.entries_size.Goals as goal

pub sum-requires-clause-fits : goal.sum-requires-clause-fits
sum-requires-clause-fits c =
    let n = length c.args.table.now / 2 in
    let small = entries_small c.args.table.now c.type_inv.table n 0 in
    fits_from_yields_list c.map.result _ (YieldsList-from_map _ (entry_at c.args.table.now) (YieldsList-from_range 0 n n c.map.ensures.source (omega arith)) c.map.ensures.closure (λ x r q k. search (rules, tests))) (omega arith)

pub returns : goal.returns
returns c =
    let n = length c.args.table.now / 2 in
    let small = entries_small c.args.table.now c.type_inv.table n 0 in
    let is = sum_from_yields_List c.map.result c.sum.result c.sum.ensures.ran (YieldsList-from_map _ (entry_at c.args.table.now) (YieldsList-from_range 0 n n c.map.ensures.source (omega arith)) c.map.ensures.closure (λ x r q k. search (rules, tests))) in
    (is ∙ entries_all c.args.table.now n 0, omega arith)
