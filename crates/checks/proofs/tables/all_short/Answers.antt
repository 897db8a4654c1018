use Rattle.std.proofs.Common.{rules, tests, arith, ◌∙◌, ◌*◌, ◌/◌, length, refl}
use Rattle.std.proofs.lemmas.Iterator.{YieldsList-from_range}
use Rattle.std.proofs.lemmas.Iterator.Search.{all_from_yields_List}
use Rattle.checks.specs.Table.{short}
use Rattle.checks.proofs.Loops.{every_all}
use Rattle.checks.proofs.tables.all_short.Goals as goal

pub returns : goal.returns
unfolding short
returns c =
    all_from_yields_List (λ k. short c.args.table.now (2 * k)) _ _ _ c.all.ensures.ran (YieldsList-from_range 0 (length c.args.table.now / 2) (length c.args.table.now / 2) refl (omega arith)) (λ x b q k. search (rules, tests))
    ∙ every_all (short c.args.table.now) _ 0
