use Rattle.std.proofs.Common.{rules, tests, arith, ◌∙◌, ◌*◌, ◌/◌, length, refl}
use Rattle.std.proofs.lemmas.Iterator.{YieldsList-from_range}
use Rattle.std.proofs.lemmas.Iterator.Search.{all_from_yields_List}
use Rattle.format.specs.Lent.{in_text}
use Rattle.checks.proofs.Loops.{every_all}
use Rattle.checks.proofs.tables.all_in_text.Goals as goal

pub returns : goal.returns
unfolding in_text
returns c =
    all_from_yields_List (λ k. in_text c.args.text.now c.args.table.now (2 * k)) _ _ _ c.all.ensures.ran (YieldsList-from_range 0 (length c.args.table.now / 2) (length c.args.table.now / 2) refl (omega arith)) (λ x b q k. search (rules, tests))
    ∙ every_all (in_text c.args.text.now c.args.table.now) _ 0
