use Rattle.std.proofs.Common.{rules, tests, arith, ◌+◌, get_or, refl}
use Rattle.std.proofs.lemmas.Iterator.{YieldsList-from_range}
use Rattle.std.proofs.lemmas.Iterator.Search.{all_from_yields_List}
use Rattle.format.specs.Utf8.{has, tail}
use Rattle.utf8.proofs.Utf8Laws.{tails_all}
use Rattle.utf8.proofs.all_tails.Goals as goal

pub returns : goal.returns
returns c =
    tails_all _ _ _ _ c.requires
    (all_from_yields_List (λ k. has tail (get_or c.args.m.now (c.args.i + k) 0)) _ _ _ c.all.ensures.ran (YieldsList-from_range 0 c.args.n c.args.n refl (omega arith)) (λ x b q k. search (rules, tests)))
