use Rattle.std.proofs.Common.{rules, arith}
use Rattle.index.proofs.Halving.{placed_sought}
use Rattle.pair_index.specs.Index.{key_of, Index}
use Rattle.pair_index.proofs.PairIndex.find.Goals as goal

pub returns : goal.returns
unfolding key_of
returns c =
    let index = c.args.self.now in
    let has : Index index.m.now index.first index.n index.keys.now = search rules in
    placed_sought _ _ _ _ _ _ has (omega arith) _ (λ x o h p. search rules) _ c.search.ensures
