use Rattle.std.proofs.Common.{rules, arith}
use Rattle.index.proofs.Halving.{placed_sought}
use Rattle.checks.specs.Seen.{key_of}
use Rattle.checks.proofs.tables.Parts.find.Goals as goal

pub returns : goal.returns
unfolding key_of
returns c = placed_sought _ _ _ _ _ _ c.requires.0.index (omega arith) _ (λ x o h p. search rules) _ c.search.ensures
