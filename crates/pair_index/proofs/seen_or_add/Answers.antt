use Rattle.std.proofs.Common.{rules}
use Rattle.pair_index.proofs.SeenLaws.{added_new}
use Rattle.pair_index.proofs.seen_or_add.Goals as goal

pub returns : goal.returns
returns c = search (added_new, rules)
