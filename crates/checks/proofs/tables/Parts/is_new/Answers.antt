use Rattle.std.proofs.Common.{rules}
use Rattle.checks.proofs.SeenLaws.{new_yes}
use Rattle.checks.proofs.tables.Parts.is_new.Goals as goal

pub returns : goal.returns
returns c = search (new_yes, rules)
