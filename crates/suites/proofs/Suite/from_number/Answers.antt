use Rattle.std.proofs.Common.{◌∙◌}
use Rattle.format.specs.Shared.{suites}
use Rattle.suites.proofs.Find.{found}
use Rattle.suites.proofs.Suite.from_number.Goals as goal

pub returns : goal.returns
unfolding suites
returns c = c.find_in.ensures ∙ found c.args.number
