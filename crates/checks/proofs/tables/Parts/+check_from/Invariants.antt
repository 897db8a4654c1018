use Rattle.std.proofs.Common.{◌-◌, length}
use Rattle.checks.proofs.tables.Parts.+check_from.Given as goal

abbrev pub decreases-check_from : goal.decreases-check_from
decreases-check_from l = 1024 - length l.keys.now
