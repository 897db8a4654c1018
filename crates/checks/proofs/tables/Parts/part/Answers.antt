use Rattle.std.proofs.Common.{arith, ◌≡◌, ◌+◌, ◌-◌, get_or}
use Rattle.format.specs.Lent.{part_in}
use Rattle.checks.proofs.tables.Parts.part.Goals as goal

pub returns-clause-same : goal.returns-clause-same
unfolding part_in
returns-clause-same c =
    let start = get_or c.args.self.table.now c.args.at 0 in
    let size = get_or c.args.self.table.now (c.args.at + 1) 0 in
    let e : start + size - start ≡ size = omega arith in
    rw e
