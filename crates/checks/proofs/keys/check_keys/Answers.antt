use Rattle.std.proofs.Common.{rules}
use Rattle.checks.proofs.Parts.{passed_inside}
use Rattle.checks.proofs.SectionChecks.{keys_table, keys_38, keys_each}
use Rattle.checks.proofs.keys.check_keys.Goals as goal

ruleset laws = (keys_table, keys_38, keys_each, rules)

pub returns-in_err-check_table : goal.returns-in_err-check_table
returns-in_err-check_table c = search laws

pub returns-then-table-lt6 : goal.returns-then-table-lt6
returns-then-table-lt6 c = search laws

pub returns : goal.returns
returns c = search laws

pub invariant_of-parts : goal.invariant_of-parts
invariant_of-parts c = record { inside = passed_inside _ _ _ _ c.check_table.ensures c.in_ok-check_table.was }
