use Rattle.std.proofs.Common.{rules}
use Rattle.checks.proofs.Parts.{passed_inside}
use Rattle.checks.proofs.SectionChecks.{table_small, table_count, pairs_table, pairs_each, pairs_13, pairs_pass}
use Rattle.checks.proofs.pairs.check_pairs.Goals as goal

ruleset laws = (table_small, table_count, pairs_table, pairs_each, pairs_13, pairs_pass, rules)

pub returns-in_err-check_table : goal.returns-in_err-check_table
returns-in_err-check_table c = search laws

pub check_each_pair-requires : goal.check_each_pair-requires
check_each_pair-requires c = search laws

pub returns-in_err-check_each_pair : goal.returns-in_err-check_each_pair
returns-in_err-check_each_pair c = search laws

pub entries_size-requires : goal.entries_size-requires
entries_size-requires c = search laws

pub returns-then-entries_size-lt65534 : goal.returns-then-entries_size-lt65534
returns-then-entries_size-lt65534 c = search laws

pub returns : goal.returns
returns c = search laws

pub invariant_of-parts : goal.invariant_of-parts
invariant_of-parts c = record { inside = passed_inside _ _ _ _ c.check_table.ensures c.in_ok-check_table.was }
