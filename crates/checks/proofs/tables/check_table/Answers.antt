use Rattle.std.proofs.Common.{rules}
use Rattle.format.specs.Lent.{table_checks}
use Rattle.checks.specs.Table.{numbers_checks}
use Rattle.checks.proofs.Stages.{check_stop, check_pass, check_eq, pass_eq, check_le, pass_le, check_end}
use Rattle.checks.proofs.tables.check_table.Goals as goal

ruleset laws = (check_stop, check_pass, check_eq, pass_eq, check_le, pass_le, check_end, rules)

pub returns-then-table-k-ne0 : goal.returns-then-table-k-ne0
unfolding numbers_checks table_checks
returns-then-table-k-ne0 c = search laws

pub returns-then-table-k-gt65535 : goal.returns-then-table-k-gt65535
unfolding numbers_checks table_checks
returns-then-table-k-gt65535 c = search laws

pub returns-then-not-all_short : goal.returns-then-not-all_short
unfolding numbers_checks table_checks
returns-then-not-all_short c = search laws

pub returns-then-not-all_in_text : goal.returns-then-not-all_in_text
unfolding numbers_checks table_checks
returns-then-not-all_in_text c = search laws

pub returns : goal.returns
unfolding numbers_checks table_checks
returns c = search laws
