use Rattle.std.proofs.Common.{rules}
use Rattle.checks.proofs.Parts.{pair_here, value_here}
use Rattle.checks.proofs.Stages.{check_stop, check_pass, check_end}
use Rattle.checks.proofs.SeenLaws.{after_fails, after_passes}
use Rattle.checks.proofs.tables.Parts.check_pair.Goals as goal

ruleset laws = (pair_here, value_here, check_stop, check_pass, check_end, after_fails, after_passes, rules)

pub is_text-requires : goal.is_text-requires
is_text-requires c = search laws

pub is_text-requires-2 : goal.is_text-requires-2
is_text-requires-2 c = search laws

pub is_new-requires : goal.is_new-requires
is_new-requires c = search laws

pub returns-then-not-is_text : goal.returns-then-not-is_text
returns-then-not-is_text c = search laws

pub returns-then-not-is_text-2 : goal.returns-then-not-is_text-2
returns-then-not-is_text-2 c = search laws

pub returns-then-not-is_new : goal.returns-then-not-is_new
returns-then-not-is_new c = search laws

pub returns : goal.returns
returns c = search laws
