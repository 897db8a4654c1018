use Rattle.std.proofs.Common.{rules}
use Rattle.checks.proofs.Parts.{key_here}
use Rattle.checks.proofs.Stages.{check_stop, check_pass, check_end}
use Rattle.checks.proofs.tables.Parts.check_key.Goals as goal

ruleset laws = (key_here, check_stop, check_pass, check_end, rules)

pub is_text-requires : goal.is_text-requires
is_text-requires c = search laws

pub returns-then-is_text : goal.returns-then-is_text
returns-then-is_text c = search laws

pub returns : goal.returns
returns c = search laws
