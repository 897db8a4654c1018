use Rattle.std.proofs.Common.{rules}
use Rattle.body_write.proofs.FormLaws.{today_passes, old_without_a_pair, old_with_a_pair}
use Rattle.body_write.proofs.body.Body.check_form.Goals as goal

ruleset laws = (today_passes, old_without_a_pair, old_with_a_pair, rules)

pub returns-in-Old : goal.returns-in-Old
returns-in-Old c = search laws

pub returns-in_default : goal.returns-in_default
returns-in_default c = search laws

pub returns-in_default-2 : goal.returns-in_default-2
returns-in_default-2 c = search laws
