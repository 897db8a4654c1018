use Rattle.std.proofs.Common.{rules}
use Rattle.section_write.proofs.SectionLaws.{keys_stored}
use Rattle.section_write.proofs.put_keys_section.Goals as goal

ruleset laws = (keys_stored, rules)

pub returns : goal.returns
returns c = search laws
