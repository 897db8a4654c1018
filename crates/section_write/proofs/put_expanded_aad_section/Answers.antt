use Rattle.std.proofs.Common.{rules}
use Rattle.section_write.proofs.SectionLaws.{aad_stored}
use Rattle.section_write.proofs.put_expanded_aad_section.Goals as goal

ruleset laws = (aad_stored, rules)

pub returns : goal.returns
returns c = search laws
