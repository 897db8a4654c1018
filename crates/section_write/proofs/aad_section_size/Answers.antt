use Rattle.std.proofs.Common.{rules}
use Rattle.section_write.proofs.SectionLaws.{size_alone, size_expanded}
use Rattle.section_write.proofs.aad_section_size.Goals as goal

ruleset laws = (size_alone, size_expanded, rules)

pub returns-then-is_length_alone : goal.returns-then-is_length_alone
returns-then-is_length_alone c = search laws

pub returns : goal.returns
returns c = search laws
