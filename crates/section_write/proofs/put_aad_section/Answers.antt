use Rattle.std.proofs.Common.{rules}
use Rattle.section_write.proofs.SectionLaws.{room_alone, room_expanded, alone_stored, expanded_stored}
use Rattle.section_write.proofs.put_aad_section.Goals as goal

ruleset laws = (room_alone, room_expanded, alone_stored, expanded_stored, rules)

pub write_uint16-requires : goal.write_uint16-requires
write_uint16-requires c = search laws

pub returns-then-is_length_alone : goal.returns-then-is_length_alone
returns-then-is_length_alone c = search laws

pub put_expanded_aad_section-requires : goal.put_expanded_aad_section-requires
put_expanded_aad_section-requires c = search laws

pub returns : goal.returns
returns c = search laws
