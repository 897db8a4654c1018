use Rattle.std.proofs.Common.{rules}
use Rattle.wire.proofs.Exits.{exits}
use Rattle.checks.proofs.Writers.{writes_error, writes_fails, writes_28, writes_all}
use Rattle.section_write.proofs.SectionLaws.{aad_small, aad_ready, aad_length, today_stored}
use Rattle.section_write.proofs.write_aad_section.Goals as goal

ruleset laws = (exits, writes_error, writes_fails, writes_28, writes_all, aad_small, aad_ready, aad_length, today_stored, rules)

pub returns-in_err-check_pairs : goal.returns-in_err-check_pairs
returns-in_err-check_pairs c = search laws

pub aad_section_size-size-requires : goal.aad_section_size-size-requires
aad_section_size-size-requires c = search laws

pub returns-then-out-size : goal.returns-then-out-size
returns-then-out-size c = search laws

pub put_aad_section-requires : goal.put_aad_section-requires
put_aad_section-requires c = search laws

pub returns : goal.returns
returns c = search laws
