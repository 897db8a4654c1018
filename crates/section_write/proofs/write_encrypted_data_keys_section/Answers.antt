use Rattle.std.proofs.Common.{rules}
use Rattle.wire.proofs.Exits.{exits}
use Rattle.checks.proofs.Writers.{writes_error, writes_fails, writes_28, writes_all}
use Rattle.section_write.proofs.SectionLaws.{keys_small, keys_ready, keys_length}
use Rattle.section_write.proofs.write_encrypted_data_keys_section.Goals as goal

ruleset laws = (exits, writes_error, writes_fails, writes_28, writes_all, keys_small, keys_ready, keys_length, rules)

pub returns-in_err-check_keys : goal.returns-in_err-check_keys
returns-in_err-check_keys c = search laws

pub keys_section_size-size-requires : goal.keys_section_size-size-requires
keys_section_size-size-requires c = search laws

pub returns-then-out-size : goal.returns-then-out-size
returns-then-out-size c = search laws

pub put_keys_section-requires : goal.put_keys_section-requires
put_keys_section-requires c = search laws

pub returns : goal.returns
returns c = search laws
