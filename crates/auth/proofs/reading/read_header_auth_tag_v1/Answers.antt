use Rattle.std.proofs.Common.{rules}
use Rattle.auth.proofs.Laws.{v1_no_iv, iv_in, v1_read}
use Rattle.auth.proofs.reading.read_header_auth_tag_v1.Goals as goal

ruleset laws = (v1_no_iv, iv_in, v1_read, rules)

pub returns-in_err-iv : goal.returns-in_err-iv
returns-in_err-iv c = search laws

pub bytes_at-requires : goal.bytes_at-requires
bytes_at-requires c = search laws

pub returns : goal.returns
returns c = search laws
