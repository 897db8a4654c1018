use Rattle.std.proofs.Common.{rules}
use Rattle.auth.proofs.Laws.{v2_read}
use Rattle.auth.proofs.reading.read_header_auth_tag_v2.Goals as goal

ruleset laws = (v2_read, rules)

pub returns : goal.returns
returns c = search laws
