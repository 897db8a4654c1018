use Rattle.std.proofs.Common.{rules}
use Rattle.wire.proofs.BufferLaws.{read_on, read_not}
use Rattle.auth.proofs.read_header_auth_tag.Goals as goal

ruleset laws = (read_on, read_not, rules)

pub returns-in_err-new : goal.returns-in_err-new
returns-in_err-new c = search laws

pub returns : goal.returns
returns c = search laws
