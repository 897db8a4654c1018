use Rattle.std.proofs.Common.{rules}
use Rattle.auth_write.proofs.AuthLaws.{room_iv, room_tag, room_only, auth_first, auth_second}
use Rattle.auth_write.proofs.put_auth.Goals as goal

ruleset laws = (room_iv, room_tag, room_only, auth_first, auth_second, rules)

pub returns-then-version-eq1 : goal.returns-then-version-eq1
returns-then-version-eq1 c = search laws

pub returns : goal.returns
returns c = search laws
