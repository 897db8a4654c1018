use Rattle.std.proofs.Common.{rules}
use Rattle.wire.proofs.Exits.{exits}
use Rattle.context.proofs.FindLaws.{find_on, find_none}
use Rattle.context.proofs.find_value.Goals as goal

ruleset laws = (exits, find_on, find_none, rules)

pub returns-in_err-new : goal.returns-in_err-new
returns-in_err-new c = search laws

pub returns : goal.returns
returns c = search laws
