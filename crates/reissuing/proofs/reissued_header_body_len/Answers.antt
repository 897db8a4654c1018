use Rattle.std.proofs.Common.{rules}
use Rattle.wire.proofs.Exits.{exits}
use Rattle.reissuing.proofs.Answers.{told_not, told_so}
use Rattle.reissuing.proofs.reissued_header_body_len.Goals as goal

ruleset laws = (exits, told_not, told_so, rules)

pub returns : goal.returns
returns c = search laws
