use Rattle.std.proofs.Common.{rules}
use Rattle.fields.proofs.Laws.{non_framed, framed, neither}
use Rattle.fields.proofs.frame_fits.Goals as goal

ruleset laws = (non_framed, framed, neither, rules)

pub returns-in-1 : goal.returns-in-1
returns-in-1 c = search laws

pub returns-in-2 : goal.returns-in-2
returns-in-2 c = search laws

pub returns-in_default : goal.returns-in_default
returns-in_default c = search laws
