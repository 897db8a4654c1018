use Rattle.std.proofs.Common.{rules}
use Rattle.frames.proofs.FrameLaws.{iv_34, iv_none, iv_due}
use Rattle.frames.proofs.frame.pass_iv.Goals as goal

ruleset laws = (iv_34, iv_none, iv_due, rules)

pub returns-then-number-due-clause-answer : goal.returns-then-number-due-clause-answer
returns-then-number-due-clause-answer c = search laws

pub returns-in_err-iv-clause-answer : goal.returns-in_err-iv-clause-answer
returns-in_err-iv-clause-answer c = search laws

pub returns-clause-answer : goal.returns-clause-answer
returns-clause-answer c = search laws
