use Rattle.std.proofs.Common.{rules}
use Rattle.frames.proofs.FrameLaws.{regular_no_iv, regular_no_content, regular_whole}
use Rattle.frames.proofs.frame.regular_frame.Goals as goal

ruleset laws = (regular_no_iv, regular_no_content, regular_whole, rules)

pub returns-in_err-content : goal.returns-in_err-content
returns-in_err-content c = search laws

pub returns-in_err-next : goal.returns-in_err-next
returns-in_err-next c = search laws

pub returns : goal.returns
returns c = search laws
