use Rattle.std.proofs.Common.{rules}
use Rattle.frames.proofs.FrameLaws.{frame_none, frame_final, frame_regular}
use Rattle.frames.proofs.frame.read_frame.Goals as goal

ruleset laws = (frame_none, frame_final, frame_regular, rules)

pub returns-in_err-number : goal.returns-in_err-number
returns-in_err-number c = search laws

pub returns-then-number-eq-FINAL_MARK : goal.returns-then-number-eq-FINAL_MARK
returns-then-number-eq-FINAL_MARK c = search laws

pub returns : goal.returns
returns c = search laws
