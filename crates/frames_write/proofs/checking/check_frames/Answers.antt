use Rattle.std.proofs.Common.{rules}
use Rattle.checks.proofs.Stages.{check_eq, pass_eq, check_ne, pass_ne, check_stop, check_pass, check_le, pass_le}
use Rattle.frames_write.proofs.Lengths.{frames_checked}
use Rattle.frames_write.proofs.checking.check_frames.Goals as goal

ruleset laws = (frames_checked, check_ne, pass_ne, check_eq, pass_eq, check_stop, check_pass, check_le, pass_le, rules)

pub returns-then-frame-eq0 : goal.returns-then-frame-eq0
returns-then-frame-eq0 c = search laws depth 8 fits 4000

pub returns-then-table-ne0 : goal.returns-then-table-ne0
returns-then-table-ne0 c = search laws depth 8 fits 4000

pub returns-then-table-eq0 : goal.returns-then-table-eq0
returns-then-table-eq0 c = search laws depth 8 fits 4000

pub returns-then-table-gt65535 : goal.returns-then-table-gt65535
returns-then-table-gt65535 c = search laws depth 8 fits 4000

pub returns-then-not-all_in_text : goal.returns-then-not-all_in_text
returns-then-not-all_in_text c = search laws depth 8 fits 4000

pub returns : goal.returns
returns c = search laws depth 8 fits 4000
