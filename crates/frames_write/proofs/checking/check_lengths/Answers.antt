use Rattle.std.proofs.Common.{rules}
use Rattle.wire.proofs.Exits.{exits}
use Rattle.frames_write.proofs.Contents.{lengths_fail, lengths_pass}
use Rattle.frames_write.proofs.checking.check_lengths.Goals as goal

ruleset laws = (exits, lengths_fail, lengths_pass, rules)

pub returns-in_err-check_each_frame : goal.returns-in_err-check_each_frame
returns-in_err-check_each_frame c = search laws

pub returns : goal.returns
returns c = search laws
