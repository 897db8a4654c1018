use Rattle.std.proofs.Common.{rules}
use Rattle.wire.proofs.Exits.{exits}
use Rattle.checks.proofs.Writers.{writes_error, sized_refuses, sized_28, sized_all}
use Rattle.frames_write.proofs.Lengths.{sized_ready, image_stored}
use Rattle.frames_write.proofs.write_frames.Goals as goal

ruleset laws = (exits, writes_error, sized_refuses, sized_28, sized_ready, sized_all, image_stored, rules)

pub returns-then-out-size : goal.returns-then-out-size
returns-then-out-size c = search laws

pub put_frames-requires : goal.put_frames-requires
put_frames-requires c = search laws

pub returns-in_err-size : goal.returns-in_err-size
returns-in_err-size c = search laws

pub returns : goal.returns
returns c = search laws
