-- The frame that the code has the parts of. Assumes nothing.
use Rattle.format.specs.Frames as format
use Rattle.frames_write.specs.declared.storing.Frame.{Frame}

abbrev pub frame_of : Frame → format.Frame
frame_of f = record { iv = f.iv.now; content = f.content.now; tag = f.tag.now }
