-- Frames are steady. Assumes nothing.
use mathlib.Core.Bool.{Bool, true, false}
use mathlib.Core.List.{[]}
use Prim.Native.Nat.{ℕ}
use Rattle.format.specs.Serialize.{Part}
use Rattle.format.specs.Frames.{read_sealed, read_frame_of, read_frame, read_frames, read_frames_into}
use Rattle.format.proofs.Frames.{frames_unbounded}
use Rattle.format.proofs.SteadyLaws.{Steady, run_steady, steady}

pub sealed_steady : (iv : Part) (n : ℕ) → Steady (read_sealed iv n)
unfolding read_sealed
sealed_steady iv n = search steady depth 20

frame_of_steady : (frame due : ℕ) (final : Bool) (number : ℕ) → Steady (read_frame_of frame due final number)
unfolding read_frame_of
frame_of_steady frame due true number = search (steady, sealed_steady) depth 20
frame_of_steady frame due false number = search (steady, sealed_steady) depth 20

pub frame_steady : (frame due : ℕ) → Steady (read_frame frame due)
unfolding read_frame
frame_steady frame due = search (steady, frame_of_steady) depth 20

pub frames_steady : (frame : ℕ) → Steady (read_frames frame)
unfolding read_frames
frames_steady frame = run_steady (λ done. frame_steady frame _) (frames_unbounded frame) []

pub frames_into_steady : (frame room : ℕ) → Steady (read_frames_into frame room)
unfolding read_frames_into
frames_into_steady frame room = search (steady, frames_steady) depth 20
