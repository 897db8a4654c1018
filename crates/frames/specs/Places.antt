-- The places of a frame, as the code has them. Assumes nothing.
use Rattle.std.specs.Prelude.{List, [], ◌∷◌, ℕ, ◌+◌, ◌≡◌}
use Rattle.format.specs.Places.{frame_end}
use Rattle.frames.specs.Codes.{parts_here, part_numbers}
use Rattle.frames.specs.declared.filling.FramePlaces.{FramePlaces}

-- its six numbers
abbrev pub numbers_of : FramePlaces → List ℕ
numbers_of f = f.iv ∷ 12 ∷ f.content ∷ f.len ∷ (f.content + f.len) ∷ 16 ∷ []

-- they are of the frame that stands at s
pub record FrameIs (frame : ℕ) (m : List ℕ) (s : ℕ) (f : FramePlaces) : Type 0 where
  pub numbers : part_numbers (parts_here frame m s) ≡ numbers_of f
  pub ends : f.content + f.len + 16 ≡ frame_end frame m s
