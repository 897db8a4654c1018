-- The frame reader: what it accepts, and what it then gives. It is proved in proofs/FrameLaws. Assumes nothing.
use Rattle.std.specs.Prelude.{◌≡◌, List, [], ◌∷◌, ◌++◌, map, ℕ, suc, ◌+◌, ◌*◌, ◌≤◌, ◌<◌, length, drop}
use Rattle.format.specs.Read.{Reader, ◌>>=◌, Item, behind, until, run, accepted, operation}
use Rattle.format.specs.Serialize.{Bytes, images, write_uint32}
use Rattle.format.specs.Shared.{iv_length, tag_length}
use Rattle.format.specs.Frames.{Frame, FrameAt, frame_of, frame_places, final_mark, write_frames, read_next_frame, read_frames_into}
use Rattle.format.specs.Demand3.{Held, Each}

-- A run has no bound but the bytes: it goes from item to item with none in sight, and every bound above the number of bytes left gives
-- the same.
pub record Unbounded {A : Type 0} (step : List A → Reader (Item A)) : Type 0 where
  pub unrolled : (acc : List A) (l : List ℕ) (s : ℕ) → run step acc l s ≡ (step acc >>= behind (run step) acc) l s
  pub any_bound : (n : ℕ) (acc : List A) (l : List ℕ) (s : ℕ) → length l < n → until n step acc l s ≡ run step acc l s

-- a frame's IV and tag have their lengths
pub record Sealed (f : Frame) : Type 0 where
  pub iv : length f.iv ≡ iv_length
  pub tag : length f.tag ≡ tag_length

-- Frames of a frame length: the content of each is exactly that long, but that of the last one, the final frame, may be shorter, or empty.
abbrev pub FramesOf : ℕ → List Frame → Type 0
FramesOf frame [] = ⊥
FramesOf frame (f ∷ []) = Sealed f × (length f.content ≤ frame)
FramesOf frame (f ∷ g ∷ fs) = Sealed f × (length f.content ≡ frame) × FramesOf frame (g ∷ fs)

-- from s on, the message begins with frames of that frame length, which is not 0, as they are written; the table holds them
pub record FramesStand (frame room : ℕ) (m : List ℕ) (s : ℕ) (fs : List Frame) : Type 0 where
  pub some_length : 0 < frame
  pub frames : FramesOf frame fs
  pub after : List ℕ
  pub bytes : drop s m ≡ write_frames fs ++ after
  pub held : 6 * length fs ≤ room

-- Just those are accepted. It gives their IVs, contents and tags by their places, where those bytes stand, and their end as the tail.
pub record FramesLaw (frame room : ℕ) (m : List ℕ) (s : ℕ) : Type 0 where
  pub only : (fs : List FrameAt) (t : ℕ) → operation (read_frames_into frame room) m s ≡ accepted fs t
      → FramesStand frame room m s (map frame_of fs) × (t ≡ s + length (write_frames (map frame_of fs))) × Each (Held m) (images frame_places fs)
  pub all : length m ≤ 4294967295 → (fs : List Frame) → FramesStand frame room m s fs
      → (places : List FrameAt) × (operation (read_frames_into frame room) m s ≡ accepted places (s + length (write_frames fs))) × (map frame_of places ≡ fs)
      × Each (Held m) (images frame_places places)
  -- n regular frames and a final one take so many bytes at least: what a table has to hold is known beforehand
  pub how_many : (fs : List FrameAt) (t : ℕ) → operation (read_frames_into frame room) m s ≡ accepted fs t → (n : ℕ) → length fs ≡ suc n → s + (n * (32 + frame) + 40) ≤ t

pub record FrameLaws : Type 0 where
  -- the mark, byte by byte: reader and writer have it alike
  pub mark : write_uint32 final_mark ≡ (0xFF ∷ 0xFF ∷ 0xFF ∷ 0xFF ∷ [])
  pub unbounded : (frame : ℕ) → Unbounded (read_next_frame frame)
  pub frames : (frame room : ℕ) (m : List ℕ) (s : ℕ) → Bytes m → FramesLaw frame room m s
