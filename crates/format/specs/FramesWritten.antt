-- The frame writer: what it takes, how much that takes, and both ways between it and the frame reader. Proved in proofs/FramesWritten.
-- Assumes nothing.
use Rattle.std.specs.Prelude.{◌≡◌, List, [], ◌∷◌, ◌++◌, map, ℕ, suc, ◌+◌, ◌*◌, ◌-◌, ◌≤◌, ◌<◌, length, take, drop}
use Rattle.std.proofs.Math.Option.{none}
use Rattle.format.specs.Read.{accepted, refused, operation}
use Rattle.format.specs.Serialize.{Bytes}
use Rattle.format.specs.Frames.{Frame, FrameAt, frame_of, write_frames, read_frames_into}
use Rattle.format.specs.FrameLaws.{FramesOf}
use Rattle.format.specs.Checks.{first, frames_checks, content_length}
use Rattle.format.specs.Lent.{bytes_at, filled, frame_numbers, table_after, frames_in, Writing, written, output_after, writing_frames}
use Rattle.format.specs.Lengths.{JustWhere}

-- at least one frame and at most 65,535, of a frame length that is not 0
pub record FramesToWrite (frame : ℕ) (fs : List Frame) : Type 0 where
  pub some_length : 0 < frame
  pub few : length fs ≤ 65535
  pub frames : FramesOf frame fs

-- the last of these numbers
unfoldable pub last_of : List ℕ → ℕ
last_of [] = 0
last_of (n ∷ []) = n
last_of (n ∷ k ∷ ns) = last_of (k ∷ ns)

-- 'What is written, if it is at most 4,294,967,295 bytes long and the table holds it, reads back, with the same frame length, as the same
-- parts by the frame reader': alone, and from any start of a message that has those bytes there.
pub record ReadsBack (frame : ℕ) (text table out : List ℕ) (n room : ℕ) : Type 0 where
  pub alone : n ≤ 4294967295 → (places : List FrameAt) × (operation (read_frames_into frame room) (take n (output_after (writing_frames frame text table) out)) 0 ≡ accepted places n)
      × (map frame_of places ≡ frames_in text table)
  pub in_a_message : (m : List ℕ) (s : ℕ) (after : List ℕ) → length m ≤ 4294967295 → drop s m ≡ take n (output_after (writing_frames frame text table) out) ++ after
      → (places : List FrameAt) × (operation (read_frames_into frame room) m s ≡ accepted places (s + n)) × (map frame_of places ≡ frames_in text table)

-- the frames that were read from s to t are handed to the writer: the message as the text, and of the table the entries that were filled
abbrev pub frames_again : ℕ → List ℕ → List FrameAt → ℕ → List ℕ → Writing
frames_again frame m fs t table = writing_frames frame m (take (6 * length fs) (table_after frame_numbers (accepted fs t) table))

-- 'A run of at most 65,535 frames that it accepts writes back, with that frame length and into an output long enough, as its bytes from
-- start to tail', whatever the table held before it was filled.
pub record WritesBack (frame : ℕ) (m : List ℕ) (s : ℕ) (fs : List FrameAt) (t : ℕ) : Type 0 where
  pub forward : s ≤ t
  pub within : t ≤ length m
  pub back : length fs ≤ 65535 → (table out : List ℕ) → t - s ≤ length out
      → (written (frames_again frame m fs t table) out ≡ accepted tt (t - s)) × (output_after (frames_again frame m fs t table) out ≡ filled (bytes_at m s (t - s)) out)
  -- and a longer run is refused
  pub too_many : 65535 < length fs → (table out : List ℕ) → written (frames_again frame m fs t table) out ≡ refused 27 0

pub record FramesWritten : Type 0 where
  -- but for 26 and 28, just those are taken
  pub takes : (frame : ℕ) (fs : List Frame) → JustWhere (first (frames_checks frame [] fs) ≡ none) (FramesToWrite frame fs)
  -- n regular frames and the final one take so many bytes
  pub long : (frame : ℕ) (fs : List Frame) → FramesOf frame fs → (n : ℕ) → length fs ≡ suc n → length (write_frames fs) ≡ n * (32 + frame) + (40 + last_of (map content_length fs))
  pub read_back : (frame : ℕ) (text table out : List ℕ) (n : ℕ) → written (writing_frames frame text table) out ≡ accepted tt n
      → (room : ℕ) → 6 * length (frames_in text table) ≤ room → ReadsBack frame text table out n room
  pub written_back : (frame room : ℕ) (m : List ℕ) (s : ℕ) → Bytes m → (fs : List FrameAt) (t : ℕ) → operation (read_frames_into frame room) m s ≡ accepted fs t → WritesBack frame m s fs t
