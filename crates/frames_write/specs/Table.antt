-- Frames to be written, in the numbers of their table; and what their stores ask. Assumes nothing.
use Rattle.std.specs.Prelude.{◌≡◌, true, List, [], ◌++◌, ℕ, ◌+◌, ◌*◌, ◌-◌, ◌/◌, ◌≤◌, ◌<◌, length, get_or}
use Rattle.format.specs.Serialize.{every}
use Rattle.format.specs.Frames.{write_frames}
use Rattle.format.specs.Checks.{Check, each, sealed_checks, content_checks}
use Rattle.format.specs.Lent.{items, here, places, in_text, frames_in}
use Rattle.format.specs.FramesWritten.{last_of}
use Rattle.checks.specs.Table.{Within}

-- 19 and 30 of the frame at a place of the table
abbrev pub sealed_at : List ℕ → List ℕ → ℕ → List Check
sealed_at table done at = sealed_checks (get_or table (at + 1) 0) (get_or table (at + 5) 0)

-- the lengths of the contents
abbrev pub content_at : List ℕ → ℕ → ℕ
content_at table at = get_or table (at + 3) 0

abbrev pub contents_in : List ℕ → List ℕ
contents_in table = items (content_at table) 6 (length table / 6) 0

-- behind 27
abbrev pub lengths_checks : ℕ → List ℕ → List Check
lengths_checks frame table = each (sealed_at table) [] (items here 6 (length table / 6) 0) ++ content_checks frame (contents_in table)

-- regular frames and the final one
unfoldable pub frames_size : ℕ → List ℕ → ℕ
frames_size frame table = (length table / 6 - 1) * (32 + frame) + (40 + last_of (contents_in table))

-- the frame at a place of the table is there: its six numbers, and its bytes
pub record FrameThere (text table : List ℕ) (at : ℕ) : Type 0 where
  pub iv : Within text table at
  pub content : Within text table (at + 2)
  pub tag : Within text table (at + 2 + 2)

-- one frame or more, few enough for their numbers, whose places lie in the text and whose image fits
pub record FramesReady (text table : List ℕ) (room : ℕ) : Type 0 where
  pub inside : every (in_text text table) (places table) ≡ true
  pub some : 0 < length table / 6
  pub few : length table / 6 ≤ 65535
  pub fits : length (write_frames (frames_in text table)) ≤ room
