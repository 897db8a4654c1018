-- Frames worked out by hand: where their parts stand, how they are written, from values and from places, and why they are refused. Assumes
-- nothing.
use Rattle.std.specs.Prelude.{◌≡◌, refl, Bool, true, List, [], ◌∷◌, ◌++◌, ℕ, take, drop}
use Rattle.format.specs.Read.{until, run, operation}
use Rattle.format.specs.Serialize.{every, same_bytes}
use Rattle.format.specs.Frames.{Frame, write_regular_frame, write_final_frame, write_frames_from, write_frames, read_sealed, read_frame_of, read_frame, read_frames, read_frames_into}
use Rattle.format.specs.Auth.{zeros}
use Rattle.format.specs.Checks.{content_checks, frames_checks}
use Rattle.format.specs.Lent.{frame_numbers, items, part_in, in_text, table_checks, refusal_of, size_of, output_after, writing_frames}
use Rattle.cases.specs.Cases.{Expected, accepts, refuses, shortage_at, is, opened, laid_out}
use Rattle.cases.specs.Headers.{bytes_from}

pub data FrameCase : Type 0 where
  -- a frame length, a table of so many numbers, a message at a start
  reads : ℕ → ℕ → List ℕ → ℕ → Expected → FrameCase
  -- frames, and their image
  writes : List Frame → List ℕ → FrameCase
  -- a frame length, a text and a table: what is told, and the output of a write before and after
  tells : ℕ → List ℕ → List ℕ → Expected → FrameCase
  leaves : ℕ → List ℕ → List ℕ → List ℕ → List ℕ → FrameCase

unfoldable pub framed : FrameCase → Bool
framed (reads frame room m s want) = is frame_numbers (operation (read_frames_into frame room) m s) want
framed (writes fs bytes) = same_bytes (write_frames fs) bytes
framed (tells frame text table want) = is (λ u. []) (size_of (writing_frames frame text table)) want
framed (leaves frame text table before after) = same_bytes (output_after (writing_frames frame text table) before) after

-- an IV of 12 bytes and a tag of 16
unfoldable pub iv : List ℕ
iv = take 12 (bytes_from 0x1F)

unfoldable pub tag : List ℕ
tag = take 16 (bytes_from 0x7A)

-- a regular frame of 2 bytes, which takes 34, with any number; a final one takes 40 and its content
unfoldable pub regular : ℕ → List ℕ
regular number = (0x00 ∷ 0x00 ∷ 0x00 ∷ number ∷ []) ++ (iv ++ (0x61 ∷ 0x62 ∷ tag))

unfoldable pub final : ℕ → ℕ → List ℕ → List ℕ
final number n content = (0xFF ∷ 0xFF ∷ 0xFF ∷ 0xFF ∷ 0x00 ∷ 0x00 ∷ 0x00 ∷ number ∷ []) ++ (iv ++ ((0x00 ∷ 0x00 ∷ 0x00 ∷ n ∷ []) ++ (content ++ tag)))

-- two frames of frame length 2, of which the final one has 1 byte: they take 75
unfoldable pub two : List ℕ
two = regular 1 ++ final 2 1 (0x63 ∷ [])

-- where their parts stand
unfoldable pub two_places : List ℕ
two_places = 4 ∷ 12 ∷ 16 ∷ 2 ∷ 18 ∷ 16 ∷ 42 ∷ 12 ∷ 58 ∷ 1 ∷ 59 ∷ 16 ∷ []

abbrev frame : List ℕ → Frame
frame content = record { iv = iv; content = content; tag = tag }

unfoldable pub frames : List FrameCase
frames =
    reads 2 12 two 0 (accepts 75 two_places)
    ∷ writes (frame (0x61 ∷ 0x62 ∷ []) ∷ frame (0x63 ∷ []) ∷ []) two
    -- behind other bytes, and before more
    ∷ reads 2 12 (0x00 ∷ 0x00 ∷ 0x00 ∷ two ++ (0x01 ∷ [])) 3 (accepts 78 (7 ∷ 12 ∷ 19 ∷ 2 ∷ 21 ∷ 16 ∷ 45 ∷ 12 ∷ 61 ∷ 1 ∷ 62 ∷ 16 ∷ []))
    -- the final frame alone: empty, and full
    ∷ reads 2 6 (final 1 0 []) 0 (accepts 40 (8 ∷ 12 ∷ 24 ∷ 0 ∷ 24 ∷ 16 ∷ []))
    ∷ writes (frame [] ∷ []) (final 1 0 [])
    ∷ reads 2 6 (final 1 2 (0x61 ∷ 0x62 ∷ [])) 0 (accepts 42 (8 ∷ 12 ∷ 24 ∷ 2 ∷ 26 ∷ 16 ∷ []))
    -- three
    ∷ reads 2 18 (regular 1 ++ (regular 2 ++ final 3 0 [])) 0 (accepts 108 (4 ∷ 12 ∷ 16 ∷ 2 ∷ 18 ∷ 16 ∷ 38 ∷ 12 ∷ 50 ∷ 2 ∷ 52 ∷ 16 ∷ 76 ∷ 12 ∷ 92 ∷ 0 ∷ 92 ∷ 16 ∷ []))
    ∷ writes (frame (0x61 ∷ 0x62 ∷ []) ∷ frame (0x61 ∷ 0x62 ∷ []) ∷ frame [] ∷ []) (regular 1 ++ (regular 2 ++ final 3 0 []))
    -- numbers from 0, from 2, repeated, left out; of the final frame too
    ∷ reads 2 12 (regular 0 ++ final 1 0 []) 0 (refuses 34 0)
    ∷ reads 2 12 (regular 2 ++ final 3 0 []) 0 (refuses 34 0)
    ∷ reads 2 12 (regular 1 ++ (regular 1 ++ final 2 0 [])) 0 (refuses 34 0)
    ∷ reads 2 12 (regular 1 ++ (regular 3 ++ final 4 0 [])) 0 (refuses 34 0)
    ∷ reads 2 12 (final 0 0 []) 0 (refuses 34 0)
    ∷ reads 2 12 (regular 1 ++ final 1 0 []) 0 (refuses 34 0)
    ∷ reads 2 12 (regular 1 ++ final 3 0 []) 0 (refuses 34 0)
    -- one byte more than the frame length; another frame length
    ∷ reads 2 6 (final 1 3 (0x61 ∷ 0x62 ∷ 0x63 ∷ [])) 0 (refuses 35 0)
    ∷ reads 1 12 two 0 (refuses 34 0)
    -- no final frame
    ∷ reads 2 12 (regular 1 ++ regular 2) 0 (shortage_at 72)
    -- a start beyond the message
    ∷ reads 2 12 two 80 (shortage_at 84)
    -- written back from where they stand: into their own length, into more, and into one byte less
    ∷ tells 2 two two_places (accepts 75 [])
    ∷ leaves 2 two two_places (zeros 75) two
    ∷ leaves 2 two two_places (zeros 77) (two ++ (0x00 ∷ 0x00 ∷ []))
    ∷ leaves 2 two two_places (zeros 74) (zeros 74)
    -- with the two entries the other way round the second is the final frame, whose content may be as long as the first; the first's is too short
    ∷ tells 2 two (drop 6 two_places ++ take 6 two_places) (refuses 37 0)
    ∷ tells 1 two (drop 6 two_places ++ take 6 two_places) (refuses 35 0)
    -- places in any order, and shared: two bytes of the IV are the content, and every frame has the same parts
    ∷ leaves 2 (tag ++ iv) (16 ∷ 12 ∷ 16 ∷ 2 ∷ 0 ∷ 16 ∷ []) (zeros 42) (final 1 2 (0x1F ∷ 0x01 ∷ []))
    ∷ leaves 2 two (take 6 two_places ++ (take 6 two_places ++ (4 ∷ 12 ∷ 75 ∷ 0 ∷ 18 ∷ 16 ∷ []))) (zeros 108) (regular 1 ++ (regular 2 ++ final 3 0 []))
    -- a frame alone is the final one, and its content may be short
    ∷ tells 4294967295 two (take 6 two_places) (accepts 42 [])
    ∷ leaves 3 two (take 6 two_places) (zeros 42) (final 1 2 (0x61 ∷ 0x62 ∷ []))
    ∷ []

-- to unfold this is to unfold all that frames are made of
unfoldable pub of_frames : Unit {0}
unfolding until run read_sealed read_frame_of read_frame read_frames read_frames_into write_regular_frame write_final_frame write_frames_from content_checks frames_checks writing_frames
of_frames = tt

pub frames_hold : every framed frames ≡ true
unfolding opened laid_out of_frames frames framed is two two_places regular final iv tag bytes_from zeros items in_text part_in table_checks refusal_of
frames_hold = refl
