-- The frames behind a header, read and written: the specification's message-body page, as document 02 restates it. Assumes nothing.
use Rattle.std.specs.Prelude.{Bool, true, false, not, List, [], ◌∷◌, ◌++◌, ℕ, suc, ◌*◌, leb, eqb, length}
use Rattle.format.specs.Read.{Reader, ◌>>=◌, ◌>>◌, return, test, Item, followed, last, run}
use Rattle.format.specs.Serialize.{Part, read, read_uint32, write_uint32}
use Rattle.format.specs.Shared.{iv_length, tag_length}

-- a frame by value, as a writer has it, and by place, as the reader gives it
pub record Frame : Type 0 where
  pub iv : List ℕ
  pub content : List ℕ
  pub tag : List ℕ

pub record FrameAt : Type 0 where
  pub iv : Part
  pub content : Part
  pub tag : Part

abbrev pub frame_of : FrameAt → Frame
frame_of f = record { iv = f.iv.bytes; content = f.content.bytes; tag = f.tag.bytes }

-- a frame's three places, in order
abbrev pub frame_places : FrameAt → List Part
frame_places f = f.iv ∷ f.content ∷ f.tag ∷ []

-- FF FF FF FF, which stands before the sequence number of the final frame: no regular frame has it as its number
abbrev pub final_mark : ℕ
final_mark = 4294967295

-- sequence numbers run from 1 by one: that of the frame behind these
abbrev pub next_number : {A : Type 0} → List A → ℕ
next_number done = suc (length done)

-- WRITTEN. A regular frame with its sequence number
unfoldable pub write_regular_frame : ℕ → Frame → List ℕ
write_regular_frame number f = write_uint32 number ++ (f.iv ++ (f.content ++ f.tag))

-- and the final one, which has its content's length as well
unfoldable pub write_final_frame : ℕ → Frame → List ℕ
write_final_frame number f =
    write_uint32 final_mark ++ (write_uint32 number ++ (f.iv ++ (write_uint32 (length f.content) ++ (f.content ++ f.tag))))

-- frames from that sequence number on, of which the last is the final one
unfoldable pub write_frames_from : ℕ → List Frame → List ℕ
write_frames_from number [] = []
write_frames_from number (f ∷ []) = write_final_frame number f
write_frames_from number (f ∷ g ∷ fs) = write_regular_frame number f ++ write_frames_from (suc number) (g ∷ fs)

abbrev pub write_frames : List Frame → List ℕ
write_frames fs = write_frames_from 1 fs

-- READ. Throughout, `frame` is the frame length, and `due` the sequence number that is due. Behind an IV: content of n bytes, and the tag
unfoldable pub read_sealed : Part → ℕ → Reader FrameAt
read_sealed iv n = do
  content ← read n
  tag ← read tag_length
  return (record { iv = iv; content = content; tag = tag })

-- behind a frame's first number; true: that was the final mark
unfoldable pub read_frame_of : ℕ → ℕ → Bool → ℕ → Reader (Item FrameAt)
read_frame_of frame due true mark = do
  number ← read_uint32
  test 34 (eqb number due)
  iv ← read iv_length
  n ← read_uint32
  test 35 (leb n frame)
  f ← read_sealed iv n
  return (last f)
read_frame_of frame due false number = do
  test 34 (eqb number due)
  iv ← read iv_length
  f ← read_sealed iv frame
  return (followed f)

-- a frame of a frame length, where that sequence number is due
unfoldable pub read_frame : ℕ → ℕ → Reader (Item FrameAt)
read_frame frame due = do
  number ← read_uint32
  read_frame_of frame due (eqb number final_mark) number

-- the frame behind these
abbrev pub read_next_frame : ℕ → List FrameAt → Reader (Item FrameAt)
read_next_frame frame done = read_frame frame (next_number done)

-- the frames up to the final one
unfoldable pub read_frames : ℕ → Reader (List FrameAt)
read_frames frame = run (read_next_frame frame) []

-- the operation, with a table of that many numbers: the frame length is tested before anything is read, and the table last
unfoldable pub read_frames_into : ℕ → ℕ → Reader (List FrameAt)
read_frames_into frame room = do
  test 20 (not (eqb frame 0))
  fs ← read_frames frame
  test 23 (leb (6 * length fs) room)
  return fs
