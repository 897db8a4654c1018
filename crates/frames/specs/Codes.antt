-- The code's answers, of what a reader answers; and what the second pass knows of the frames that were read. Assumes nothing.
use Rattle.std.specs.Prelude.{List, ℕ, zero, suc, ◌*◌, length, ◌≡◌, true, false, leb, eqb, Result}
use Rattle.format.specs.Read.{Reader, ◌>>=◌, ◌>>◌, return, test, Item, followed, last, item, Answer, at}
use Rattle.format.specs.Serialize.{Part, read, images}
use Rattle.format.specs.Frames.{FrameAt, frame_places, read_sealed, read_frame_of, read_frames}
use Rattle.format.specs.Lent.{place}
use Rattle.format.specs.Places.{final_here, frame_here, frame_end}
use Rattle.wire.specs.Codes.{read_of}
use Rattle.wire.specs.declared.refusals.Refusal.{Refusal}
use Rattle.wire.specs.declared.SuccessfulRead.{SuccessfulRead}
use Rattle.entries.specs.Codes.{next_of}
use Rattle.frames.specs.declared.Kind.{Kind}
use Rattle.frames.specs.declared.Kind.TheVariants.{Regular, Final}

abbrev pub kind_of : Item FrameAt → Kind
kind_of (followed f) = Regular
kind_of (last f) = Final

abbrev pub frame_read_of : Answer (Item FrameAt) → Result (SuccessfulRead Kind) Refusal
frame_read_of = read_of kind_of

-- the IV behind a sequence number: 34 where that is not the one due
abbrev pub read_iv : ℕ → ℕ → Reader Part
read_iv number due = do
  test 34 (eqb number due)
  read 12

-- the place behind n bytes of content and a tag, whatever IV stands before them
pub record PassesSealed (n : ℕ) (m : List ℕ) (s : ℕ) (r : Result ℕ Refusal) : Type 0 where
  pub passes : (iv : Part) → r ≡ next_of (at (read_sealed iv n) m s)

-- a final frame, whatever number its mark is
pub record ReadsFinal (frame due : ℕ) (m : List ℕ) (s : ℕ) (r : Result (SuccessfulRead Kind) Refusal) : Type 0 where
  pub reads : (mark : ℕ) → r ≡ frame_read_of (at (read_frame_of frame due true mark) m s)

-- the frames with their table, behind the test of the frame length
abbrev pub frames_tabled : ℕ → ℕ → Reader (List FrameAt)
frames_tabled frame room = do
  fs ← read_frames frame
  test 23 (leb (6 * length fs) room)
  return fs

-- what stands at a place, of whatever kind, and its six numbers
abbrev pub parts_here : ℕ → List ℕ → ℕ → FrameAt
parts_here frame m s = item (frame_here frame m s)

abbrev pub part_numbers : FrameAt → List ℕ
part_numbers f = images place (frame_places f)

-- of n frames from s on the last one is final, and no other
abbrev pub Kinds : ℕ → List ℕ → ℕ → ℕ → Type 0
Kinds frame m zero s = Unit {0}
Kinds frame m (suc zero) s = final_here m s ≡ true
Kinds frame m (suc (suc n)) s = (final_here m s ≡ false) × Kinds frame m (suc n) (frame_end frame m s)
