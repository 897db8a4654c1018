-- Frames, of the code: what every call of `read_frames` answers and leaves in its table, by its contract. Proved in proofs/Frames.
-- Assumes nothing.
use Rattle.std.specs.Prelude.{ℕ, suc, ◌+◌, ◌*◌, ◌≤◌, ◌≡◌, List, length, drop, Result, Ok, Err}
use Rattle.format.specs.Read.{operation}
use Rattle.format.specs.Serialize.{Bytes}
use Rattle.format.specs.Frames.{Frame, write_frames, read_frames_into}
use Rattle.format.specs.FrameLaws.{FramesStand}
use Rattle.format.specs.Lent.{frame_numbers, items, frame_in}
use Rattle.wire.specs.declared.refusals.Refusal.{Refusal}
use Rattle.wire.specs.declared.SuccessfulRead.{SuccessfulRead}
use Rattle.entries.specs.Codes.{Reads, counted}

-- a call: what is lent, the frame length, the table before and after it, and its answer
pub record Call : Type 0 where
  pub message : List ℕ
  pub start : ℕ
  pub frame : ℕ
  pub before : List ℕ
  pub after : List ℕ
  pub answer : Result (SuccessfulRead ℕ) Refusal

-- the call meets the contract
abbrev pub Meets : Call → Type 0
Meets c = Reads counted frame_numbers (operation (read_frames_into c.frame (length c.before)) c.message c.start) c.before c.after c.answer

-- the frames stand at the call's start, and its table has room for them
abbrev pub StandThere : Call → List Frame → Type 0
StandThere c fs = FramesStand c.frame (length c.before) c.message c.start fs

-- the call gives the frames: how many, where they end, and by its table the bytes of each; the numbers behind theirs are as they were
pub record GivesFrames (c : Call) (fs : List Frame) : Type 0 where
  pub answer : c.answer ≡ Ok (record { value = length fs; tail = c.start + length (write_frames fs) })
  pub frames : items (frame_in c.message c.after) 6 (length fs) 0 ≡ fs
  pub beyond : drop (6 * length fs) c.after ≡ drop (6 * length fs) c.before

pub record Promise (c : Call) : Type 0 where
  -- what it accepts are frames as they are written, and it gives those
  pub only : (n t : ℕ) → c.answer ≡ Ok (record { value = n; tail = t }) → (fs : List Frame) × StandThere c fs × GivesFrames c fs
  -- and it accepts all of them
  pub all : length c.message ≤ 4294967295 → (fs : List Frame) → StandThere c fs → GivesFrames c fs
  -- a table with room for as many regular frames as the message could have, and one frame more, is long enough: n regular frames and
  -- a final one take so many bytes
  pub how_many : (n t : ℕ) → c.answer ≡ Ok (record { value = suc n; tail = t }) → c.start + (n * (32 + c.frame) + 40) ≤ t
  -- a refusal leaves the table as it was
  pub keeps : (q : Refusal) → c.answer ≡ Err q → c.after ≡ c.before

-- the message's elements are bytes, as its type says
pub record FramesPromises : Type 0 where
  pub every_call : (c : Call) → Bytes c.message → Meets c → Promise c
