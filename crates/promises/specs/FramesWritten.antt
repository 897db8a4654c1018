-- Frames written, of the code: what a call of `write_frames` leaves, calls of `read_frames` give back, and the other way round, by both
-- contracts. Proved in proofs/FramesWritten. Assumes nothing.
use Rattle.std.specs.Prelude.{ℕ, ◌+◌, ◌*◌, ◌-◌, ◌≤◌, ◌<◌, ◌≡◌, List, ◌++◌, length, take, drop, Result, Ok, Err}
use Rattle.format.specs.Serialize.{Bytes}
use Rattle.format.specs.Frames.{Frame}
use Rattle.format.specs.Lent.{bytes_at, filled, frames_in, writing_frames}
use Rattle.wire.specs.Codes.{because}
use Rattle.wire.specs.declared.refusals.Refusal.{Refusal}
use Rattle.checks.specs.Answers.{Writes}
use Rattle.promises.specs.Writer.{ByChecks}
use Rattle.promises.specs.Frames.{Call, Meets, GivesFrames}

-- a call: the frame length, what is lent, the output before and after it, and its answer
pub record Write : Type 0 where
  pub frame : ℕ
  pub text : List ℕ
  pub table : List ℕ
  pub before : List ℕ
  pub after : List ℕ
  pub answer : Result ℕ Refusal

-- the call meets the contract
abbrev pub MeetsWriter : Write → Type 0
MeetsWriter w = Writes (writing_frames w.frame w.text w.table) w.before w.after w.answer

-- the frames that it is to write
abbrev pub frames : Write → List Frame
frames w = frames_in w.text w.table

-- The reader is lent, from its start on, the n bytes that were written, in a message of at most 4,294,967,295 bytes and with the same frame
-- length, and its table holds the frames.
pub record Lends (w : Write) (n : ℕ) (c : Call) : Type 0 where
  pub frame : c.frame ≡ w.frame
  pub fits : length c.message ≤ 4294967295
  pub behind : List ℕ
  pub bytes : drop c.start c.message ≡ take n w.after ++ behind
  pub room : 6 * length (frames w) ≤ length c.before

-- The writer is handed what the reader gave: the message as its text, of the table the entries that were filled, and the same frame length.
pub record Hands (c : Call) (n : ℕ) (w : Write) : Type 0 where
  pub frame : w.frame ≡ c.frame
  pub text : w.text ≡ c.message
  pub table : w.table ≡ take (6 * n) c.after

pub record FramesWrittenPromises : Type 0 where
  pub checked : (w : Write) → MeetsWriter w → ByChecks (writing_frames w.frame w.text w.table) w.before w.after w.answer
  -- what is written reads back as the same parts, and ends where it was written to
  pub read_back : (w : Write) → MeetsWriter w → (n : ℕ) → w.answer ≡ Ok n → (c : Call) → Bytes c.message → Meets c → Lends w n c
      → GivesFrames c (frames w) × (c.answer ≡ Ok (record { value = length (frames w); tail = c.start + n }))
  -- a run of at most 65,535 frames writes back as its bytes from start to tail; the rest of the output keeps
  pub written_back : (c : Call) → Bytes c.message → Meets c → (n t : ℕ) → c.answer ≡ Ok (record { value = n; tail = t }) → (w : Write) → MeetsWriter w → Hands c n w
      → n ≤ 65535 → t - c.start ≤ length w.before
      → (w.answer ≡ Ok (t - c.start)) × (w.after ≡ filled (bytes_at c.message c.start (t - c.start)) w.before)
  -- and a longer one is refused
  pub too_many : (c : Call) → Bytes c.message → Meets c → (n t : ℕ) → c.answer ≡ Ok (record { value = n; tail = t }) → (w : Write) → MeetsWriter w → Hands c n w
      → 65535 < n → (w.answer ≡ Err (because 27 0)) × (w.after ≡ w.before)
