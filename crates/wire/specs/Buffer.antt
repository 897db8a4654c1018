-- What is read from a buffer, and how one is opened. Assumes nothing.
use Rattle.std.specs.Prelude.{◌≡◌, true, false, List, ℕ, Result, Ok, Err}
use Rattle.std.specs.Borrow.{Bor}
use Rattle.format.specs.Read.{Reader, Answer, at, addressable}
use Rattle.wire.specs.Codes.{because}
use Rattle.wire.specs.declared.refusals.Refusal.{Refusal}
use Rattle.wire.specs.declared.buffer.ReadableBuffer.{ReadableBuffer}

-- a reader, run on a buffer
abbrev pub from : {A : Type 0} → Reader A → ReadableBuffer → Answer A
from r b = at r b.bytes.now b.start

-- refusal 1 comes before anything is read: the message and the start, or that refusal
abbrev pub Opens : Bor (List ℕ) → ℕ → Result ReadableBuffer Refusal → Type 0
Opens m s (Ok b) = (b.bytes ≡ m) × (b.start ≡ s) × (addressable m.now s ≡ true)
Opens m s (Err q) = (q ≡ because 1 0) × (addressable m.now s ≡ false)

-- c is the same message as b's, read from another place on
pub record IsAt (b : ReadableBuffer) (place : ℕ) (c : ReadableBuffer) : Type 0 where
  pub message : c.bytes ≡ b.bytes
  pub start : c.start ≡ place
