-- The code's answers, of what a reader answers; and the contract of a reader with a lent table. Assumes nothing.
use Rattle.std.specs.Prelude.{◌≡◌, List, ℕ, ◌+◌, ◌≤◌, ◌<◌, length, Result, Ok, Err}
use Rattle.format.specs.Read.{Answer, accepted, refused}
use Rattle.format.specs.Lent.{table_after}
use Rattle.format.specs.Places.{number16, entry_end}
use Rattle.wire.specs.Codes.{because, read_of}
use Rattle.wire.specs.declared.SuccessfulRead.{SuccessfulRead}
use Rattle.wire.specs.declared.refusals.Refusal.{Refusal}
use Rattle.wire.specs.declared.Span.{Span}

-- the place behind what was read
abbrev pub next_of : {A : Type 0} → Answer A → Result ℕ Refusal
next_of (accepted a t) = Ok t
next_of (refused k p) = Err (because k p)

-- how many items were read, and the tail
abbrev pub counted : {A : Type 0} → Answer (List A) → Result (SuccessfulRead ℕ) Refusal
counted = read_of length

-- e is the entry that stands at s, and it lies within the message
pub record EntryIs (m : List ℕ) (s : ℕ) (e : Span) : Type 0 where
  pub starts : e.start ≡ s + 2
  pub size : e.len ≡ number16 m s
  pub short : e.len < 65536
  pub ends : e.tail ≡ entry_end m s
  pub within : e.start + e.len ≤ length m

-- the answer is the definition's, and so is the table afterwards, with the numbers of what was read
pub record Reads {A R : Type 0} (code : Answer A → R) (numbers : A → List ℕ) (o : Answer A) (before after : List ℕ) (r : R) : Type 0 where
  pub answer : r ≡ code o
  pub table : after ≡ table_after numbers o before
