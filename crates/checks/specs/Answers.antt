-- The code's answers, of what the definitions answer. Assumes nothing.
use Rattle.std.specs.Prelude.{◌≡◌, List, ℕ, length, Result, Ok, Err}
use Rattle.std.proofs.Math.Option.{Option, none, some}
use Rattle.format.specs.Read.{Answer, accepted, refused}
use Rattle.format.specs.Lent.{Writing, written, output_after}
use Rattle.wire.specs.Codes.{because}
use Rattle.wire.specs.declared.refusals.Refusal.{Refusal}

-- what tests find: every one passes, or the first refusal that applies
abbrev pub Checked : Type 0
Checked = Result (Unit {0}) Refusal

abbrev pub checked : Option ℕ → Checked
checked none = Ok tt
checked (some k) = Err (because k 0)

-- the length of the image that a writer wrote, or the refusal, with the output as it was; before there is an output, what it would answer to
-- one that is long enough
abbrev pub write_answer_of : Answer (Unit {0}) → Result ℕ Refusal
write_answer_of (accepted u n) = Ok n
write_answer_of (refused k p) = Err (because k p)

-- of one that reads first, and gives its image
abbrev pub written_as : Answer (List ℕ) → Result ℕ Refusal
written_as (accepted image t) = Ok (length image)
written_as (refused k p) = Err (because k p)

-- and of its image what is written: it is written whole
abbrev pub whole : List ℕ → List ℕ
whole image = image

-- the contract of every writer: what it answers, and what the output holds afterwards
pub record Writes (w : Writing) (before after : List ℕ) (r : Result ℕ Refusal) : Type 0 where
  pub answer : r ≡ write_answer_of (written w before)
  pub output : after ≡ output_after w before
