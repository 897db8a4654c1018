-- What a call answers and leaves, of what the definitions answer. Assumes nothing.
use Rattle.std.specs.Prelude.{ℕ, ◌≡◌, List, cond, leb, length, Result, Ok, Err}
use Rattle.format.specs.Read.{Answer, accepted, refused}
use Rattle.format.specs.Serialize.{Part}
use Rattle.format.specs.Fields.{HeaderBody as BodyRead}
use Rattle.format.specs.Lent.{pair_table_after, key_table_after, filled, Writing, written, output_after}
use Rattle.wire.specs.Codes.{because}
use Rattle.wire.specs.declared.refusals.Refusal.{Refusal}
use Rattle.crossing.specs.declared.BafirolenBody.{BafirolenBody}
use Rattle.crossing.specs.declared.BafirolenWritten.{BafirolenWritten}
use Rattle.crossing.specs.Records.{body_record, wrote, written_record}

-- the contract of the body reader: what it answers, and what both tables hold afterwards
pub record ReadsBody (o : Answer BodyRead) (pairs pairs' keys keys' : List ℕ) (r : BafirolenBody) : Type 0 where
  pub answer : r ≡ body_record o
  pub pairTable : pairs' ≡ pair_table_after o pairs
  pub keyTable : keys' ≡ key_table_after o keys

-- a header's number and its position
abbrev pub answer_number : Answer BodyRead → ℕ
answer_number (accepted b t) = 0
answer_number (refused k p) = k

abbrev pub answer_position : Answer BodyRead → ℕ
answer_position (accepted b t) = t
answer_position (refused k p) = p

-- a value that is copied; 28 where the output is too short for it
abbrev pub copied_record : Answer Part → List ℕ → BafirolenWritten
copied_record (accepted v t) out = cond (leb (length v.bytes) (length out)) (wrote 0 0 (length v.bytes)) (wrote 28 0 0)
copied_record (refused k p) out = wrote k p 0

abbrev pub copied_output : Answer Part → List ℕ → List ℕ
copied_output (accepted v t) out = cond (leb (length v.bytes) (length out)) (filled v.bytes out) out
copied_output (refused k p) out = out

-- and as the code has it
abbrev pub copied_of : Answer Part → List ℕ → Result ℕ Refusal
copied_of (accepted v t) out = cond (leb (length v.bytes) (length out)) (Ok (length v.bytes)) (Err (because 28 0))
copied_of (refused k p) out = Err (because k p)

pub record CopiesValue (o : Answer Part) (before after : List ℕ) (r : Result ℕ Refusal) : Type 0 where
  pub answer : r ≡ copied_of o before
  pub output : after ≡ copied_output o before

pub record Copies (o : Answer Part) (before after : List ℕ) (r : BafirolenWritten) : Type 0 where
  pub answer : r ≡ copied_record o before
  pub output : after ≡ copied_output o before

-- the contract of every writer: what it answers, and what the output holds afterwards
pub record Writes (w : Writing) (before after : List ℕ) (r : BafirolenWritten) : Type 0 where
  pub answer : r ≡ written_record (written w before)
  pub output : after ≡ output_after w before
