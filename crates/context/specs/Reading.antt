-- What the code's reading of pairs says, of the pairs that it is handed: the records of Stepping. Assumes nothing.
use Rattle.std.specs.Prelude.{List, [], ℕ, Result}
use Rattle.format.specs.Read.{end_at, repeat}
use Rattle.format.specs.Context.{read_next_aad_pair}
use Rattle.wire.specs.Buffer.{from}
use Rattle.wire.specs.declared.refusals.Refusal.{Refusal}
use Rattle.entries.specs.Codes.{next_of}
use Rattle.context.specs.Stepping.{Onward, Stepped, Reached, ReadUpTo, ReadAll}
use Rattle.context.specs.declared.pairs.Pairs.{Pairs}

abbrev pub OnwardIn : Pairs → ℕ → ℕ → List ℕ → Type 0
OnwardIn p n s keys = Onward p.buffer.bytes.now p.buffer.start p.end n s keys

abbrev pub SteppedIn : Pairs → ℕ → ℕ → List ℕ → Result ℕ Refusal → Type 0
SteppedIn p n s keys r = Stepped p.buffer.bytes.now p.buffer.start p.end n s keys r

abbrev pub ReachedIn : Pairs → ℕ → ℕ → List ℕ → Type 0
ReachedIn p i s keys = Reached p.buffer.bytes.now p.buffer.start p.end p.count i s keys

abbrev pub ReadUpToIn : Pairs → ℕ → List ℕ → Result ℕ Refusal → Type 0
ReadUpToIn p i keys r = ReadUpTo p.buffer.bytes.now p.buffer.start p.end p.count i keys r

abbrev pub ReadAllIn : Pairs → ℕ → List ℕ → Result ℕ Refusal → Type 0
ReadAllIn p room keys r = ReadAll p.buffer.bytes.now p.buffer.start p.end p.count room keys r

-- where all of them end, or their refusal
abbrev pub all_of : Pairs → Result ℕ Refusal
all_of p = next_of (from (repeat p.count (read_next_aad_pair (end_at p.end)) []) p.buffer)
