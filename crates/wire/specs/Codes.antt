-- The code's answers, of what a reader answers. Assumes nothing.
use Rattle.std.specs.Prelude.{ℕ, ◌<◌, cond, ltb, length, Option, Some, None, Result, Ok, Err}
use Rattle.format.specs.Read.{Answer, accepted, refused, no_end, end_at, past}
use Rattle.format.specs.Read.{End as Bound}
use Rattle.format.specs.Serialize.{Part}
use Rattle.wire.specs.declared.refusals.Refusal.{Refusal}
use Rattle.wire.specs.declared.SuccessfulRead.{SuccessfulRead}
use Rattle.wire.specs.declared.Span.{Span}

abbrev pub because : ℕ → ℕ → Refusal
because k p = record { number = k; position = p }

-- what was read, as the code has it, or the refusal
abbrev pub read_of : {A T : Type 0} → (A → T) → Answer A → Result (SuccessfulRead T) Refusal
read_of f (accepted a t) = Ok (record { value = f a; tail = t })
read_of f (refused k p) = Err (because k p)

abbrev pub number_of : Answer ℕ → Result (SuccessfulRead ℕ) Refusal
number_of = read_of (λ v. v)

abbrev pub span_of : Answer Part → Result Span Refusal
span_of (accepted p t) = Ok (record { start = p.start; len = length p.bytes; tail = t })
span_of (refused k p) = Err (because k p)

-- a number that was read is below n
abbrev pub Below : ℕ → Result (SuccessfulRead ℕ) Refusal → Type 0
Below n (Ok r) = r.value < n
Below n (Err q) = Unit {0}

-- the end that the code means
abbrev pub end_of : Option ℕ → Bound
end_of None = no_end
end_of (Some e) = end_at e

-- up to where bytes may be read in a message of n of them: to the end, or to the message's where that comes first
abbrev pub limit_of : Bound → ℕ → ℕ
limit_of no_end n = n
limit_of (end_at e) n = cond (ltb e n) e n

-- the refusal of bytes that would end at t, which lies beyond that
abbrev pub beyond_of : Bound → ℕ → Refusal
beyond_of e t = cond (past e t) (because 32 0) (because 2 t)
