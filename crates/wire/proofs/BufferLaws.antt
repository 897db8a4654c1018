-- What is read from a buffer lies within its message; and a buffer that was opened, or wasn't. Assumes nothing.
use Prim.Native.Nat.{ℕ, ◌+◌, ◌-◌, ◌≤◌, ◌<◌}
use mathlib.Core.Path.{◌≡◌, refl, sym, ap, ◌∙◌}
use mathlib.Core.Bool.{Bool, true, false}
use mathlib.Core.List.{List}
use native.Mathlib.Omega.{arith}
use lib.ListN.{length}
use borrow.Author.Tests.{leb-true, leb-false}
use lib.Dec.{leb}
use Rattle.std.specs.Prelude.{Result, Ok, Err, IfOk}
use Rattle.std.specs.Borrow.{Bor}
use Rattle.format.specs.Read.{Reader, addressable, at, operation}
use Rattle.format.specs.Read.{End as Bound}
use Rattle.format.specs.Serialize.{Part, read, read_at, read_operation, read_short_length_seq}
use Rattle.format.specs.Context.{read_text}
use Rattle.steps.proofs.Steps.{refused_is_none}
use Rattle.steps.proofs.Numbers.{read_got, read_lacks}
use Rattle.steps.proofs.Operations.{operation_guarded, operation_reached}
use Rattle.wire.specs.Codes.{because, read_of, span_of}
use Rattle.wire.specs.Buffer.{from, IsAt, Opens}
use Rattle.wire.specs.declared.refusals.Refusal.{Refusal}
use Rattle.wire.specs.declared.Span.{Span}
use Rattle.wire.specs.declared.SuccessfulRead.{SuccessfulRead}
use Rattle.wire.specs.declared.buffer.ReadableBuffer.{ReadableBuffer}
use Rattle.wire.proofs.Answers.{span_got}
use Rattle.wire.proofs.Stood.{entry_stood, text_stood}

module _ (m : List ℕ) (s : ℕ) (x : Result Span Refusal) where
  spans_within : ((r : Span) → x ≡ Ok r → r.tail ≤ length m) → IfOk x (λ r. r.tail ≤ length m)
  spans_within h = by x h
    where
      by : (y : Result Span Refusal) → ((r : Span) → y ≡ Ok r → r.tail ≤ length m) → IfOk y (λ r. r.tail ≤ length m)
      by (Ok r) h = h r refl
      by (Err q) h = tt

  pub entry_within : (e : Bound) → x ≡ span_of (at (read_short_length_seq e) m s) → IfOk x (λ r. r.tail ≤ length m)
  entry_within e is = spans_within (λ r b. (entry_stood m s x r b e is).within)

  pub text_within : (e : Bound) (k : ℕ) → x ≡ span_of (at (read_text e k) m s) → IfOk x (λ r. r.tail ≤ length m)
  text_within e k is = spans_within (λ r b. (text_stood m s x r b e k is).within)

  pub bytes_within : (n : ℕ) → 0 < n → x ≡ span_of (at (read n) m s) → IfOk x (λ r. r.tail ≤ length m)
  bytes_within n some is = spans_within (λ r b. by r b (leb (s + n) (length m)) refl)
    where
      by : (r : Span) → x ≡ Ok r → (c : Bool) → leb (s + n) (length m) ≡ c → r.tail ≤ length m
      by r b true q = let h = leb-true _ _ q in let z = sym (read_got m s n h) ∙ (span_got (at (read n) m s) x is r b).is in let t : s + n ≡ r.tail = cc in omega arith
      by r b false q =
          let h : length m < s + n = leb-false _ _ q in
          let lacks : length m - s < n = omega arith in
          refused_is_none (sym (read_lacks m s n lacks) ∙ (span_got (at (read n) m s) x is r b).is)

-- what is read from another place of a buffer
module _ {b c : ReadableBuffer} {t : ℕ} (is : IsAt b t c) where
  pub from_place : {A : Type 0} (r : Reader A) → from r c ≡ at r b.bytes.now t
  from_place r = rw (is.message, is.start)

  pub read_place : {A T : Type 0} (f : A → T) (r : Reader A) (x : Result (SuccessfulRead T) Refusal) → x ≡ read_of f (from r c) → x ≡ read_of f (at r b.bytes.now t)
  read_place f r x e = e ∙ ap (read_of f) (from_place r)

  pub span_place : (r : Reader Part) (x : Result Span Refusal) → x ≡ span_of (from r c) → x ≡ span_of (at r b.bytes.now t)
  span_place r x e = e ∙ ap span_of (from_place r)

-- an operation, which opens a buffer and goes on
module _ (m : Bor (List ℕ)) (s : ℕ) (x : Result ReadableBuffer Refusal) (opens : Opens m s x) where
  module _ (b : ReadableBuffer) (is : x ≡ Ok b) where
    opened : Opens m s (Ok b)
    opened = rw is at opens

    pub operation_from : {A : Type 0} (r : Reader A) → from r b ≡ operation r m.now s
    operation_from r = let (e, f, g) = opened in rw (e, f) (sym (operation_reached r m.now s g))

    pub span_on : (r : Reader Part) (y : Result Span Refusal) → y ≡ span_of (from r b) → y ≡ span_of (operation r m.now s)
    span_on r y e = e ∙ ap span_of (operation_from r)

    pub bytes_on : (n : ℕ) (y : Result Span Refusal) → y ≡ span_of (read_at n b.bytes.now b.start) → y ≡ span_of (read_operation n m.now s)
    unfolding read_operation
    bytes_on n y e = let (f, g, h) = opened in e ∙ rw (f, g, h)

    pub read_on : {A T : Type 0} (f : A → T) (r : Reader A) (y : Result (SuccessfulRead T) Refusal) → y ≡ read_of f (from r b) → y ≡ read_of f (operation r m.now s)
    read_on f r y e = e ∙ ap (read_of f) (operation_from r)

  module _ (q : Refusal) (is : x ≡ Err q) where
    pub why : (q ≡ because 1 0) × (addressable m.now s ≡ false)
    why = rw is at opens

    pub span_not : (r : Reader Part) → ◌≡◌ {A = Result Span Refusal} (Err q) (span_of (operation r m.now s))
    span_not r = let (f, g) = why in rw (f, operation_guarded r m.now s g)

    pub read_not : {A T : Type 0} (f : A → T) (r : Reader A) → ◌≡◌ {A = Result (SuccessfulRead T) Refusal} (Err q) (read_of f (operation r m.now s))
    read_not f r = let (g, h) = why in rw (g, operation_guarded r m.now s h)

    pub bytes_not : (n : ℕ) → ◌≡◌ {A = Result Span Refusal} (Err q) (span_of (read_operation n m.now s))
    unfolding read_operation
    bytes_not n = let (f, g) = why in rw (f, g)

-- what is read elsewhere, for a search
pub ruleset places = (read_place, span_place)
