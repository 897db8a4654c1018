-- What was read stands where the answer says; and a text, of an entry. Assumes nothing.
use Prim.Native.Nat.{ℕ, ◌+◌, ◌≤◌, ◌<◌}
use mathlib.Core.Path.{◌≡◌, sym, ap, ◌∙◌}
use mathlib.Core.Bool.{Bool, true, false}
use mathlib.Core.List.{List}
use native.Mathlib.Omega.{arith}
use lib.ListN.{length, take, drop}
use Rattle.std.specs.Prelude.{Result, Ok, Err}
use Rattle.format.specs.Read.{End, Answer, accepted, at}
use Rattle.format.specs.Serialize.{Part, read_uint8, read_uint16, read_uint32, read_short_length_seq}
use Rattle.format.specs.Utf8.{valid_utf8_seq}
use Rattle.format.specs.Context.{read_text}
use Rattle.format.specs.Places.{number16, part_of}
use Rattle.steps.proofs.Numbers.{There, length_part, uint8_known, uint16_known, uint32_known}
use Rattle.steps.proofs.Entries.{entry_known, text_known, text_good, text_bad, text_stops}
use Rattle.wire.specs.Codes.{because, number_of, span_of}
use Rattle.wire.specs.declared.refusals.Refusal.{Refusal}
use Rattle.wire.specs.declared.SuccessfulRead.{SuccessfulRead}
use Rattle.wire.specs.declared.Span.{Span}
use Rattle.wire.proofs.Answers.{number_got, Given, span_got, span_no}

-- the place behind a number
module _ (m : List ℕ) (s : ℕ) (x : Result (SuccessfulRead ℕ) Refusal) (r : SuccessfulRead ℕ) (b : x ≡ Ok r) where
  pub uint8_in : x ≡ number_of (at read_uint8 m s) → r.tail ≤ length m
  uint8_in is = let y = uint8_known m s r.value r.tail (number_got (at read_uint8 m s) x is r b) in omega arith

  pub uint16_in : x ≡ number_of (at read_uint16 m s) → r.tail ≤ length m
  uint16_in is = let y = uint16_known m s r.value r.tail (number_got (at read_uint16 m s) x is r b) in omega arith

  pub uint32_in : x ≡ number_of (at read_uint32 m s) → r.tail ≤ length m
  uint32_in is = let y = uint32_known m s r.value r.tail (number_got (at read_uint32 m s) x is r b) in omega arith

  module _ (h : length m < 4294967296) where
    pub uint8_near : x ≡ number_of (at read_uint8 m s) → r.tail < 4294967296
    uint8_near is = let y = uint8_in is in omega arith

    pub uint16_near : x ≡ number_of (at read_uint16 m s) → r.tail < 4294967296
    uint16_near is = let y = uint16_in is in omega arith

    pub uint32_near : x ≡ number_of (at read_uint32 m s) → r.tail < 4294967296
    uint32_near is = let y = uint32_in is in omega arith

-- n bytes that a span names are the part at its start
pub record Stood (o : Answer Part) (m : List ℕ) (from size : ℕ) (x : Span) : Type 0 where
  pub is : o ≡ accepted (part_of m x.start x.len) x.tail
  pub start : x.start ≡ from
  pub long : x.len ≡ size
  pub tail : x.tail ≡ x.start + x.len
  pub within : x.tail ≤ length m

stood : (o : Answer Part) (m : List ℕ) (from size : ℕ) → ((p : Part) (t : ℕ) → o ≡ accepted p t → There m from size p t) → (x : Span) → Given o x → Stood o m from size x
stood o m from size known x g =
    let y = known g.item x.tail g.is in
    let a : x.start ≡ from = sym g.from ∙ ap (λ (p : Part). p.start) y.is in
    let d : x.len ≡ size = sym g.long ∙ ap (λ (p : Part). length p.bytes) y.is ∙ length_part m from size y.there in
    let i : g.item ≡ part_of m x.start x.len = rw (a, d) y.is in
    record { is = rw (← i) g.is; start = a; long = d; tail = rw (a, d) y.tail; within = omega (arith, y.tail, y.there) }

module _ (m : List ℕ) (at' : ℕ) (x : Result Span Refusal) (r : Span) (b : x ≡ Ok r) where
  module _ (e : End) where
    pub entry_stood : x ≡ span_of (at (read_short_length_seq e) m at') → Stood (at (read_short_length_seq e) m at') m (at' + 2) (number16 m at') r
    entry_stood f =
        stood (at (read_short_length_seq e) m at') m (at' + 2) (number16 m at') (λ p u q. (entry_known e m at' p u q).0) r (span_got (at (read_short_length_seq e) m at') x f r b)

    pub text_stood : (k : ℕ) → x ≡ span_of (at (read_text e k) m at') → Stood (at (read_text e k) m at') m (at' + 2) (number16 m at') r
    text_stood k f = stood (at (read_text e k) m at') m (at' + 2) (number16 m at') (λ p u q. (text_known e k m at' p u q).0) r (span_got (at (read_text e k) m at') x f r b)

    pub entry_in : x ≡ span_of (at (read_short_length_seq e) m at') → r.start + r.len ≤ length m
    entry_in f = let y = entry_stood f in omega arith

    module _ (h : length m < 4294967296) where
      pub entry_near : x ≡ span_of (at (read_short_length_seq e) m at') → r.tail < 4294967296
      entry_near f = let y = entry_stood f in omega arith

      pub text_near : (k : ℕ) → x ≡ span_of (at (read_text e k) m at') → r.tail < 4294967296
      text_near k f = let y = text_stood k f in omega arith

-- a text
module _ (m : List ℕ) (s : ℕ) (e : End) (k : ℕ) (x : Result Span Refusal) (is : x ≡ span_of (at (read_short_length_seq e) m s)) where
  pub text_none : (q : Refusal) → x ≡ Err q → ◌≡◌ {A = Result Span Refusal} (Err q) (span_of (at (read_text e k) m s))
  text_none q b = sym (ap span_of (text_stops e k m s _ _ (span_no (at (read_short_length_seq e) m s) x is q b)))

  module _ (r : Span) (b : x ≡ Ok r) (u : Bool) (valid : u ≡ valid_utf8_seq (take r.len (drop r.start m))) where
    pub text_yes : u ≡ true → Ok r ≡ span_of (at (read_text e k) m s)
    text_yes f =
        let y = entry_stood m s x r b e is in
        sym b ∙ is ∙ rw (y.is, text_good e k m s (part_of m r.start r.len) r.tail y.is (sym valid ∙ f))

    pub text_not : u ≡ false → (q : Refusal) → q ≡ because k 0 → ◌≡◌ {A = Result Span Refusal} (Err q) (span_of (at (read_text e k) m s))
    text_not f q g = let y = entry_stood m s x r b e is in rw (g, text_bad e k m s (part_of m r.start r.len) r.tail y.is (sym valid ∙ f))
