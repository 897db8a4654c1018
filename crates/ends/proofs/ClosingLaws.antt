-- The ways out of the functions that read a closing, one law each. Assumes nothing.
use Prim.Native.Nat.{ℕ}
use mathlib.Core.Path.{◌≡◌, sym, ap, ◌∙◌}
use mathlib.Core.Bool.{Bool, true, false}
use mathlib.Core.List.{List}
use borrow.Author.Tests.{eq-eqb, ne_eqb}
use lib.Dec.{eqb}
use Rattle.std.specs.Prelude.{Result, Ok, Err}
use Rattle.format.specs.Read.{accepted, at}
use Rattle.format.specs.Serialize.{read, read_uint8, read_uint32}
use Rattle.format.specs.Shared.{read_content_type}
use Rattle.format.specs.Body.{read_closing_of, read_closing}
use Rattle.steps.proofs.Tidy.{uint8_tidy, uint32_tidy, read_tidy}
use Rattle.steps.proofs.Steps.{go, stop, pass, fail, gives}
use Rattle.wire.specs.Codes.{because, number_of, span_of}
use Rattle.wire.specs.declared.refusals.Refusal.{Refusal}
use Rattle.wire.specs.declared.SuccessfulRead.{SuccessfulRead}
use Rattle.wire.specs.declared.Span.{Span}
use Rattle.wire.proofs.Answers.{number_got, number_no, span_got, span_no}
use Rattle.ends.specs.Codes.{closing_of}
use Rattle.ends.specs.declared.Closing.{Closing}
use Rattle.ends.proofs.Tidy.{content_tidy}

abbrev Number : Type 0
Number = Result (SuccessfulRead ℕ) Refusal

abbrev Answer : Type 0
Answer = Result (SuccessfulRead Closing) Refusal

-- version 1
module _ (content : ℕ) (m : List ℕ) (s : ℕ) (x : Number) (x_is : x ≡ number_of (at read_uint32 m s)) where
  pub v1_no_reserved : (q : Refusal) → x ≡ Err q → ◌≡◌ {A = Answer} (Err q) (closing_of (at (read_closing_of true content) m s))
  unfolding read_closing_of
  v1_no_reserved q b = rw (stop _ uint32_tidy m s _ _ (number_no (at read_uint32 m s) x x_is q b))

  module _ (reserved : SuccessfulRead ℕ) (x_got : x ≡ Ok reserved) where
    reserved_read : at read_uint32 m s ≡ accepted reserved.value reserved.tail
    reserved_read = number_got (at read_uint32 m s) x x_is reserved x_got

    pub v1_18 : (reserved.value ≡ 0 → ⊥) → (q : Refusal) → q ≡ because 18 0 → ◌≡◌ {A = Answer} (Err q) (closing_of (at (read_closing_of true content) m s))
    unfolding read_closing_of
    v1_18 h q f = rw (f, go _ uint32_tidy m s _ _ reserved_read, fail 18 _ _ m reserved.tail (ne_eqb reserved.value 0 h))

    module _ (zero : reserved.value ≡ 0) (y : Number) (y_is : y ≡ number_of (at read_uint8 m reserved.tail)) where
      pub v1_no_iv : (q : Refusal) → y ≡ Err q → ◌≡◌ {A = Answer} (Err q) (closing_of (at (read_closing_of true content) m s))
      unfolding read_closing_of
      v1_no_iv q b =
          rw (go _ uint32_tidy m s _ _ reserved_read, pass 18 _ _ m reserved.tail (eq-eqb reserved.value 0 zero), stop _ uint8_tidy m reserved.tail _ _ (number_no (at read_uint8 m reserved.tail) y y_is q b))

      module _ (iv : SuccessfulRead ℕ) (y_got : y ≡ Ok iv) where
        iv_read : at read_uint8 m reserved.tail ≡ accepted iv.value iv.tail
        iv_read = number_got (at read_uint8 m reserved.tail) y y_is iv y_got

        pub v1_19 : (iv.value ≡ 12 → ⊥) → (q : Refusal) → q ≡ because 19 0 → ◌≡◌ {A = Answer} (Err q) (closing_of (at (read_closing_of true content) m s))
        unfolding read_closing_of
        v1_19 h q f =
            rw (f, go _ uint32_tidy m s _ _ reserved_read, pass 18 _ _ m reserved.tail (eq-eqb reserved.value 0 zero), go _ uint8_tidy m reserved.tail _ _ iv_read, fail 19 _ _ m iv.tail (ne_eqb iv.value 12 h))

        module _ (twelve : iv.value ≡ 12) (z : Number) (z_is : z ≡ number_of (at read_uint32 m iv.tail)) where
          pub v1_no_frame : (q : Refusal) → z ≡ Err q → ◌≡◌ {A = Answer} (Err q) (closing_of (at (read_closing_of true content) m s))
          unfolding read_closing_of
          v1_no_frame q e =
              rw (go _ uint32_tidy m s _ _ reserved_read, pass 18 _ _ m reserved.tail (eq-eqb reserved.value 0 zero), go _ uint8_tidy m reserved.tail _ _ iv_read, pass 19 _ _ m iv.tail (eq-eqb iv.value 12 twelve), stop _ uint32_tidy m iv.tail _ _ (number_no (at read_uint32 m iv.tail) z z_is q e))

          pub v1_whole : (frame : SuccessfulRead ℕ) → z ≡ Ok frame
              → ◌≡◌ {A = Answer} (Ok (record { value = record { contentType = content; headerIvLength = iv.value; frameLength = frame.value; suiteDataStart = 0; suiteDataLen = 0 }; tail = frame.tail })) (closing_of (at (read_closing_of true content) m s))
          unfolding read_closing_of
          v1_whole frame e =
              rw (go _ uint32_tidy m s _ _ reserved_read, pass 18 _ _ m reserved.tail (eq-eqb reserved.value 0 zero), go _ uint8_tidy m reserved.tail _ _ iv_read, pass 19 _ _ m iv.tail (eq-eqb iv.value 12 twelve), go _ uint32_tidy m iv.tail _ _ (number_got (at read_uint32 m iv.tail) z z_is frame e), gives _ m frame.tail)

-- version 2
module _ (content : ℕ) (m : List ℕ) (s : ℕ) (x : Number) (x_is : x ≡ number_of (at read_uint32 m s)) where
  pub v2_no_frame : (q : Refusal) → x ≡ Err q → ◌≡◌ {A = Answer} (Err q) (closing_of (at (read_closing_of false content) m s))
  unfolding read_closing_of
  v2_no_frame q b = rw (stop _ uint32_tidy m s _ _ (number_no (at read_uint32 m s) x x_is q b))

  module _ (frame : SuccessfulRead ℕ) (x_got : x ≡ Ok frame) (y : Result Span Refusal) (y_is : y ≡ span_of (at (read 32) m frame.tail)) where
    frame_read : at read_uint32 m s ≡ accepted frame.value frame.tail
    frame_read = number_got (at read_uint32 m s) x x_is frame x_got

    pub v2_no_data : (q : Refusal) → y ≡ Err q → ◌≡◌ {A = Answer} (Err q) (closing_of (at (read_closing_of false content) m s))
    unfolding read_closing_of
    v2_no_data q e = rw (go _ uint32_tidy m s _ _ frame_read, stop _ (read_tidy 32) m frame.tail _ _ (span_no (at (read 32) m frame.tail) y y_is q e))

    pub v2_whole : (r : Span) → y ≡ Ok r
        → ◌≡◌ {A = Answer} (Ok (record { value = record { contentType = content; headerIvLength = 0; frameLength = frame.value; suiteDataStart = r.start; suiteDataLen = r.len }; tail = r.tail })) (closing_of (at (read_closing_of false content) m s))
    unfolding read_closing_of
    v2_whole r e =
        let g = span_got (at (read 32) m frame.tail) y y_is r e in
        rw (go _ uint32_tidy m s _ _ frame_read, go _ (read_tidy 32) m frame.tail g.item r.tail g.is, gives _ m r.tail, g.from, g.long)

-- by version
module _ (version : ℕ) (m : List ℕ) (s : ℕ) (x : Number) (x_is : x ≡ number_of (at read_content_type m s)) where
  pub closing_none : (q : Refusal) → x ≡ Err q → ◌≡◌ {A = Answer} (Err q) (closing_of (at (read_closing (eqb version 1)) m s))
  unfolding read_closing
  closing_none q b = rw (stop _ content_tidy m s _ _ (number_no (at read_content_type m s) x x_is q b))

  module _ (content : SuccessfulRead ℕ) (b : x ≡ Ok content) (a : Answer) where
    by : (v1 : Bool) → eqb version 1 ≡ v1 → a ≡ closing_of (at (read_closing_of v1 content.value) m content.tail) → a ≡ closing_of (at (read_closing (eqb version 1)) m s)
    unfolding read_closing
    by v1 h f =
        f ∙ ap (λ (y : Bool). closing_of (at (read_closing_of y content.value) m content.tail)) (sym h) ∙ sym (ap closing_of (go _ content_tidy m s _ _ (number_got (at read_content_type m s) x x_is content b)))

    pub closing_v1 : version ≡ 1 → a ≡ closing_of (at (read_closing_of true content.value) m content.tail) → a ≡ closing_of (at (read_closing (eqb version 1)) m s)
    closing_v1 h = by true (eq-eqb version 1 h)

    pub closing_v2 : (version ≡ 1 → ⊥) → a ≡ closing_of (at (read_closing_of false content.value) m content.tail) → a ≡ closing_of (at (read_closing (eqb version 1)) m s)
    closing_v2 h = by false (ne_eqb version 1 h)
