-- The ways out of the functions that read a frame, one law each. Assumes nothing.
use mathlib.Core.Path.{◌≡◌, refl, sym, ap, ◌∙◌}
use mathlib.Core.Bool.{Bool, true, false}
use mathlib.Core.List.{List}
use Prim.Native.Nat.{ℕ, ◌+◌, ◌≤◌, ◌<◌}
use native.Mathlib.Omega.{arith}
use lib.Dec.{leb, eqb}
use lib.ListN.{length}
use borrow.Author.Tests.{leb-true, leb-false, le-leb, lt-leb, eq-eqb, ne_eqb}
use Rattle.std.specs.Prelude.{Result, Ok, Err}
use Rattle.format.specs.Read.{Reader, ◌>>=◌, ◌>>◌, return, test, Answer, accepted, refused, at, last}
use Rattle.format.specs.Serialize.{Part, read, read_at, read_uint32}
use Rattle.format.specs.Frames.{final_mark, read_sealed, read_frame_of, read_frame}
use Rattle.steps.proofs.Tidy.{read_tidy, uint32_tidy}
use Rattle.steps.proofs.Steps.{go, stop, pass, fail, gives, un_test}
use Rattle.steps.proofs.Numbers.{read_got, read_no, read_known}
use Rattle.wire.specs.Codes.{because, number_of, span_of}
use Rattle.wire.specs.declared.refusals.Refusal.{Refusal}
use Rattle.wire.specs.declared.SuccessfulRead.{SuccessfulRead}
use Rattle.wire.specs.declared.Span.{Span}
use Rattle.wire.specs.Buffer.{IsAt}
use Rattle.wire.specs.declared.buffer.ReadableBuffer.{ReadableBuffer}
use Rattle.wire.proofs.Answers.{number_got, number_no, Given, span_got, span_no}
use Rattle.wire.proofs.ReadLaws.{bytes_got, bytes_no}
use Rattle.entries.specs.Codes.{next_of}
use Rattle.entries.proofs.Answers.{next_got, next_no}
use Rattle.frames.specs.Codes.{frame_read_of, read_iv, PassesSealed, ReadsFinal}
use Rattle.frames.specs.declared.Kind.{Kind}
use Rattle.frames.specs.declared.Kind.TheVariants.{Regular, Final}
use Rattle.frames.proofs.Known.{sealed_tidy}

abbrev Place : Type 0
Place = Result ℕ Refusal

abbrev Number : Type 0
Number = Result (SuccessfulRead ℕ) Refusal

abbrev Frame : Type 0
Frame = Result (SuccessfulRead Kind) Refusal

abbrev found : Kind → ℕ → Frame
found k t = Ok (record { value = k; tail = t })

-- content, whose start lies within the message, and a tag
module _ (m : List ℕ) (s n : ℕ) (inside : s ≤ length m) (x : Result Span Refusal) (x_is : x ≡ span_of (read_at n m s)) where
  bytes_are : read_at n m s ≡ at (read n) m s
  bytes_are = by (leb (s + n) (length m)) refl
    where
      by : (c : Bool) → leb (s + n) (length m) ≡ c → read_at n m s ≡ at (read n) m s
      by true q = bytes_got m s n (leb-true _ _ q) ∙ sym (read_got m s n (leb-true _ _ q))
      by false q = bytes_no m s n (leb-false _ _ q) ∙ sym (read_no m s n inside (leb-false _ _ q))

  content_is : x ≡ span_of (at (read n) m s)
  content_is = x_is ∙ ap span_of bytes_are

  pub sealed_no_content : (q : Refusal) → x ≡ Err q → PassesSealed n m s (Err q)
  unfolding read_sealed
  sealed_no_content q b = record { passes = λ iv. rw (stop _ (read_tidy n) m s _ _ (span_no (at (read n) m s) x content_is q b)) }

  module _ (c : Span) (b : x ≡ Ok c) where
    content : Given (at (read n) m s) c
    content = span_got (at (read n) m s) x content_is c b

    pub content_near : length m < 4294967296 → c.tail < 4294967296
    content_near h = let z = read_known m s n inside content.item c.tail content.is in omega (arith, z.there, z.tail)

    module _ (y : Result Span Refusal) (y_is : y ≡ span_of (at (read 16) m c.tail)) where
      pub sealed_no_tag : (q : Refusal) → y ≡ Err q → PassesSealed n m s (Err q)
      unfolding read_sealed
      sealed_no_tag q d =
          record { passes = λ iv. rw (go _ (read_tidy n) m s content.item c.tail content.is, stop _ (read_tidy 16) m c.tail _ _ (span_no (at (read 16) m c.tail) y y_is q d)) }

      pub sealed_whole : (tag : Span) → y ≡ Ok tag → PassesSealed n m s (Ok tag.tail)
      unfolding read_sealed
      sealed_whole tag d =
          let g = span_got (at (read 16) m c.tail) y y_is tag d in
          record { passes = λ iv. rw (go _ (read_tidy n) m s content.item c.tail content.is, go _ (read_tidy 16) m c.tail g.item tag.tail g.is, gives _ m tag.tail) }

pub sealed_place : {b c : ReadableBuffer} {t n : ℕ} {r : Place} → IsAt b t c → PassesSealed n c.bytes.now c.start r → PassesSealed n b.bytes.now t r
sealed_place is h = rw (is.message, is.start) at h

-- the number that is due, and the IV
module _ (m : List ℕ) (s number due : ℕ) where
  pub iv_34 : (number ≡ due → ⊥) → (q : Refusal) → q ≡ because 34 0 → ◌≡◌ {A = Place} (Err q) (next_of (at (read_iv number due) m s))
  iv_34 h q f = rw (f, fail 34 _ _ m s (ne_eqb number due h))

  module _ (h : number ≡ due) (x : Result Span Refusal) (x_is : x ≡ span_of (at (read 12) m s)) where
    pub iv_none : (q : Refusal) → x ≡ Err q → ◌≡◌ {A = Place} (Err q) (next_of (at (read_iv number due) m s))
    iv_none q b = rw (pass 34 _ (read 12) m s (eq-eqb number due h), span_no (at (read 12) m s) x x_is q b)

    pub iv_due : (iv : Span) → x ≡ Ok iv → ◌≡◌ {A = Place} (Ok iv.tail) (next_of (at (read_iv number due) m s))
    iv_due iv b = let g = span_got (at (read 12) m s) x x_is iv b in rw (pass 34 _ (read 12) m s (eq-eqb number due h), g.is)

-- an IV read, and what follows it
module _ {B : Type 0} (m : List ℕ) (s number due : ℕ) (f : Part → Reader B) (i : Place) (iIs : i ≡ next_of (at (read_iv number due) m s)) where
  iv_stops : (q : Refusal) → i ≡ Err q → at (test 34 (eqb number due) >> (read 12 >>= f)) m s ≡ refused q.number q.position
  iv_stops q b = by (eqb number due) refl (next_no (at (read_iv number due) m s) i iIs q b)
    where
      by : (c : Bool) → eqb number due ≡ c → at (read_iv number due) m s ≡ refused q.number q.position
          → at (test 34 (eqb number due) >> (read 12 >>= f)) m s ≡ refused q.number q.position
      by true h e = pass 34 _ _ m s h ∙ stop f (read_tidy 12) m s _ _ (sym (pass 34 _ _ m s h) ∙ e)
      by false h e =
          let z : ◌≡◌ {A = Answer Part} (refused 34 0) (refused q.number q.position) = sym (fail 34 _ _ m s h) ∙ e in
          let k : 34 ≡ q.number = cc in
          let p : 0 ≡ q.position = cc in
          rw (← k, ← p) (fail 34 _ _ m s h)

-- an IV that was read
record IvRead (m : List ℕ) (s number due t : ℕ) : Type 0 where
  item : Part
  is_due : eqb number due ≡ true
  is : at (read 12) m s ≡ accepted item t

iv_read : (m : List ℕ) (s number due : ℕ) (i : Place) → i ≡ next_of (at (read_iv number due) m s) → (t : ℕ) → i ≡ Ok t → IvRead m s number due t
iv_read m s number due i iIs t b =
    let w = next_got (at (read_iv number due) m s) i iIs t b in
    let (h, e) = un_test 34 _ _ m s w.item t w.is in
    record { item = w.item; is_due = h; is = e }

iv_goes : {B : Type 0} (m : List ℕ) (s number due t : ℕ) (f : Part → Reader B) (v : IvRead m s number due t) → at (test 34 (eqb number due) >> (read 12 >>= f)) m s ≡ at (f v.item) m t
iv_goes m s number due t f v = pass 34 _ _ m s v.is_due ∙ go f (read_tidy 12) m s v.item t v.is

-- a regular frame behind its number
module _ (m : List ℕ) (s number due frame : ℕ) (i : Place) (iIs : i ≡ next_of (at (read_iv number due) m s)) where
  pub regular_no_iv : (q : Refusal) → i ≡ Err q → ◌≡◌ {A = Frame} (Err q) (frame_read_of (at (read_frame_of frame due false number) m s))
  unfolding read_frame_of
  regular_no_iv q b = rw (iv_stops m s number due _ i iIs q b)

  module _ (content : ℕ) (ib : i ≡ Ok content) (c : Place) (cIs : PassesSealed frame m content c) where
    v : IvRead m s number due content
    v = iv_read m s number due i iIs content ib

    pub regular_no_content : (q : Refusal) → c ≡ Err q → ◌≡◌ {A = Frame} (Err q) (frame_read_of (at (read_frame_of frame due false number) m s))
    unfolding read_frame_of
    regular_no_content q b =
        rw (iv_goes m s number due content _ v, stop _ (sealed_tidy v.item frame) m content _ _ (next_no (at (read_sealed v.item frame) m content) c (cIs.passes v.item) q b))

    pub regular_whole : (t : ℕ) → c ≡ Ok t → found Regular t ≡ frame_read_of (at (read_frame_of frame due false number) m s)
    unfolding read_frame_of
    regular_whole t b =
        let w = next_got (at (read_sealed v.item frame) m content) c (cIs.passes v.item) t b in
        rw (iv_goes m s number due content _ v, go _ (sealed_tidy v.item frame) m content w.item t w.is, gives _ m t)

-- a final frame behind its mark
module _ (m : List ℕ) (s due frame : ℕ) (x : Number) (xIs : x ≡ number_of (at read_uint32 m s)) where
  pub final_no_number : (q : Refusal) → x ≡ Err q → ReadsFinal frame due m s (Err q)
  unfolding read_frame_of
  final_no_number q b = record { reads = λ mark. rw (stop _ uint32_tidy m s _ _ (number_no (at read_uint32 m s) x xIs q b)) }

  module _ (r : SuccessfulRead ℕ) (xb : x ≡ Ok r) (i : Place) (iIs : i ≡ next_of (at (read_iv r.value due) m r.tail)) where
    own : at read_uint32 m s ≡ accepted r.value r.tail
    own = number_got (at read_uint32 m s) x xIs r xb

    pub final_no_iv : (q : Refusal) → i ≡ Err q → ReadsFinal frame due m s (Err q)
    unfolding read_frame_of
    final_no_iv q b = record { reads = λ mark. rw (go _ uint32_tidy m s r.value r.tail own, iv_stops m r.tail r.value due _ i iIs q b) }

    module _ (size : ℕ) (ib : i ≡ Ok size) (y : Number) (yIs : y ≡ number_of (at read_uint32 m size)) where
      behind : IvRead m r.tail r.value due size
      behind = iv_read m r.tail r.value due i iIs size ib

      pub final_no_length : (q : Refusal) → y ≡ Err q → ReadsFinal frame due m s (Err q)
      unfolding read_frame_of
      final_no_length q b =
          record { reads = λ mark. rw (go _ uint32_tidy m s r.value r.tail own, iv_goes m r.tail r.value due size _ behind, stop _ uint32_tidy m size _ _ (number_no (at read_uint32 m size) y yIs q b)) }

      module _ (n : SuccessfulRead ℕ) (yb : y ≡ Ok n) where
        long : at read_uint32 m size ≡ accepted n.value n.tail
        long = number_got (at read_uint32 m size) y yIs n yb

        pub final_35 : frame < n.value → (q : Refusal) → q ≡ because 35 0 → ReadsFinal frame due m s (Err q)
        unfolding read_frame_of
        final_35 h q f =
            record { reads = λ mark. rw (f, go _ uint32_tidy m s r.value r.tail own, iv_goes m r.tail r.value due size _ behind, go _ uint32_tidy m size n.value n.tail long, fail 35 _ _ m n.tail (lt-leb _ _ h)) }

        module _ (h : n.value ≤ frame) (c : Place) (cIs : PassesSealed n.value m n.tail c) where
          to_content : (mark : ℕ) → at (read_frame_of frame due true mark) m s ≡ at (read_sealed behind.item n.value >>= λ f. return (last f)) m n.tail
          unfolding read_frame_of
          to_content mark =
              go _ uint32_tidy m s r.value r.tail own
              ∙ iv_goes m r.tail r.value due size _ behind
              ∙ go _ uint32_tidy m size n.value n.tail long
              ∙ pass 35 _ _ m n.tail (le-leb _ _ h)

          pub final_no_content : (q : Refusal) → c ≡ Err q → ReadsFinal frame due m s (Err q)
          final_no_content q b =
              record { reads = λ mark. rw (to_content mark, stop _ (sealed_tidy behind.item n.value) m n.tail _ _ (next_no (at (read_sealed behind.item n.value) m n.tail) c (cIs.passes behind.item) q b)) }

          pub final_whole : (t : ℕ) → c ≡ Ok t → ReadsFinal frame due m s (found Final t)
          final_whole t b =
              let w = next_got (at (read_sealed behind.item n.value) m n.tail) c (cIs.passes behind.item) t b in
              record { reads = λ mark. rw (to_content mark, go _ (sealed_tidy behind.item n.value) m n.tail w.item t w.is, gives _ m t) }

-- a frame
module _ (m : List ℕ) (s due frame : ℕ) (x : Number) (xIs : x ≡ number_of (at read_uint32 m s)) where
  pub frame_none : (q : Refusal) → x ≡ Err q → ◌≡◌ {A = Frame} (Err q) (frame_read_of (at (read_frame frame due) m s))
  unfolding read_frame
  frame_none q b = rw (stop _ uint32_tidy m s _ _ (number_no (at read_uint32 m s) x xIs q b))

  module _ (n : SuccessfulRead ℕ) (xb : x ≡ Ok n) (r : Frame) where
    first : at (read_frame frame due) m s ≡ at (read_frame_of frame due (eqb n.value final_mark) n.value) m n.tail
    unfolding read_frame
    first = go _ uint32_tidy m s n.value n.tail (number_got (at read_uint32 m s) x xIs n xb)

    pub frame_final : n.value ≡ 4294967295 → ReadsFinal frame due m n.tail r → r ≡ frame_read_of (at (read_frame frame due) m s)
    frame_final h f = f.reads n.value ∙ sym (ap frame_read_of (first ∙ ap (λ b. at (read_frame_of frame due b n.value) m n.tail) (eq-eqb n.value final_mark h)))

    pub frame_regular : (n.value ≡ 4294967295 → ⊥) → r ≡ frame_read_of (at (read_frame_of frame due false n.value) m n.tail) → r ≡ frame_read_of (at (read_frame frame due) m s)
    frame_regular h f = f ∙ sym (ap frame_read_of (first ∙ ap (λ b. at (read_frame_of frame due b n.value) m n.tail) (ne_eqb n.value final_mark h)))
