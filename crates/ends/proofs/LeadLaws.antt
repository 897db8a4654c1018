-- The ways out of the functions that read the leading fields, one law each. Assumes nothing.
use Prim.Native.Nat.{ℕ, ◌<◌}
use native.Mathlib.Omega.{arith}
use mathlib.Core.Path.{◌≡◌, sym, ap, ◌∙◌}
use mathlib.Core.Bool.{Bool, true, false}
use mathlib.Core.List.{List}
use borrow.Author.Tests.{eq-eqb, ne_eqb}
use lib.Dec.{eqb}
use lib.ListN.{length}
use Rattle.std.specs.Prelude.{Result, Ok, Err}
use Rattle.format.specs.Read.{accepted, at}
use Rattle.format.specs.Serialize.{read_uint8}
use Rattle.format.specs.Shared.{read_message_format_version, read_esdk_suite_id}
use Rattle.format.specs.Body.{asked, read_lead_of, read_lead}
use Rattle.steps.proofs.Tidy.{uint8_tidy}
use Rattle.steps.proofs.Steps.{go, stop, pass, fail, gives}
use Rattle.wire.specs.Codes.{because, number_of}
use Rattle.wire.specs.declared.refusals.Refusal.{Refusal}
use Rattle.wire.specs.declared.SuccessfulRead.{SuccessfulRead}
use Rattle.wire.proofs.Answers.{read_got, number_got, number_no}
use Rattle.request.specs.Codes.{which_of}
use Rattle.request.specs.declared.Which.{Which}
use Rattle.ends.specs.Codes.{read_suite, lead_code, lead_of}
use Rattle.ends.specs.declared.Lead.{Lead}
use Rattle.ends.proofs.Tidy.{version_tidy, suite_tidy, lead_within}

abbrev Number : Type 0
Number = Result (SuccessfulRead ℕ) Refusal

abbrev Answer : Type 0
Answer = Result (SuccessfulRead Lead) Refusal

-- behind leading fields there is a place of the message
pub lead_near : (which : Which) (m : List ℕ) (s : ℕ) (x : Result (SuccessfulRead Lead) Refusal) → x ≡ lead_of (at (read_lead (which_of which)) m s) → (r : SuccessfulRead Lead) → x ≡ Ok r → length m < 4294967296 → r.tail < 4294967296
lead_near which m s x is r b h =
    let g = read_got lead_code (at (read_lead (which_of which)) m s) x is r b in
    let y = (lead_within (which_of which)).ends m s g.item r.tail g.is in
    omega arith

-- the suite
module _ (version messageType : ℕ) (m : List ℕ) (s : ℕ) (x : Number) (x_is : x ≡ number_of (at (read_esdk_suite_id version) m s)) where
  pub no_suite : (q : Refusal) → x ≡ Err q → ◌≡◌ {A = Answer} (Err q) (lead_of (at (read_suite version messageType) m s))
  unfolding read_suite
  no_suite q b = rw (stop _ (suite_tidy version) m s _ _ (number_no (at (read_esdk_suite_id version) m s) x x_is q b))

  pub a_suite : (r : SuccessfulRead ℕ) → x ≡ Ok r
      → ◌≡◌ {A = Answer} (Ok (record { value = record { version = version; messageType = messageType; suite = r.value }; tail = r.tail })) (lead_of (at (read_suite version messageType) m s))
  unfolding read_suite
  a_suite r b = rw (go _ (suite_tidy version) m s r.value r.tail (number_got (at (read_esdk_suite_id version) m s) x x_is r b), gives _ m r.tail)

-- version 1
module _ (m : List ℕ) (s : ℕ) (x : Number) (x_is : x ≡ number_of (at read_uint8 m s)) where
  pub v1_no_type : (q : Refusal) → x ≡ Err q → ◌≡◌ {A = Answer} (Err q) (lead_of (at (read_lead_of true) m s))
  unfolding read_lead_of
  v1_no_type q b = rw (stop _ uint8_tidy m s _ _ (number_no (at read_uint8 m s) x x_is q b))

  module _ (r : SuccessfulRead ℕ) (b : x ≡ Ok r) where
    type_read : at read_uint8 m s ≡ accepted r.value r.tail
    type_read = number_got (at read_uint8 m s) x x_is r b

    pub v1_5 : (r.value ≡ 128 → ⊥) → (q : Refusal) → q ≡ because 5 0 → ◌≡◌ {A = Answer} (Err q) (lead_of (at (read_lead_of true) m s))
    unfolding read_lead_of
    v1_5 h q f = rw (f, go _ uint8_tidy m s r.value r.tail type_read, fail 5 _ _ m r.tail (ne_eqb r.value 128 h))

    pub v1_then : r.value ≡ 128 → (a : Answer) → a ≡ lead_of (at (read_suite 1 128) m r.tail) → a ≡ lead_of (at (read_lead_of true) m s)
    unfolding read_lead_of read_suite
    v1_then h a f = f ∙ sym (rw (go _ uint8_tidy m s r.value r.tail type_read, pass 5 _ _ m r.tail (eq-eqb r.value 128 h), h))

-- version 2
pub v2_is : (m : List ℕ) (s : ℕ) (a : Answer) → a ≡ lead_of (at (read_suite 2 0) m s) → a ≡ lead_of (at (read_lead_of false) m s)
unfolding read_lead_of read_suite
v2_is m s a f = f

-- either
module _ (which : Which) (m : List ℕ) (s : ℕ) (x : Number) (x_is : x ≡ number_of (at read_message_format_version m s)) where
  pub lead_none : (q : Refusal) → x ≡ Err q → ◌≡◌ {A = Answer} (Err q) (lead_of (at (read_lead (which_of which)) m s))
  unfolding read_lead
  lead_none q b = rw (stop _ version_tidy m s _ _ (number_no (at read_message_format_version m s) x x_is q b))

  module _ (r : SuccessfulRead ℕ) (b : x ≡ Ok r) (c : Bool) (c_is : c ≡ asked (which_of which) r.value) where
    version_read : at read_message_format_version m s ≡ accepted r.value r.tail
    version_read = number_got (at read_message_format_version m s) x x_is r b

    pub lead_4 : c ≡ false → (q : Refusal) → q ≡ because 4 0 → ◌≡◌ {A = Answer} (Err q) (lead_of (at (read_lead (which_of which)) m s))
    unfolding read_lead
    lead_4 e q f = rw (f, go _ version_tidy m s r.value r.tail version_read, fail 4 _ _ m r.tail (sym c_is ∙ e))

    module _ (e : c ≡ true) (a : Answer) where
      on : at (read_lead (which_of which)) m s ≡ at (read_lead_of (eqb r.value 1)) m r.tail
      unfolding read_lead
      on = rw (go _ version_tidy m s r.value r.tail version_read, pass 4 _ _ m r.tail (sym c_is ∙ e))

      by : (v1 : Bool) → eqb r.value 1 ≡ v1 → a ≡ lead_of (at (read_lead_of v1) m r.tail) → a ≡ lead_of (at (read_lead (which_of which)) m s)
      by v1 h f = f ∙ ap (λ (y : Bool). lead_of (at (read_lead_of y) m r.tail)) (sym h) ∙ sym (ap lead_of on)

      pub lead_v1 : r.value ≡ 1 → a ≡ lead_of (at (read_lead_of true) m r.tail) → a ≡ lead_of (at (read_lead (which_of which)) m s)
      lead_v1 h = by true (eq-eqb r.value 1 h)

      pub lead_v2 : (r.value ≡ 1 → ⊥) → a ≡ lead_of (at (read_lead_of false) m r.tail) → a ≡ lead_of (at (read_lead (which_of which)) m s)
      lead_v2 h = by false (ne_eqb r.value 1 h)
