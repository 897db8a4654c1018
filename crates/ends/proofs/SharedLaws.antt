-- The ways out of the functions of `shared`, one law each. Assumes nothing.
use Prim.Native.Nat.{ℕ, ◌+◌, ◌*◌, ◌<◌}
use mir.Syntax.{w64}
use mir.Val.{Fits}
use native.Mathlib.Omega.{arith}
use mathlib.Core.Path.{◌≡◌, sym, ap, ◌∙◌}
use mathlib.Core.Bool.{Bool, true, false}
use mathlib.Core.List.{List}
use borrow.Author.Tests.{eq-eqb, ne_eqb}
use lib.Dec.{eqb}
use lib.ListN.{length, get_or}
use Rattle.std.specs.Prelude.{Option, Some, None, Result, Ok, Err}
use Rattle.format.specs.Read.{Reader, accepted, at}
use Rattle.format.specs.Serialize.{Part, number, read, read_uint, read_uint8, read_uint16}
use Rattle.format.specs.Shared.{one_or_two, of_version, read_message_format_version, read_esdk_suite_id, read_content_type}
use Rattle.format.specs.Places.{part_of}
use Rattle.steps.proofs.Numbers.{Number, read_got, uint16_got, uint16_known}
use Rattle.steps.proofs.Tidy.{read_tidy, uint8_tidy, uint16_tidy}
use Rattle.steps.proofs.Steps.{go, stop, pass, fail, gives}
use Rattle.suites.specs.Table.{suite_of}
use Rattle.suites.specs.declared.Suite.{Suite}
use Rattle.format.proofs.Accepts.{known_narrow}
use Rattle.suites.proofs.Answers.{unknown, suite_is, its_version, in_table}
use Rattle.wire.specs.Codes.{because, number_of, span_of}
use Rattle.wire.specs.declared.refusals.Refusal.{Refusal}
use Rattle.wire.specs.declared.SuccessfulRead.{SuccessfulRead}
use Rattle.wire.specs.declared.Span.{Span}
use Rattle.wire.proofs.Answers.{number_got, number_no, Given, span_got, span_no}
use Rattle.ends.specs.Codes.{read_one_or_two}
use Rattle.ends.proofs.Tidy.{Within}

abbrev Read : Type 0
Read = Result (SuccessfulRead ℕ) Refusal

-- behind a number that was read there is a place of the message
pub number_near : (o : Reader ℕ) (m : List ℕ) (s : ℕ) (x : Result (SuccessfulRead ℕ) Refusal) → x ≡ number_of (at o m s) → (r : SuccessfulRead ℕ) → x ≡ Ok r → length m < 4294967296 → Within o → r.tail < 4294967296
number_near o m s x is r b h w = let y = w.ends m s r.value r.tail (number_got (at o m s) x is r b) in omega arith

-- 01 or 02
module _ (k : ℕ) (m : List ℕ) (s : ℕ) (x : Read) (is : x ≡ number_of (at read_uint8 m s)) where
  pub one_or_two_none : (q : Refusal) → x ≡ Err q → ◌≡◌ {A = Read} (Err q) (number_of (at (read_one_or_two k) m s))
  unfolding read_one_or_two
  one_or_two_none q b = rw (stop _ uint8_tidy m s _ _ (number_no (at read_uint8 m s) x is q b))

  module _ (r : SuccessfulRead ℕ) (b : x ≡ Ok r) (c : Bool) (c_is : c ≡ one_or_two r.value) where
    pub one_or_two_good : c ≡ true → ◌≡◌ {A = Read} (Ok r) (number_of (at (read_one_or_two k) m s))
    unfolding read_one_or_two
    one_or_two_good e = rw (go _ uint8_tidy m s r.value r.tail (number_got (at read_uint8 m s) x is r b), pass k _ _ m r.tail (sym c_is ∙ e), gives r.value m r.tail)

    pub one_or_two_bad : c ≡ false → (q : Refusal) → q ≡ because k 0 → ◌≡◌ {A = Read} (Err q) (number_of (at (read_one_or_two k) m s))
    unfolding read_one_or_two
    one_or_two_bad e q f = rw (f, go _ uint8_tidy m s r.value r.tail (number_got (at read_uint8 m s) x is r b), fail k _ _ m r.tail (sym c_is ∙ e))

module _ (m : List ℕ) (s : ℕ) (x : Read) where
  pub version_is : x ≡ number_of (at (read_one_or_two 3) m s) → x ≡ number_of (at read_message_format_version m s)
  unfolding read_one_or_two read_message_format_version
  version_is e = e

  pub content_is : x ≡ number_of (at (read_one_or_two 17) m s) → x ≡ number_of (at read_content_type m s)
  unfolding read_one_or_two read_content_type
  content_is e = e

-- a suite
module _ (version : ℕ) (m : List ℕ) (s : ℕ) (x : Result Span Refusal) (is : x ≡ span_of (at (read 2) m s)) where
  pub suite_none : (q : Refusal) → x ≡ Err q → ◌≡◌ {A = Read} (Err q) (number_of (at (read_esdk_suite_id version) m s))
  unfolding read_esdk_suite_id read_uint16 read_uint
  suite_none q b = rw (stop _ uint16_tidy m s _ _ (stop _ (read_tidy 2) m s _ _ (span_no (at (read 2) m s) x is q b)))

  module _ (r : Span) (b : x ≡ Ok r) where
    given : Given (at (read 2) m s) r
    given = span_got (at (read 2) m s) x is r b

    two : Number 2 m s (number given.item.bytes) r.tail
    unfolding read_uint16 read_uint
    two = uint16_known m s (number given.item.bytes) r.tail (go _ (read_tidy 2) m s given.item r.tail given.is ∙ gives _ m r.tail)

    starts : r.start ≡ s
    starts = let z = sym (read_got m s 2 two.there) ∙ given.is in let y : part_of m s 2 ≡ given.item = cc in sym given.from ∙ sym (ap (λ (p : Part). p.start) y)

    pub first_in : r.start < length m
    first_in = omega (arith, starts, two.there)

    pub second_fits : s < 4294967296 → Fits w64 (r.start + 1)
    second_fits h = omega (arith, starts)

    pub second_in : r.start + 1 < length m
    second_in = omega (arith, starts, two.there)

    uint16_is : at read_uint16 m s ≡ accepted (get_or m r.start 0 * 256 + get_or m (r.start + 1) 0) r.tail
    uint16_is = rw (starts, two.tail) (uint16_got m s two.there)

    module _ (y : Option Suite) (y_is : y ≡ suite_of (get_or m r.start 0 * 256 + get_or m (r.start + 1) 0)) where
      pub suite_6 : y ≡ None → (q : Refusal) → q ≡ because 6 0 → ◌≡◌ {A = Read} (Err q) (number_of (at (read_esdk_suite_id version) m s))
      unfolding read_esdk_suite_id
      suite_6 e q f = rw (f, go _ uint16_tidy m s _ r.tail uint16_is, fail 6 _ _ m r.tail (unknown _ y y_is e))

      module _ (k : Suite) (e : y ≡ Some k) where
        pub suite_small : k.number < 65536
        suite_small = rw (suite_is _ y y_is k e).number (known_narrow _ (in_table _ y y_is k e))

        by_version : (v : Bool) → eqb k.version version ≡ v → of_version version (get_or m r.start 0 * 256 + get_or m (r.start + 1) 0) ≡ v
        by_version v j = ap (λ (z : ℕ). eqb z version) (sym (its_version _ y y_is k e)) ∙ j

        pub suite_7 : (k.version ≡ version → ⊥) → (q : Refusal) → q ≡ because 7 0 → ◌≡◌ {A = Read} (Err q) (number_of (at (read_esdk_suite_id version) m s))
        unfolding read_esdk_suite_id
        suite_7 j q f = rw (f, go _ uint16_tidy m s _ r.tail uint16_is, pass 6 _ _ m r.tail (in_table _ y y_is k e), fail 7 _ _ m r.tail (by_version false (ne_eqb _ _ j)))

        pub suite_good : k.version ≡ version → ◌≡◌ {A = Read} (Ok (record { value = k.number; tail = r.tail })) (number_of (at (read_esdk_suite_id version) m s))
        unfolding read_esdk_suite_id
        suite_good j =
            rw ((suite_is _ y y_is k e).number, go _ uint16_tidy m s _ r.tail uint16_is, pass 6 _ _ m r.tail (in_table _ y y_is k e), pass 7 _ _ m r.tail (by_version true (eq-eqb _ _ j)), gives _ m r.tail)
