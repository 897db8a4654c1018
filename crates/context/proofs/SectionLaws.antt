-- The ways out of the functions that read a section, one law each. Assumes nothing.
use mathlib.Core.Path.{◌≡◌, refl, sym, ap, subst, ◌∙◌}
use mathlib.Core.Bool.{true, false, not, ◌&&◌, ◌||◌}
use mathlib.Core.List.{List, []}
use Prim.Native.Nat.{ℕ, suc, ◌+◌, ◌≤◌, ◌<◌}
use native.Mathlib.Omega.{arith}
use mir.Syntax.{w64}
use mir.Val.{Fits}
use borrow.Author.Tests.{eq-eqb, ne_eqb}
use lib.Dec.{eqb}
use lib.ListN.{length}
use Rattle.std.specs.Prelude.{Result, Ok, Err}
use Rattle.std.specs.Result.{IsErr}
use Rattle.format.specs.Read.{◌>>◌, test, end_at, Answer, accepted, refused, repeat, enclosed, at}
use Rattle.format.specs.Serialize.{read_uint16}
use Rattle.format.specs.Fields.{PairAt}
use Rattle.format.specs.Context.{is_strict, read_next_aad_pair, read_aad_by, read_aad, read_aad_of, read_aad_section}
use Rattle.format.specs.Places.{number16}
use Rattle.format.proofs.Tests.{leb_is, nleb_is}
use Rattle.steps.proofs.Tidy.{uint16_tidy}
use Rattle.steps.proofs.Steps.{go, stop, pass, fail, held_pass, held_fail, gives, all_read}
use Rattle.steps.proofs.Enclosed.{enclosed_lacks, enclosed_stops, enclosed_ends, enclosed_differs}
use Rattle.steps.proofs.Numbers.{Number, uint16_got, uint16_known}
use Rattle.wire.specs.Codes.{because, number_of}
use Rattle.wire.specs.declared.refusals.Refusal.{Refusal}
use Rattle.wire.specs.declared.SuccessfulRead.{SuccessfulRead}
use Rattle.wire.specs.Buffer.{IsAt}
use Rattle.wire.specs.declared.buffer.ReadableBuffer.{ReadableBuffer}
use Rattle.wire.proofs.Answers.{number_got, number_no}
use Rattle.request.specs.Codes.{mode_of}
use Rattle.request.specs.declared.Mode.{Mode}
use Rattle.request.specs.declared.Mode.TheVariants.{Tolerant, Strict}
use Rattle.entries.specs.Codes.{next_of, counted}
use Rattle.entries.proofs.Answers.{Went, next_got, next_no}
use Rattle.entries.proofs.Walk.{all_length}
use Rattle.context.specs.Codes.{old_of}
use Rattle.context.specs.Stepping.{Space, AfterAll, ReadAll, Indexes}
use Rattle.pair_index.proofs.SeenLaws.{indexed_start}
use Rattle.context.proofs.Known.{next_pair_tidy, pair_kind}

abbrev Read : Type 0
Read = Result (SuccessfulRead ℕ) Refusal

-- the count that stands in a section of length n, by the tests on it
module _ (mode : Mode) (m : List ℕ) (s n count : ℕ) (room : 2 ≤ n) (there : s + 2 ≤ length m) (is : count ≡ number16 m s) where
  abbrev aad : Answer (List PairAt)
  aad = at (read_aad (mode_of mode) n (end_at (s + n))) m s

  c : at read_uint16 m s ≡ accepted count (s + 2)
  c = uint16_got m s there ∙ ap (λ (k : ℕ). accepted k (s + 2)) (sym is)

  tests : aad
      ≡ at
      (test 8 (not (eqb n 2) || eqb count 0) >> (test 21 (not (eqb n 2 && is_strict (mode_of mode))) >> (test 9 (eqb n 2 || not (eqb count 0)) >> repeat count (read_next_aad_pair (end_at (s + n))) [])))
      m (s + 2)
  unfolding read_aad read_aad_by
  tests = held_pass (end_at (s + n)) 2 _ m s (nleb_is (suc (s + n)) (s + 2) (omega arith)) ∙ go _ uint16_tidy m s count (s + 2) c

  aad_8 : n ≡ 2 → (count ≡ 0 → ⊥) → aad ≡ refused 8 0
  aad_8 h k = tests ∙ rw (eq-eqb n 2 h, ne_eqb count 0 k) (fail 8 false _ m (s + 2) refl)

  aad_9 : (n ≡ 2 → ⊥) → count ≡ 0 → aad ≡ refused 9 0
  aad_9 h k = tests ∙ rw (ne_eqb n 2 h, eq-eqb count 0 k) (pass 8 true _ m (s + 2) refl ∙ pass 21 true _ m (s + 2) refl ∙ fail 9 false _ m (s + 2) refl)

  aad_many : (n ≡ 2 → ⊥) → (count ≡ 0 → ⊥) → aad ≡ at (repeat count (read_next_aad_pair (end_at (s + n))) []) m (s + 2)
  aad_many h k = tests ∙ rw (ne_eqb n 2 h, ne_eqb count 0 k) (pass 8 true _ m (s + 2) refl ∙ pass 21 true _ m (s + 2) refl ∙ pass 9 true _ m (s + 2) refl)

  aad_old : n ≡ 2 → count ≡ 0 → mode ≡ Tolerant → aad ≡ accepted [] (s + 2)
  aad_old h k e =
      tests
      ∙ rw (eq-eqb n 2 h, k, e) (pass 8 true _ m (s + 2) refl ∙ pass 21 true _ m (s + 2) refl ∙ pass 9 true _ m (s + 2) refl ∙ all_read _ (next_pair_tidy (end_at (s + n))) m [] (s + 2))

  aad_21 : n ≡ 2 → count ≡ 0 → mode ≡ Strict → aad ≡ refused 21 0
  aad_21 h k e = tests ∙ rw (eq-eqb n 2 h, k, e) (pass 8 true _ m (s + 2) refl ∙ fail 21 false _ m (s + 2) refl)

-- what follows the length
module _ (mode : Mode) (m : List ℕ) (s n : ℕ) (g : s + n ≤ length m) where
  abbrev enclosed_at : Answer (List PairAt)
  enclosed_at = at (enclosed n 14 (read_aad (mode_of mode) n)) m s

  stops : (k p : ℕ) → at (read_aad (mode_of mode) n (end_at (s + n))) m s ≡ refused k p → enclosed_at ≡ refused k p
  stops k p e = enclosed_stops n 14 (read_aad (mode_of mode) n) m s (omega arith) g k p e

  -- a length of 1 has no room for the count
  pub counted_32 : n < 2 → (q : Refusal) → q ≡ because 32 0 → ◌≡◌ {A = Read} (Err q) (counted enclosed_at)
  unfolding read_aad
  counted_32 h q f = rw (f, stops 32 0 (held_fail (end_at (s + n)) 2 _ m s (leb_is (suc (s + n)) (s + 2) (omega arith))))

  module _ (room : 2 ≤ n) where
    pub counted_there : s + 2 ≤ length m
    counted_there = omega arith

    module _ (count : ℕ) (is : count ≡ number16 m s) where
      pub counted_old : (r : Read) → n ≡ 2 → count ≡ 0 → r ≡ old_of mode (s + 2) → r ≡ counted enclosed_at
      counted_old r h k f = f ∙ by mode refl
        where
          by : (w : Mode) → mode ≡ w → old_of mode (s + 2) ≡ counted enclosed_at
          by Tolerant e =
              let o = enclosed_ends n 14 (read_aad (mode_of mode) n) m s (omega arith) g [] (s + 2) (aad_old mode m s n count room counted_there is h k e) (omega arith) in
              ap (λ (w : Mode). old_of w (s + 2)) e ∙ sym (ap counted o)
          by Strict e = ap (λ (w : Mode). old_of w (s + 2)) e ∙ sym (ap counted (stops 21 0 (aad_21 mode m s n count room counted_there is h k e)))

      pub counted_8 : n ≡ 2 → (count ≡ 0 → ⊥) → (q : Refusal) → q ≡ because 8 0 → ◌≡◌ {A = Read} (Err q) (counted enclosed_at)
      counted_8 h k q f = rw (f, stops 8 0 (aad_8 mode m s n count room counted_there is h k))

      pub counted_9 : (n ≡ 2 → ⊥) → count ≡ 0 → (q : Refusal) → q ≡ because 9 0 → ◌≡◌ {A = Read} (Err q) (counted enclosed_at)
      counted_9 h k q f = rw (f, stops 9 0 (aad_9 mode m s n count room counted_there is h k))

      module _ (h : n ≡ 2 → ⊥) (k : count ≡ 0 → ⊥) (room' : ℕ) (keys : List ℕ) (e : Result ℕ Refusal) (all : ReadAll m (s + 2) (s + n) count room' keys e) where
        abbrev pairs : Answer (List PairAt)
        pairs = at (repeat count (read_next_aad_pair (end_at (s + n))) []) m (s + 2)

        eIs : e ≡ next_of pairs
        eIs = all.answer

        pub counted_stop : (q : Refusal) → e ≡ Err q → ◌≡◌ {A = Read} (Err q) (counted enclosed_at)
        counted_stop q d = rw (stops _ _ (aad_many mode m s n count room counted_there is h k ∙ next_no pairs e eIs q d))

        module _ (t : ℕ) (d : e ≡ Ok t) where
          went : Went pairs t
          went = next_got pairs e eIs t d

          abbrev read : at (read_aad (mode_of mode) n (end_at (s + n))) m s ≡ accepted went.item t
          read = aad_many mode m s n count room counted_there is h k ∙ went.is

          pub counted_14 : (t ≡ s + n → ⊥) → (q : Refusal) → q ≡ because 14 0 → ◌≡◌ {A = Read} (Err q) (counted enclosed_at)
          counted_14 j q f = rw (f, enclosed_differs n 14 (read_aad (mode_of mode) n) m s (omega arith) g went.item t read j)

          pub counted_whole : t ≡ s + n → ◌≡◌ {A = Read} (Ok (record { value = count; tail = t })) (counted enclosed_at)
          counted_whole j =
              rw (
                enclosed_ends n 14 (read_aad (mode_of mode) n) m s (omega arith) g went.item t read j,
                all_length (pair_kind (end_at (s + n))) m count (s + 2) counted_there went.item t went.is,
              )

-- where the section's pairs may stand
pub counted_space : (m : List ℕ) (s n : ℕ) → s + n ≤ length m → n < 65536 → 2 ≤ n → Space m (s + 2) (s + n)
counted_space m s n g few room = record { near = omega arith; inside = g }

-- a section at a place
module _ (mode : Mode) (m : List ℕ) (s : ℕ) (x : Read) (is : x ≡ number_of (at read_uint16 m s)) where
  pub section_none : (q : Refusal) → x ≡ Err q → ◌≡◌ {A = Read} (Err q) (counted (at (read_aad_section (mode_of mode)) m s))
  unfolding read_aad_section
  section_none q b = rw (stop _ uint16_tidy m s _ _ (number_no (at read_uint16 m s) x is q b))

  module _ (n : SuccessfulRead ℕ) (b : x ≡ Ok n) where
    d : at read_uint16 m s ≡ accepted n.value n.tail
    d = number_got (at read_uint16 m s) x is n b

    at_empty : n.value ≡ 0 → at (read_aad_section (mode_of mode)) m s ≡ accepted [] n.tail
    unfolding read_aad_section read_aad_of
    at_empty z = go _ uint16_tidy m s n.value n.tail d ∙ rw (eq-eqb n.value 0 z) (gives [] m n.tail)

    at_rest : (n.value ≡ 0 → ⊥) → at (read_aad_section (mode_of mode)) m s ≡ at (enclosed n.value 14 (read_aad (mode_of mode) n.value)) m n.tail
    unfolding read_aad_section read_aad_of
    at_rest z = go _ uint16_tidy m s n.value n.tail d ∙ rw (ne_eqb n.value 0 z)

    pub section_empty : n.value ≡ 0 → ◌≡◌ {A = Read} (Ok (record { value = 0; tail = n.tail })) (counted (at (read_aad_section (mode_of mode)) m s))
    section_empty z = rw (at_empty z)

    module _ (z : n.value ≡ 0 → ⊥) where
      pub section_short : length m < n.tail + n.value → (q : Refusal) → q ≡ because 2 (n.tail + n.value) → ◌≡◌ {A = Read} (Err q) (counted (at (read_aad_section (mode_of mode)) m s))
      section_short h q f =
          let y = uint16_known m s n.value n.tail d in
          rw (f, at_rest z, enclosed_lacks n.value 14 (read_aad (mode_of mode) n.value) m n.tail (omega arith) h)

      pub section_rest : (r : Read) → r ≡ counted (at (enclosed n.value 14 (read_aad (mode_of mode) n.value)) m n.tail) → r ≡ counted (at (read_aad_section (mode_of mode)) m s)
      section_rest r f = f ∙ sym (ap counted (at_rest z))

module _ (m : List ℕ) (s : ℕ) (x : Read) (is : x ≡ number_of (at read_uint16 m s)) (n : SuccessfulRead ℕ) (b : x ≡ Ok n) where
  known : Number 2 m s n.value n.tail
  known = uint16_known m s n.value n.tail (number_got (at read_uint16 m s) x is n b)

  pub length_fits : length m < 4294967296 → n.value < 65536 → Fits w64 (n.tail + n.value)
  length_fits h k = let y = known in omega arith

  pub indexes_rest : (room : ℕ) (keys : List ℕ) (r : Read) → Indexes m (n.tail + 2) room keys r → Indexes m (s + 4) room keys r
  indexes_rest room keys r h = let y = known in let z : s + 4 ≡ n.tail + 2 = omega arith in rw z h

-- the index of a section that is read from another place of a buffer
pub indexes_place : {b c : ReadableBuffer} {t : ℕ} → IsAt b t c → (room : ℕ) (keys : List ℕ) (r : Read) → Indexes c.bytes.now (c.start + 2) room keys r → Indexes b.bytes.now (t + 2) room keys r
indexes_place is room keys r h = rw (is.message, is.start) at h

-- the index afterwards, by the way out
module _ (m : List ℕ) (first room : ℕ) (keys : List ℕ) where
  pub indexes_refused : (r : Read) → IsErr r → Indexes m first room keys r
  indexes_refused (Ok x) h = cc
  indexes_refused (Err q) h = record { after = tt }

  pub indexes_empty : (t : ℕ) → Indexes m first room keys (Ok (record { value = 0; tail = t }))
  indexes_empty t = record { after = λ _. record { room = omega arith; indexed = indexed_start m first keys } }

  pub indexes_old : (r : Read) (mode : Mode) (t : ℕ) → r ≡ old_of mode t → Indexes m first room keys r
  indexes_old r Tolerant t e = rw e (indexes_empty t)
  indexes_old r Strict t e = rw e (record { after = tt })

  pub indexes_pairs : (end n : ℕ) (e : Result ℕ Refusal) → ReadAll m first end n room keys e → (t : ℕ) → e ≡ Ok t → (u : ℕ) → Indexes m first room keys (Ok (record { value = n; tail = u }))
  indexes_pairs end n e all t d u = record { after = subst (AfterAll m first n room keys) d all.after }
