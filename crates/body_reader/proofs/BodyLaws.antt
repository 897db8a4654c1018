-- The ways out of the body reader, one law each. Assumes nothing.
use Prim.Native.Nat.{ℕ, ◌+◌, ◌*◌, ◌/◌, ◌≤◌, ◌<◌}
use native.Mathlib.Omega.{arith}
use mathlib.Core.Path.{◌≡◌, refl, sym, ap, ◌∙◌}
use mathlib.Core.List.{List}
use borrow.Author.Tests.{le-leb, lt-leb}
use lib.ListN.{length}
use Rattle.std.specs.Prelude.{Result, Ok, Err}
use Rattle.std.specs.Borrow.{Bor}
use Rattle.format.specs.Read.{Reader, Answer, refused, at, operation}
use Rattle.format.specs.Serialize.{images}
use Rattle.format.specs.Fields.{form_number}
use Rattle.format.specs.Fields.{HeaderBody as BodyRead}
use Rattle.format.specs.Context.{form_ending}
use Rattle.format.specs.Keys.{at_most}
use Rattle.format.specs.Body.{read_header_body_under}
use Rattle.format.specs.Lent.{place, filled, pair_table_after, key_table_after}
use Rattle.format.specs.Places.{entries_here, entries_end}
use Rattle.steps.proofs.Operations.{operation_guarded}
use Rattle.wire.specs.Codes.{because}
use Rattle.wire.specs.Buffer.{from, Opens}
use Rattle.wire.specs.declared.refusals.Refusal.{Refusal}
use Rattle.wire.specs.declared.SuccessfulRead.{SuccessfulRead}
use Rattle.wire.specs.declared.buffer.ReadableBuffer.{ReadableBuffer}
use Rattle.wire.proofs.BufferLaws.{operation_from, why}
use Rattle.request.specs.Codes.{which_of, policy_of, mode_of, max_of}
use Rattle.request.specs.declared.Request.{Request}
use Rattle.ends.specs.declared.Opening.{Opening}
use Rattle.ends.specs.declared.Closing.{Closing}
use Rattle.body_measure.specs.Codes.{Stages, Measured}
use Rattle.body_measure.specs.declared.Measurement.{Measurement}
use Rattle.body_measure.proofs.MeasureLaws.{opening_in, context_in}
use Rattle.body_measure.proofs.Parts.{opened, paired, keyed, closed, no_pair_room, no_key_room, read_whole}
use Rattle.body_reader.specs.Codes.{body_of, ReadsBody, body_with}
use Rattle.body_reader.specs.declared.HeaderBody.{HeaderBody}

abbrev Read : Type 0
Read = Result (SuccessfulRead HeaderBody) Refusal

-- what the definition is asked, with tables
abbrev under : Request → List ℕ → List ℕ → Reader BodyRead
under q pt kt = read_header_body_under (policy_of q.policy) (which_of q.which) (mode_of q.mode) (max_of q.max) (length pt) (length kt)

-- a refusal leaves both tables
refuses : (o : Answer BodyRead) (pt kt : List ℕ) (e : Refusal) → o ≡ refused e.number e.position → ReadsBody o pt pt kt kt (Err e)
refuses o pt kt e f = record { answer = sym (rw f); pairTable = sym (rw f); keyTable = sym (rw f) }

same_body : (o o' : Opening) (form np np' nk nk' : ℕ) (c c' : Closing) (t : ℕ) → o ≡ o' → np ≡ np' → nk ≡ nk' → c ≡ c'
    → ◌≡◌ {A = Read} (Ok (record { value = body_with o form np nk c; tail = t })) (Ok (record { value = body_with o' form np' nk' c'; tail = t }))
same_body o o' form np np' nk nk' c c' t p q r s = rw (p, q, r, s)

-- as an operation, which opens a buffer and goes on
module _ (q : Request) (m : Bor (List ℕ)) (s : ℕ) (pt kt : List ℕ) (x : Result ReadableBuffer Refusal) (opens : Opens m s x) where
  pub body_on : (b : ReadableBuffer) → x ≡ Ok b → (pt' kt' : List ℕ) (r : Read) → ReadsBody (from (under q pt kt) b) pt pt' kt kt' r → ReadsBody (operation (under q pt kt) m.now s) pt pt' kt kt' r
  body_on b is pt' kt' r f = rw (operation_from m s x opens b is (under q pt kt)) at f

  pub body_none : (e : Refusal) → x ≡ Err e → ReadsBody (operation (under q pt kt) m.now s) pt pt kt kt (Err e)
  body_none e is = let (f, g) = why m s x opens e is in refuses _ pt kt e (rw f (operation_guarded (under q pt kt) m.now s g))

-- what was measured
module _ (q : Request) (m : List ℕ) (start : ℕ) (a : Result Measurement Refusal) (a_is : Measured q m start a) where
  pub body_not : (pt kt : List ℕ) (e : Refusal) → a ≡ Err e → ReadsBody (at (under q pt kt) m start) pt pt kt kt (Err e)
  unfolding read_header_body_under
  body_not pt kt e b = refuses _ pt kt e (a_is.refuses e b (at_most (length pt)) (at_most (length kt)))

  module _ (x : Measurement) (b : a ≡ Ok x) where
    stages : Stages q m start x
    stages = a_is.accepts x b

    -- where the pairs and the keys stand
    pub first_within : x.contextStart ≤ length m
    first_within = opening_in q m start _ refl _ stages.opens

    pub second_within : x.keysStart ≤ length m
    second_within = context_in q m x.contextStart _ refl _ stages.pairs

    pub pairs_stand : 0 < 2 * x.pairCount → entries_end m (2 * x.pairCount) (x.contextStart + 4) ≤ length m
    pairs_stand = (paired q m start x stages).entries

    pub keys_stand : 0 < 3 * x.keyCount → entries_end m (3 * x.keyCount) (x.keysStart + 2) ≤ length m
    keys_stand = (keyed q m start x stages).entries

    module _ (pt kt : List ℕ) where
      pub body_22 : length pt / 4 < x.pairCount → (e : Refusal) → e ≡ because 22 0 → ReadsBody (at (under q pt kt) m start) pt pt kt kt (Err e)
      unfolding read_header_body_under
      body_22 l e f = refuses _ pt kt e (rw f (no_pair_room q m start x stages (at_most (length pt)) (at_most (length kt)) (lt-leb (4 * x.pairCount) (length pt) (omega arith))))

      module _ (l : x.pairCount ≤ length pt / 4) where
        pub body_23 : length kt / 6 < x.keyCount → (e : Refusal) → e ≡ because 23 0 → ReadsBody (at (under q pt kt) m start) pt pt kt kt (Err e)
        unfolding read_header_body_under
        body_23 j e f =
            refuses _ pt kt e
            (rw f (no_key_room q m start x stages (at_most (length pt)) (at_most (length kt)) (le-leb (4 * x.pairCount) (length pt) (omega arith)) (lt-leb (6 * x.keyCount) (length kt) (omega arith))))

        pub body_whole : x.keyCount ≤ length kt / 6 → (pt' kt' : List ℕ) → pt' ≡ filled (images place (entries_here m (2 * x.pairCount) (x.contextStart + 4))) pt
            → kt' ≡ filled (images place (entries_here m (3 * x.keyCount) (x.keysStart + 2))) kt
            → (h : HeaderBody) → h ≡ body_with x.opening (form_number (form_ending (x.contextStart + 4) x.keysStart)) x.pairCount x.keyCount x.closing
            → ReadsBody (at (under q pt kt) m start) pt pt' kt kt' (Ok (record { value = h; tail = x.tail }))
        unfolding read_header_body_under
        body_whole j pt' kt' p k h g =
            let e =
            read_whole q m start x stages (at_most (length pt)) (at_most (length kt)) (le-leb (4 * x.pairCount) (length pt) (omega arith)) (le-leb (6 * x.keyCount) (length kt) (omega arith))
            in
            record {
              answer = rw g (same_body _ _ _ _ _ _ _ _ _ x.tail (sym (opened q m start x stages).gives) (sym (paired q m start x stages).long) (sym (keyed q m start x stages).long) (sym (closed q m start x stages).gives)) ∙ sym (ap body_of e);
              pairTable = p ∙ ap (λ (l : List ℕ). filled l pt) (paired q m start x stages).numbers ∙ sym (ap (λ (y : Answer BodyRead). pair_table_after y pt) e);
              keyTable = k ∙ ap (λ (l : List ℕ). filled l kt) (keyed q m start x stages).numbers ∙ sym (ap (λ (y : Answer BodyRead). key_table_after y kt) e);
            }
