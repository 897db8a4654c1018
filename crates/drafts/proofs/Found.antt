-- A draft that was measured stands at the front of its buffer. Assumes nothing.
use Prim.Native.Nat.{ℕ, zero, suc, ◌+◌, ◌≤◌, ◌<◌}
use native.Mathlib.Omega.{arith}
use mir.Syntax.{w8}
use mir.Val.{Fits}
use mathlib.Core.Path.{◌≡◌, refl, sym, ap, subst, ◌∙◌}
use mathlib.Core.Bool.{true}
use mathlib.Core.List.{List, map}
use lib.ListN.{length, get_or}
use Rattle.std.specs.Prelude.{Result, Ok, Err, None}
use Rattle.std.specs.Borrow.{Bor}
use Rattle.format.specs.Read.{accepted, addressable, operation}
use Rattle.format.specs.Serialize.{Bytes}
use Rattle.format.specs.Fields.{HeaderBody, fields_of, key_of}
use Rattle.format.specs.Keys.{no_max}
use Rattle.format.specs.Body.{either}
use Rattle.format.specs.Mending.{read_draft}
use Rattle.format.specs.Mended.{Apart}
use Rattle.format.specs.Places.{items_end, keys_end}
use Rattle.format.proofs.Apart.{apart}
use Rattle.format.proofs.Drafts.{section_length, few_keys}
use Rattle.steps.proofs.Operations.{operation_guarded, operation_reached}
use Rattle.wire.specs.Buffer.{Opens}
use Rattle.wire.specs.declared.refusals.Refusal.{Refusal}
use Rattle.wire.specs.declared.buffer.ReadableBuffer.{ReadableBuffer}
use Rattle.wire.proofs.Answers.{bytes_of}
use Rattle.wire.proofs.BufferLaws.{why}
use Rattle.request.specs.declared.Request.{Request}
use Rattle.request.specs.declared.Which.TheVariants.{Either}
use Rattle.request.specs.declared.Policy.TheVariants as policy
use Rattle.request.specs.declared.Mode.TheVariants.{Tolerant}
use Rattle.body_measure.specs.Codes.{Stages, Measured}
use Rattle.body_measure.specs.declared.Measurement.{Measurement}
use Rattle.body_measure.proofs.Stages.{marked_go}
use Rattle.body_measure.proofs.Parts.{opened, paired, keyed, closed, body, read_whole}
use Rattle.drafts.specs.Codes.{Stands, Found}

-- how a draft is read
abbrev asked : Request
asked = record { which = Either; policy = policy.None; mode = Tolerant; max = None }

module _ (m : List ℕ) (x : Measurement) (stages : Stages asked m 0 x) (hb : Bytes m) (few : length m < 4294967296) (guard : addressable m 0 ≡ true) where
  abbrev b : HeaderBody
  b = body asked m 0 x stages

  parts : Apart m b x.keysStart x.keysEnd x.tail
  parts =
      let o = opened asked m 0 x stages in
      let p = paired asked m 0 x stages in
      let k = keyed asked m 0 x stages in
      let c = closed asked m 0 x stages in
      apart either m hb o.item x.contextStart o.is _ x.keysStart (marked_go _ m x.contextStart _ x.keysStart p.is) k.items x.keysEnd k.is c.item x.tail c.is

  all_inside : (n : ℕ) → n ≡ x.keyCount → keys_end m n (x.keysStart + 2) ≤ length m
  unfolding items_end
  all_inside zero e = let p = parts.section in let l = section_length (fields_of b).keys in let y = parts.ended in let z = parts.within in omega arith
  all_inside (suc n) e = subst (λ k. keys_end m k (x.keysStart + 2) ≤ length m) (sym e) ((keyed asked m 0 x stages).inside (omega arith))

  said : operation read_draft m 0 ≡ accepted b x.tail
  unfolding read_draft
  said = operation_reached read_draft m 0 guard ∙ read_whole asked m 0 x stages no_max no_max refl refl

  standing : Stands m x
  unfolding fields_of
  standing =
      let k = keyed asked m 0 x stages in
      record {
        body = b;
        reads = said;
        apart = parts;
        are = ap (map key_of) k.are;
        long = k.long;
        inside = all_inside x.keyCount refl;
        bytes = hb;
        counted = rw (← k.long) (few_keys m hb b x.tail said);
        few = few;
      }

-- a buffer that is opened, and measured
module _ (m : Bor (List ℕ)) (y : Result ReadableBuffer Refusal) (opens : Opens m 0 y) where
  pub found_not : (q : Refusal) → y ≡ Err q → Found m.now (Err q)
  found_not q e =
      let (f, g) = why m 0 y opens q e in
      record {
        refuses = λ q' h. (let z : q ≡ q' = cc in rw (← z, f) (operation_guarded read_draft m.now 0 g));
        accepts = λ d h. (let z : ◌≡◌ {A = ℕ} 0 1 = cc in absurd (omega arith));
      }

  module _ (buffer : ReadableBuffer) (e : y ≡ Ok buffer) (r : Request) (rIs : r ≡ asked) (bytes : (i : ℕ) → Fits w8 (get_or m.now i 0)) (a : Result Measurement Refusal) where
    pub found_is : Measured r buffer.bytes.now buffer.start a → Found m.now a
    unfolding read_draft
    found_is h =
        let (same, front, guard) : Opens m 0 (Ok buffer) = rw e at opens in
        let measured : Measured asked m.now 0 a = rw (rIs, same, front) at h in
        record {
          refuses = λ q f. operation_reached read_draft m.now 0 guard ∙ measured.refuses q f no_max no_max;
          accepts = λ d f. standing m.now d (measured.accepts d f) (bytes_of m.now bytes) (rw same at buffer.small) guard;
        }
