-- A version 1 draft that was measured stands there, with its sections. Assumes nothing.
use Prim.Native.Nat.{ℕ, ◌-◌, ◌<◌}
use native.Mathlib.Omega.{arith}
use mir.Syntax.{w8}
use mir.Val.{Fits}
use mathlib.Core.Path.{◌≡◌, refl, sym, ap, ◌∙◌}
use mathlib.Core.Bool.{Bool, true, false, cond}
use mathlib.Core.List.{List, [], ◌∷◌}
use lib.Dec.{eqb}
use lib.ListN.{length, get_or, length-take, length-drop}
use Rattle.std.specs.Prelude.{None, Result, Ok, Err}
use Rattle.std.specs.Borrow.{Bor}
use Rattle.format.specs.Read.{accepted, at, addressable, operation}
use Rattle.format.specs.Serialize.{Bytes, write_uint16}
use Rattle.format.specs.Fields.{today, HeaderBody, fields_of}
use Rattle.format.specs.Context.{section_in, write_aad_section}
use Rattle.format.specs.Keys.{no_max}
use Rattle.format.specs.Body.{v1_only, read_body}
use Rattle.format.specs.Lent.{bytes_at}
use Rattle.format.specs.Mending.{without_tables}
use Rattle.format.specs.Reissued.{TakenOver}
use Rattle.format.proofs.Serialize.{length_uint16}
use Rattle.format.proofs.Tests.{eqb_is, is_eqb}
use Rattle.format.proofs.Body.{body_exact}
use Rattle.format.proofs.Messages.{at_took}
use Rattle.format.proofs.TakenOver.{taken_over}
use Rattle.steps.proofs.Operations.{operation_guarded, operation_reached}
use Rattle.wire.specs.declared.refusals.Refusal.{Refusal}
use Rattle.wire.specs.Buffer.{Opens}
use Rattle.wire.specs.declared.buffer.ReadableBuffer.{ReadableBuffer}
use Rattle.wire.proofs.Answers.{bytes_of}
use Rattle.wire.proofs.BufferLaws.{why}
use Rattle.request.specs.declared.Request.{Request}
use Rattle.request.specs.declared.Which.TheVariants.{V1Only}
use Rattle.request.specs.declared.Policy.TheVariants as policy
use Rattle.request.specs.declared.Mode.TheVariants.{Tolerant}
use Rattle.ends.specs.Codes.{closing_code}
use Rattle.ends.specs.declared.Closing.{Closing}
use Rattle.ends_write.proofs.VersionLaws.{one_or_two_small}
use Rattle.body_measure.specs.Codes.{Stages, Measured}
use Rattle.body_measure.specs.declared.Measurement.{Measurement}
use Rattle.body_measure.proofs.Stages.{marked_go}
use Rattle.body_measure.proofs.Parts.{opened, paired, keyed, closed, body, read_whole}
use Rattle.reissuing.specs.Codes.{InMessage, context_kept, Keeps, Stands, Found}
use Rattle.reissuing.specs.declared.storing.Draft.{Draft}

-- the context section that is kept, by its count
pub none_kept : (m : List ℕ) (x : Measurement) → x.pairCount ≡ 0 → 0 ∷ 0 ∷ [] ≡ context_kept m x
unfolding write_uint16
none_kept m x e = rw e

kept_few : (m : List ℕ) (x : Measurement) → length m < 4294967296 → length (context_kept m x) < 4294967296
kept_few m x few = by (eqb x.pairCount 0)
  where
    by : (b : Bool) → length (cond b (write_uint16 0) (bytes_at m x.contextStart (x.keysStart - x.contextStart))) < 4294967296
    by true = let l = length_uint16 0 in omega arith
    by false = simp (length-take, length-drop) (omega arith)

pub context_few : (m : List ℕ) (x : Measurement) → length m < 4294967296 → (l : List ℕ) → l ≡ context_kept m x → length l < 4294967296
context_few m x few l e = rw e (kept_few m x few)

pub part_few : (m : List ℕ) (from n : ℕ) → length m < 4294967296 → length (bytes_at m from n) < 4294967296
part_few m from n few = simp (length-take, length-drop) (omega arith)

-- how a draft is read
abbrev asked : Request
asked = record { which = V1Only; policy = policy.None; mode = Tolerant; max = None }

module _ (m : List ℕ) (s : ℕ) (x : Measurement) (stages : Stages asked m s x) (hb : Bytes m) (guard : addressable m s ≡ true) where
  abbrev b : HeaderBody
  b = body asked m s x stages

  sections : TakenOver m b x.contextStart x.keysStart x.keysEnd
  sections =
      let p = paired asked m s x stages in
      let k = keyed asked m s x stages in
      taken_over m hb (opened asked m s x stages).item x.contextStart _ x.keysStart (marked_go _ m x.contextStart _ x.keysStart p.is) k.items x.keysEnd k.is (closed asked m s x stages).item

  stand_within : InMessage m x
  stand_within = let f = sections.forward in record { context = f.0; keys = f.1; message = f.2 }

  read : at (read_body (without_tables v1_only)) m s ≡ accepted b x.tail
  read = read_whole asked m s x stages no_max no_max refl refl

  said : operation (read_body (without_tables v1_only)) m s ≡ accepted b x.tail
  said = operation_reached (read_body (without_tables v1_only)) m s guard ∙ read

  coded : closing_code (closed asked m s x stages).item ≡ x.closing
  coded = (closed asked m s x stages).gives

  narrow : b.contentType < 256
  narrow =
      let (l, y) = at_took (body_exact (without_tables v1_only)) m s hb b x.tail read in
      let same : b.contentType ≡ y.value.fields.contentType = ap (λ (z : HeaderBody). z.contentType) y.placed in
      rw same (one_or_two_small y.value.fields.contentType y.good.end.t17)

  context_is : section_in today (fields_of b).pairs ≡ context_kept m x
  unfolding fields_of write_aad_section
  context_is = by b.pairs refl (eqb x.pairCount 0) refl
    where
      long : length b.pairs ≡ x.pairCount
      long = (paired asked m s x stages).long

      by : (ps : List _) → b.pairs ≡ ps → (z : Bool) → eqb x.pairCount 0 ≡ z
          → section_in today (fields_of b).pairs ≡ cond z (write_uint16 0) (bytes_at m x.contextStart (x.keysStart - x.contextStart))
      by [] q true h = rw q refl
      by [] q false h = let n : x.pairCount ≡ 0 = sym long ∙ ap length q in let z = sym h ∙ eqb_is _ 0 n in absurd (let y : ◌≡◌ {A = ℕ} 0 1 = cc in omega arith)
      by (p ∷ ps) q true h = let n = long in let l = ap length q in let z = is_eqb x.pairCount 0 h in absurd (omega arith)
      by (p ∷ ps) q false h = sym (sections.context (λ none. (let l = ap length (sym q ∙ none) in absurd (omega arith))))

  standing : (d : Draft) → Keeps m x d → Stands m s d
  standing d kept =
      let c : b.contentType ≡ d.contentType = ap (λ (y : Closing). y.contentType) coded ∙ sym kept.contentType in
      let n = narrow in
      record {
        body = b;
        tail = x.tail;
        reads = said;
        contentType = c;
        frameLength = ap (λ (y : Closing). y.frameLength) coded ∙ sym kept.frameLength;
        narrow = omega arith;
        context = context_is ∙ sym kept.context;
        keys = sym (kept.keys ∙ sections.keys);
      }

-- a buffer that is opened, and measured by that request
module _ (m : Bor (List ℕ)) (s : ℕ) (y : Result ReadableBuffer Refusal) (opens : Opens m s y) where
  pub found_none : (w : Refusal) → y ≡ Err w → Found m.now s (Err w)
  found_none w e =
      let (f, g) = why m s y opens w e in
      record {
        refuses = λ v h. (let z : w ≡ v = cc in rw (← z, f) (operation_guarded (read_body (without_tables v1_only)) m.now s g));
        accepts = λ d h. cc;
      }

  module _ (buffer : ReadableBuffer) (ok : y ≡ Ok buffer) (q : Request) (v1 : q.which ≡ V1Only) (rest : (q.policy ≡ policy.None) × ((q.mode ≡ Tolerant) × (q.max ≡ None))) (a : Result Measurement Refusal)
      (said : Measured q buffer.bytes.now buffer.start a) where
    measured : (addressable m.now s ≡ true) × Measured asked m.now s a
    measured =
        let (same, front, guard) : Opens m s (Ok buffer) = rw ok at opens in
        (guard, rw (v1, rest.0, rest.1.0, rest.1.1, same, front) at said)

    pub found_not : (w : Refusal) → a ≡ Err w → Found m.now s (Err w)
    found_not w e =
        let (guard, it) = measured in
        record {
          refuses = λ v f. (let z : w ≡ v = cc in rw (← z) (operation_reached (read_body (without_tables v1_only)) m.now s guard ∙ it.refuses w e no_max no_max));
          accepts = λ d f. cc;
        }

    module _ (x : Measurement) (e : a ≡ Ok x) (bytes : (i : ℕ) → Fits w8 (get_or m.now i 0)) where
      pub found_within : InMessage buffer.bytes.now x
      found_within =
          let (same, front, guard) : Opens m s (Ok buffer) = rw ok at opens in
          rw same (stand_within m.now s x (measured.1.accepts x e) (bytes_of m.now bytes) guard)

      pub found_is : (d : Draft) → Keeps buffer.bytes.now x d → Found m.now s (Ok d)
      found_is d kept =
          let (same, front, guard) : Opens m s (Ok buffer) = rw ok at opens in
          record {
            refuses = λ v f. cc;
            accepts = λ d' f. (let z : d ≡ d' = cc in rw (← z) (standing m.now s x (measured.1.accepts x e) (bytes_of m.now bytes) guard d (rw same at kept)));
          }
