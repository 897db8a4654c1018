-- Sentence 1: the tolerant either-version reader accepts just the images of the two writers. Assumes nothing.
use mathlib.Core.Path.{◌≡◌, refl, sym, ap, ◌∙◌}
use mathlib.Core.Bool.{true}
use mathlib.Core.List.{List, [], ◌∷◌, ◌++◌}
use Prim.Native.Nat.{ℕ, ◌+◌, ◌-◌, ◌≤◌}
use native.Mathlib.Omega.{arith}
use lib.ListN.{length, drop, length-append, length-drop}
use Rattle.format.specs.Read.{Answer, accepted, refused, success, operation}
use Rattle.format.specs.Serialize.{Bytes}
use Rattle.format.specs.Fields.{Form, today, old, Pair, Fields, HeaderBody, fields_of}
use Rattle.format.specs.Context.{tolerant}
use Rattle.format.specs.Keys.{Max}
use Rattle.format.specs.Policies.{Policy, no_policy, lets_read}
use Rattle.format.specs.Body.{Request, either, request_under, request, read_body, read_header_body_under, read_header_body, image}
use Rattle.format.specs.First.{FirstApplies, operation_list, FirstRefusal, body_list}
use Rattle.format.specs.Places.{body_here, body_end}
use Rattle.format.specs.Demand3.{Writer, todays, the_old, mark_by, image_by, Stands, Gives, Sentence1}
use Rattle.format.specs.Checks.{fits_form}
use Rattle.format.proofs.Tests.{leb_is, is_leb}
use Rattle.format.proofs.Marked.{old_has_none}
use Rattle.format.proofs.Body.{Sent, BodyOk, sent_bytes, body_at, body_exact, fields_at, some_bytes}
use Rattle.format.proofs.Accepts.{Good, good, accepts, body_good}
use Rattle.format.proofs.Messages.{accepted_took, operation_here, operation_long, operation_far}
use Rattle.format.proofs.Held.{body_held}
use Rattle.format.proofs.FirstBody.{first_refusals}

-- the writer that is given a mark which fits
pub writer_of : Form → Writer
writer_of today = todays
writer_of old = the_old

pub its_mark : (form : Form) (ps : List Pair) → fits_form form (length ps) ≡ true → mark_by (writer_of form) ps ≡ form
unfolding writer_of
its_mark today ps e = refl
its_mark old [] e = refl
its_mark old (p ∷ ps) e = old_has_none p ps e

module _ (policy : Policy) (max : Max) (pairRoom keyRoom : ℕ) (m : List ℕ) (s : ℕ) where
  abbrev q : Request
  q = request_under policy either tolerant true max pairRoom keyRoom

  abbrev said : Answer HeaderBody
  said = operation (read_header_body_under policy either tolerant max pairRoom keyRoom) m s

  pub only : Bytes m → (b : HeaderBody) (t : ℕ) → said ≡ accepted b t
      → (w : Writer) × (f : Fields) × Stands max pairRoom keyRoom m s w f × (lets_read policy f.version ≡ true) × Gives m b f × (b.form ≡ mark_by w f.pairs) × (t ≡ s + length (image_by w f))
  unfolding read_header_body_under
  only hb b t e =
      let (l, x) = accepted_took (body_exact q) m s hb b t e in
      let v : Sent = x.value in
      let g : BodyOk q v = x.good in
      let k : mark_by (writer_of v.form) v.fields.pairs ≡ v.form = its_mark v.form v.fields.pairs g.context.fits in (
        writer_of v.form,
        v.fields,
        record {
          accepts = rw k (accepts v.form v.fields (body_good q refl v g));
          after = l;
          bytes = rw k x.split;
          pairs_held = is_leb _ _ g.t22;
          keys_held = is_leb _ _ g.t23;
          max_not_passed = g.keys.below;
        },
        g.top.t39,
        record { fields = ap fields_of x.placed ∙ fields_at s v; placed = rw x.placed (body_held m q s v g (record { after = l; is = x.split })) },
        ap (λ (y : HeaderBody). y.form) x.placed ∙ sym k,
        rw k x.tail,
      )

  start_fits : length m ≤ 4294967295 → (x : Sent) (after : List ℕ) → drop s m ≡ sent_bytes x ++ after → s ≤ 4294967295
  start_fits fits x after e =
      let d : length m - s ≡ length (sent_bytes x ++ after) = sym (length-drop s m) ∙ ap length e in
      let a = length-append (sent_bytes x) after in
      let b = some_bytes x in
      omega arith

  pub all : length m ≤ 4294967295 → (w : Writer) (f : Fields) → Stands max pairRoom keyRoom m s w f → lets_read policy f.version ≡ true
      → (b : HeaderBody) × (said ≡ accepted b (s + length (image_by w f))) × Gives m b f × (b.form ≡ mark_by w f.pairs)
  unfolding read_header_body_under
  all fits w f h lets =
      let form = mark_by w f.pairs in
      let x : Sent = record { form = form; fields = f } in
      let g : Good form f = good form f h.accepts in
      let ok : BodyOk q x =
      record {
        top = record { lead = g.top.lead; t39 = lets; sized = g.top.sized };
        context = record { section = record { allowed = tt; few = g.few_pairs; each = g.pairs }; fits = g.t33 };
        keys = record { list = g.keys; below = h.max_not_passed };
        end = g.end;
        t20 = g.t20;
        t22 = leb_is _ _ h.pairs_held;
        t23 = leb_is _ _ h.keys_held;
      } in
      let e : read_body q (image form f ++ h.after) s ≡ success (body_at s x) h.after (s + length (image form f)) = (body_exact q).complete x s h.after ok in (
        body_at s x,
        rw (operation_here (read_body q) m s fits (start_fits fits x h.after h.bytes), h.bytes, e) refl,
        record { fields = fields_at s x; placed = body_held m q s x ok (record { after = h.after; is = h.bytes }) },
        refl,
      )

module _ (max : Max) (pairRoom keyRoom : ℕ) (m : List ℕ) (s : ℕ) where
  abbrev asked : Request
  asked = request either tolerant true max pairRoom keyRoom

  abbrev answered : Answer HeaderBody
  answered = operation (read_header_body either tolerant max pairRoom keyRoom) m s

  listed : FirstRefusal (read_header_body either tolerant max pairRoom keyRoom) (body_list asked) body_here body_end m s
  unfolding read_header_body_under
  listed = first_refusals.of_body asked m s

  otherwise : Bytes m → ((w : Writer) (f : Fields) → Stands max pairRoom keyRoom m s w f → ⊥)
      → (k : ℕ) × (p : ℕ) × (answered ≡ refused k p) × FirstApplies (operation_list (body_list asked) m s) k p
  otherwise hb none = go answered refl
    where
      go : (a : Answer HeaderBody) → answered ≡ a → (k : ℕ) × (p : ℕ) × (answered ≡ refused k p) × FirstApplies (operation_list (body_list asked) m s) k p
      go (accepted b t) e = let z = only no_policy max pairRoom keyRoom m s hb b t e in absurd (none z.0 z.1 z.2)
      go (refused k p) e = (k, p, e, listed.refuses k p e)

  pub sentence_1 : Bytes m → Sentence1 max pairRoom keyRoom m s
  sentence_1 hb =
      record {
        only = λ fits b t e. (let (w, f, stands, lets, gives, form, tail) = only no_policy max pairRoom keyRoom m s hb b t e in (w, f, stands, gives, form, tail));
        all = λ fits w f h. all no_policy max pairRoom keyRoom m s fits w f h refl;
        otherwise = λ fits none. otherwise hb none;
        listed = listed;
        longer = λ h. operation_long (read_header_body either tolerant max pairRoom keyRoom) m s h;
        farther = λ h. operation_far (read_header_body either tolerant max pairRoom keyRoom) m s h;
      }
