-- The body that a reissue writes: our writer takes those fields, and whoever reads it gets them. Assumes nothing.
use mathlib.Core.Path.{◌≡◌, refl, sym, ap, ◌∙◌}
use mathlib.Core.Bool.{true, false, not, cond, ◌||◌}
use mathlib.Core.Option.{Option, none, some}
use mathlib.Core.List.{List, [], ◌∷◌, ◌++◌}
use Prim.Native.Nat.{ℕ, ◌+◌, ◌*◌, ◌≤◌}
use native.Mathlib.Omega.{arith}
use lib.Dec.{eqb}
use lib.ListN.{length, drop, length-append, length-drop, length-map}
use Rattle.format.specs.Read.{Answer, accepted, refused, answer, operation}
use Rattle.format.specs.Serialize.{Bytes, sum}
use Rattle.format.specs.Shared.{known, of_version, frame_fits}
use Rattle.format.specs.Fields.{Form, today, old, Pair, Fields, HeaderBody, pair_of, fields_of}
use Rattle.format.specs.Context.{Mode, section_in, write_aad_section}
use Rattle.format.specs.Keys.{no_max, write_encrypted_data_keys_section}
use Rattle.format.specs.Body.{Which, either, v1_only, v2_only, asked, Request, request, tests_frames, read_body, read_header_body_under, read_header_body, image}
use Rattle.format.specs.Checks.{first, fits_form}
use Rattle.format.specs.Lent.{BodyToWrite, fields_to_write, writing_header_body_under, writing_header_body}
use Rattle.format.specs.Demand3.{Gives}
use Rattle.format.specs.Mending.{without_tables}
use Rattle.format.specs.Reissuing.{Reissue, reissued, reissued_image, reissued_header_body, reissue_header_body}
use Rattle.format.specs.Reissued.{FieldsOf, reading, reissue_checks, by_checks, behind_reading, ReadsVersion2, by_either, by_v2_only, ReadBack, bytes_more, Reissued, ReissueLaws}
use Rattle.format.proofs.Tests.{is_eqb, leb_is}
use Rattle.format.proofs.Firsts.{holds}
use Rattle.format.proofs.Serialize.{length_uint16}
use Rattle.format.proofs.Context.{length_expanded, both_allow}
use Rattle.format.proofs.Marked.{old_has_none}
use Rattle.format.proofs.Ends.{top_bytes, top_long, end_bytes, end_long}
use Rattle.format.proofs.Accepts.{known_narrow, Good, accepts}
use Rattle.format.proofs.Body.{Sent, top_of, end_of, BodyOk, sent_bytes, body_at, body_exact, fields_at, some_bytes}
use Rattle.format.proofs.Held.{body_held}
use Rattle.format.proofs.Messages.{refused_is_no_accepted, accepted_took, operation_here}
use Rattle.format.proofs.Drafts.{length_keys}
use Rattle.format.proofs.ReissueOrder.{in_order, told, other_direction, stands_first}

abbrev asks : Request
asks = without_tables v1_only

-- what is added passes
pub record AddedOk (a : Reissue) : Type 0 where
  pub t6 : known a.suite ≡ true
  pub t7 : of_version 2 a.suite ≡ true
  pub id : length a.messageId ≡ 32
  pub suiteData : length a.suiteData ≡ 32

abbrev result : Reissue → Sent → Sent
result a v = record { form = today; fields = reissued a v.fields }

module _ (a : Reissue) (v : Sent) (o : BodyOk asks v) (fits : frame_fits v.fields.contentType v.fields.frameLength ≡ true) (h : AddedOk a) where
  is_good : Good today (reissued a v.fields)
  is_good =
      record {
        top = record { lead = record { t3 = refl; t4 = refl; t5 = refl; suite = record { wide = known_narrow a.suite h.t6; t6 = h.t6; t7 = h.t7 } }; t39 = refl; sized = h.id };
        few_pairs = o.context.section.few;
        pairs = o.context.section.each;
        t33 = refl;
        keys = o.keys.list;
        end = record { t17 = o.end.t17; t19 = refl; wide = o.end.wide; sized = h.suiteData };
        t20 = fits;
      }

  -- each reader of version 2 takes it, with tables that hold its entries
  module _ (mode : Mode) (pairRoom keyRoom : ℕ) (hp : 4 * length v.fields.pairs ≤ pairRoom) (hk : 6 * length v.fields.keys ≤ keyRoom) where
    abbrev asked_of : Which → Request
    asked_of which = request which mode (tests_frames which) no_max pairRoom keyRoom

    is_ok : (which : Which) → asked which 2 ≡ true → (not (tests_frames which) || frame_fits v.fields.contentType v.fields.frameLength) ≡ true → BodyOk (asked_of which) (result a v)
    is_ok which t4 t20 =
        record {
          top = record { lead = record { t3 = refl; t4 = t4; t5 = refl; suite = is_good.top.lead.suite }; t39 = refl; sized = h.id };
          context = record { section = record { allowed = both_allow mode v.fields.pairs; few = o.context.section.few; each = o.context.section.each }; fits = refl };
          keys = record { list = o.keys.list; below = refl };
          end = is_good.end;
          t20 = t20;
          t22 = leb_is _ _ hp;
          t23 = leb_is _ _ hk;
        }

    ok : (which : Which) → ReadsVersion2 which → BodyOk (asked_of which) (result a v)
    ok v1_only x' = elim x' [ ]
    ok either by_either = is_ok either refl fits
    ok v2_only by_v2_only = is_ok v2_only refl refl

    module _ (message : List ℕ) (start : ℕ) (after : List ℕ) (few : length message ≤ 4294967295) (there : drop start message ≡ sent_bytes (result a v) ++ after) (near : start ≤ 4294967295) where
      reads : (which : Which) → ReadsVersion2 which
          → (c : HeaderBody) × (operation (read_header_body which mode no_max pairRoom keyRoom) message start ≡ accepted c (start + length (sent_bytes (result a v))))
          × Gives message c (reissued a v.fields) × (c.form ≡ today)
      unfolding read_header_body_under
      reads which w = (
        body_at start (result a v),
        operation_here (read_body (asked_of which)) message start few near ∙ ap (λ l. answer (read_body (asked_of which) l start)) there
            ∙ ap answer ((body_exact (asked_of which)).complete (result a v) start after (ok which w)),
        record { fields = fields_at start (result a v); placed = body_held message (asked_of which) start (result a v) (ok which w) (record { after = after; is = there }) },
        refl,
      )

  -- wherever it stands
  module _ (message : List ℕ) (start : ℕ) (after : List ℕ) (few : length message ≤ 4294967295) (there : drop start message ≡ sent_bytes (result a v) ++ after) where
    near : start ≤ 4294967295
    near =
        let n = ap length there in
        let d = length-drop start message in
        let l = length-append (sent_bytes (result a v)) after in
        let z = some_bytes (result a v) in
        omega arith

    not_again : (other : Reissue) (room : ℕ) → operation (reissue_header_body other room) message start ≡ refused 4 0
    unfolding image
    not_again other room = (other_direction other room message start).by_its_byte few (stands_first message start 2 _ there)

  -- how long it is
  section_long : (form : Form) (ps : List Pair) → fits_form form (length ps) ≡ true → length (section_in today ps) + bytes_more form ≡ length (section_in form ps)
  unfolding write_aad_section sum
  section_long today ps e = omega arith
  section_long old [] e = let z = length_uint16 0 in let y = length_expanded [] in omega arith
  section_long old (p ∷ ps) e = old_has_none p ps e

  -- the parts of a body, one behind the other
  parts_long : (x : Sent) → length (sent_bytes x)
      ≡ length (top_bytes (top_of x.fields)) + (length (section_in x.form x.fields.pairs) + (length (write_encrypted_data_keys_section x.fields.keys) + length (end_bytes (eqb x.fields.version 1) (end_of x.fields))))
  unfolding image
  parts_long x =
      let e = end_bytes (eqb x.fields.version 1) (end_of x.fields) in
      let ks = write_encrypted_data_keys_section x.fields.keys in
      let ps = section_in x.form x.fields.pairs in
      let p = length-append (top_bytes (top_of x.fields)) (ps ++ (ks ++ e)) in
      let q = length-append ps (ks ++ e) in
      let r = length-append ks e in
      omega arith

  one : eqb v.fields.version 1 ≡ true
  one = o.top.lead.t4

  front_1 : length (top_bytes (top_of v.fields)) ≡ 20
  front_1 = top_long (eqb v.fields.version 1) v.fields.version v.fields.messageType v.fields.suite v.fields.messageId o.top.sized ∙ ap (λ b. cond b 20 35) one

  back_1 : length (end_bytes (eqb v.fields.version 1) (end_of v.fields)) ≡ 10
  back_1 = end_long (eqb v.fields.version 1) v.fields.contentType v.fields.headerIvLength v.fields.frameLength v.fields.suiteData o.end.sized ∙ ap (λ b. cond b 10 37) one

  result_long : length (sent_bytes (result a v)) + bytes_more v.form ≡ length (sent_bytes v) + 42
  result_long =
      let x = parts_long v in
      let y = parts_long (result a v) in
      let p = front_1 in
      let q = back_1 in
      let r = section_long v.form v.fields.pairs o.context.fits in
      let f = top_long false 2 0 a.suite a.messageId h.id in
      let e = end_long false v.fields.contentType 0 v.fields.frameLength a.suiteData h.suiteData in
      omega arith

-- WHAT WAS READ
to_write : (w : BodyToWrite) → (writing_header_body w).image ≡ image w.form (fields_to_write w)
unfolding writing_header_body_under
to_write w = refl

added_ok : (a : Reissue) (b : HeaderBody) → first (reissue_checks a b) ≡ none → (frame_fits b.contentType b.frameLength ≡ true) × AddedOk a
added_ok a b e =
    let (t20, (t6, (t7, (t24, (t25, u))))) = holds (reissue_checks a b) e in
    (t20, record { t6 = t6; t7 = t7; id = is_eqb _ _ t24; suiteData = is_eqb _ _ t25 })

length_pairs : (b : HeaderBody) → length (fields_of b).pairs ≡ length b.pairs
unfolding fields_of
length_pairs b = length-map b.pairs pair_of

module _ (a : Reissue) (b : HeaderBody) (v : Sent) (is : fields_of b ≡ v.fields) where
  same_image : reissued_image a b ≡ sent_bytes (result a v)
  same_image = rw is

  module _ (o : BodyOk asks v) (fits : frame_fits v.fields.contentType v.fields.frameLength ≡ true) (h : AddedOk a) where
    is_read_back : (message : List ℕ) (start : ℕ) (after : List ℕ) → length message ≤ 4294967295 → drop start message ≡ reissued_image a b ++ after → ReadBack a b message start
    is_read_back message start after few there =
        let here : drop start message ≡ sent_bytes (result a v) ++ after = there ∙ ap (λ y. y ++ after) same_image in
        let np : length b.pairs ≡ length v.fields.pairs = sym (length_pairs b) ∙ ap (λ (f : Fields). length f.pairs) is in
        let nk : length b.keys ≡ length v.fields.keys = sym (length_keys b) ∙ ap (λ (f : Fields). length f.keys) is in
        record {
          gives = λ which w mode pairRoom keyRoom hp hk.
              rw (same_image, is) (reads a v o fits h mode pairRoom keyRoom (rw np at hp) (rw nk at hk) message start after few here (near a v o fits h message start after few here) which w);
          not_again = not_again a v o fits h message start after few here;
        }

as_long : (x y : List ℕ) (form marked : Form) (n : ℕ) → x ≡ y → form ≡ marked → length y + bytes_more marked ≡ n → length x + bytes_more form ≡ n
as_long x y form marked n e f h = rw (e, f) h

module _ (a : Reissue) (m : List ℕ) (s : ℕ) (hb : Bytes m) where
  of_read : (b : HeaderBody) (t : ℕ) → reading m s ≡ accepted b t → first (reissue_checks a b) ≡ none → Reissued a m s b t
  of_read b t e none_fails =
      let (l, x) = accepted_took (body_exact asks) m s hb b t e in
      let v : Sent = x.value in
      let is : fields_of b ≡ v.fields = ap fields_of x.placed ∙ fields_at s v in
      let (t20, h) = added_ok a b none_fails in
      let fits : frame_fits v.fields.contentType v.fields.frameLength ≡ true = rw x.placed at t20 in
      let o = x.good in
      let marked : b.form ≡ v.form = ap (λ (y : HeaderBody). y.form) x.placed in
      record {
        of_version_1 = ap (λ (y : HeaderBody). y.version) x.placed ∙ is_eqb _ _ (one a v o fits h);
        accepts = rw is (accepts today _ (is_good a v o fits h));
        as_written = λ w f g. to_write w ∙ ap (image w.form) g ∙ ap (λ y. image y (reissued a (fields_of b))) f;
        read_back = is_read_back a b v is o fits h;
        long = as_long _ _ _ _ _ (same_image a b v is) marked (let tail = x.tail in let z = result_long a v o fits h in omega arith);
      }

  pub accepted_then : (image : List ℕ) (t : ℕ) → operation (reissued_header_body a) m s ≡ accepted image t
      → (b : HeaderBody) × (reading m s ≡ accepted b t) × (image ≡ reissued_image a b) × Reissued a m s b t
  accepted_then img t e = by (reading m s) refl (sym (in_order a m s).told ∙ e)
    where
      checked : (b : HeaderBody) (u : ℕ) (x : Option ℕ) → first (reissue_checks a b) ≡ x → reading m s ≡ accepted b u → by_checks x (reissued_image a b) u ≡ accepted img t
          → (b : HeaderBody) × (reading m s ≡ accepted b t) × (img ≡ reissued_image a b) × Reissued a m s b t
      checked b u none q r f =
          let ends : u ≡ t = cc in
          let image_is : reissued_image a b ≡ img = cc in
          let again : reading m s ≡ accepted b t = r ∙ ap (accepted b) ends in
          (b, again, sym image_is, of_read b t again q)
      checked b u (some k) q r f = refused_is_no_accepted f

      by : (x : Answer HeaderBody) → reading m s ≡ x → behind_reading (reissue_checks a) a x ≡ accepted img t
          → (b : HeaderBody) × (reading m s ≡ accepted b t) × (img ≡ reissued_image a b) × Reissued a m s b t
      by (accepted b u) r f = checked b u (first (reissue_checks a b)) refl r f
      by (refused k p) r f = refused_is_no_accepted f

its_fields : (a : Reissue) (f : Fields) → FieldsOf a f (reissued a f)
its_fields a f = record { version = refl; suite = refl; messageId = refl; suiteData = refl; pairs = refl; keys = refl; contentType = refl; frameLength = refl }

pub reissue_laws : ReissueLaws
reissue_laws = record { fields = its_fields; in_order = in_order; other_direction = other_direction; told = told; accepted_then = accepted_then }
