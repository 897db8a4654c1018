-- Sentence 4: the two images, and what the body writer leaves. Assumes nothing.
use mathlib.Core.Path.{◌≡◌, refl, sym, ap, ◌∙◌}
use mathlib.Core.Bool.{true}
use mathlib.Core.Option.{none}
use mathlib.Core.List.{List, [], ◌∷◌, ◌++◌}
use Prim.Native.Nat.{ℕ, ◌*◌, ◌≤◌, ◌<◌}
use native.Mathlib.Nat.{zero-add}
use lib.Dec.{eqb}
use lib.ListN.{length, drop}
use Rattle.format.specs.Read.{accepted, operation}
use Rattle.format.specs.Serialize.{write_uint16, images, sum}
use Rattle.format.specs.Fields.{Form, today, old, Pair, Fields, HeaderBody}
use Rattle.format.specs.Context.{tolerant, write_aad, write_aad_pairs, write_aad_section, write_expanded_aad_section, section_in}
use Rattle.format.specs.Keys.{Max, within, write_encrypted_data_keys_section}
use Rattle.format.specs.Policies.{Policy, no_policy, lets_read}
use Rattle.format.specs.Body.{either, read_header_body_under, read_header_body, write_opening_of, write_closing_of, image}
use Rattle.format.specs.Checks.{Check, first, opening_checks, closing_checks, pairs_checks, keys_checks, fits_form, form_checks, body_checks_under, body_checks, Accepts}
use Rattle.format.specs.Lent.{filled, table_checks, written, output_after, BodyToWrite, fields_to_write, writing_header_body_under, writing_header_body}
use Rattle.format.specs.Demand3.{Writer, todays, the_old, mark_by, Gives, Images, Sentence4}
use Rattle.format.proofs.Firsts.{Holds, holds, unheld, split, join}
use Rattle.format.proofs.Ends.{top_long}
use Rattle.format.proofs.Accepts.{Good, good, accepts}
use Rattle.format.proofs.Either.{writer_of, its_mark, all}
use Rattle.format.proofs.Writers.{writer_law}

-- the mark that the old writer is given where there is a pair
mark_of_pairs : (ps : List Pair) → (ps ≡ [] → ⊥) → mark_by the_old ps ≡ today
mark_of_pairs [] h = absurd (h refl)
mark_of_pairs (p ∷ ps) h = refl

-- each writer is given a mark that fits
mark_fits : (w : Writer) (ps : List Pair) → fits_form (mark_by w ps) (length ps) ≡ true
mark_fits todays ps = refl
mark_fits the_old [] = refl
mark_fits the_old (p ∷ ps) = refl

remark : {form : Form} (form' : Form) (f : Fields) → Good form f → fits_form form' (length f.pairs) ≡ true → Good form' f
remark form' f g h = record { top = g.top; few_pairs = g.few_pairs; pairs = g.pairs; t33 = h; keys = g.keys; end = g.end; t20 = g.t20 }

empty_today : section_in today [] ≡ 0x00 ∷ 0x00 ∷ []
unfolding write_aad_section write_uint16
empty_today = refl

empty_old : section_in old [] ≡ 0x00 ∷ 0x02 ∷ 0x00 ∷ 0x00 ∷ []
unfolding write_expanded_aad_section write_aad write_aad_pairs images sum write_uint16
empty_old = refl

-- what stands before the context section, and behind it
abbrev front : Fields → List ℕ
front f = (f.version ∷ []) ++ write_opening_of (eqb f.version 1) f.messageType f.suite f.messageId

abbrev back : Fields → List ℕ
back f = write_encrypted_data_keys_section f.keys ++ ((f.contentType ∷ []) ++ write_closing_of (eqb f.version 1) f.headerIvLength f.frameLength f.suiteData)

pub same_images : (f : Fields) → Images f
unfolding image
same_images f =
    record {
      alike = λ h. rw (mark_of_pairs f.pairs h) refl;
      front = front f;
      back = back f;
      today_has = λ e. rw (e, empty_today) refl;
      old_has = λ e. rw (e, empty_old) refl;
      front_long = λ a. top_long (eqb f.version 1) f.version f.messageType f.suite f.messageId (good today f a).top.sized;
      same_accepted = λ v w a. accepts (mark_by w f.pairs) f (remark (mark_by w f.pairs) f (good (mark_by v f.pairs) f a) (mark_fits w f.pairs));
    }

-- checks in front of the pairs' and of the keys', and those without them
module _ (o p ps x k ks c : List Check) where
  put_in : Holds p → Holds k → Holds (o ++ (ps ++ (x ++ (ks ++ c)))) → Holds (o ++ ((p ++ ps) ++ (x ++ ((k ++ ks) ++ c))))
  put_in hp hk h =
      let (ho, r) = split o (ps ++ (x ++ (ks ++ c))) h in
      let (hps, r') = split ps (x ++ (ks ++ c)) r in
      let (hx, r'') = split x (ks ++ c) r' in
      let (hks, hc) = split ks c r'' in
      join o ((p ++ ps) ++ (x ++ ((k ++ ks) ++ c))) ho
      (join (p ++ ps) (x ++ ((k ++ ks) ++ c)) (join p ps hp hps) (join x ((k ++ ks) ++ c) hx (join (k ++ ks) c (join k ks hk hks) hc)))

  taken_out : Holds (o ++ ((p ++ ps) ++ (x ++ ((k ++ ks) ++ c)))) → Holds p × Holds k × Holds (o ++ (ps ++ (x ++ (ks ++ c))))
  taken_out h =
      let (ho, r) = split o ((p ++ ps) ++ (x ++ ((k ++ ks) ++ c))) h in
      let (hps, r') = split (p ++ ps) (x ++ ((k ++ ks) ++ c)) r in
      let (hx, r'') = split x ((k ++ ks) ++ c) r' in
      let (hks, hc) = split (k ++ ks) c r'' in
      let (hp, hps') = split p ps hps in
      let (hk, hks') = split k ks hks in
      (hp, hk, join o (ps ++ (x ++ (ks ++ c))) ho (join ps (x ++ (ks ++ c)) hps' (join x (ks ++ c) hx (join ks c hks' hc))))

-- the checks of a body write, with 26 at its places
module _ (p k : List Check) (form : Form) (f : Fields) where
  abbrev opens : List Check
  opens = opening_checks no_policy f.version f.messageType f.suite (length f.messageId)

  abbrev closes : List Check
  closes = closing_checks f.version f.contentType f.headerIvLength (length f.suiteData) f.frameLength

  with_26 : Holds p → Holds k → Holds (body_checks [] [] form f) → Holds (body_checks p k form f)
  unfolding body_checks_under
  with_26 = put_in opens p (pairs_checks f.pairs) (form_checks form (length f.pairs)) k (keys_checks f.keys) closes

  without_26 : Holds (body_checks p k form f) → Holds p × Holds k × Holds (body_checks [] [] form f)
  unfolding body_checks_under
  without_26 = taken_out opens p (pairs_checks f.pairs) (form_checks form (length f.pairs)) k (keys_checks f.keys) closes

module _ (w : BodyToWrite) (out : List ℕ) where
  abbrev img : List ℕ
  img = image w.form (fields_to_write w)

  pub writes : Accepts w.form (fields_to_write w) → first (table_checks 4 w.text w.pairTable) ≡ none → first (table_checks 6 w.text w.keyTable) ≡ none
      → length img ≤ length out → (written (writing_header_body w) out ≡ accepted tt (length img)) × (output_after (writing_header_body w) out ≡ filled img out)
  unfolding writing_header_body_under
  writes a p k h =
      let f = fields_to_write w in
      let p₂₆ = table_checks 4 w.text w.pairTable in
      let k₂₆ = table_checks 6 w.text w.keyTable in
      let all_hold = with_26 p₂₆ k₂₆ w.form f (holds p₂₆ p) (holds k₂₆ k) (holds (body_checks [] [] w.form f) a.none_applies) in
      (writer_law (writing_header_body w) out).writes (unheld (body_checks p₂₆ k₂₆ w.form f) all_hold) h

  frame_is : (fields_to_write w).frameLength ≡ w.frameLength
  unfolding fields_to_write
  frame_is = refl

  only_then : (n : ℕ) → w.frameLength < 4294967296 → written (writing_header_body w) out ≡ accepted tt n
      → Accepts w.form (fields_to_write w) × (first (table_checks 4 w.text w.pairTable) ≡ none) × (first (table_checks 6 w.text w.keyTable) ≡ none)
      × (n ≡ length img) × (n ≤ length out) × (output_after (writing_header_body w) out ≡ filled img out)
  unfolding writing_header_body_under
  only_then n wide e =
      let f = fields_to_write w in
      let p₂₆ = table_checks 4 w.text w.pairTable in
      let k₂₆ = table_checks 6 w.text w.keyTable in
      let (c, d, room, o) = (writer_law (writing_header_body w) out).only_then n e in
      let (hp, hk, h) = without_26 p₂₆ k₂₆ w.form f (holds (body_checks p₂₆ k₂₆ w.form f) c) in
      (record { none_applies = unheld (body_checks [] [] w.form f) h; frame_is_32_bits = rw frame_is wide }, unheld p₂₆ hp, unheld k₂₆ hk, d, room, o)

  -- what was written is read, under any policy that lets it be read
  pub read_back_under : (policy : Policy) (n : ℕ) → w.frameLength < 4294967296 → written (writing_header_body w) out ≡ accepted tt n → length out ≤ 4294967295
      → (max : Max) (pairRoom keyRoom : ℕ) → 4 * length (fields_to_write w).pairs ≤ pairRoom → 6 * length (fields_to_write w).keys ≤ keyRoom
      → within (length (fields_to_write w).keys) max ≡ true → lets_read policy (fields_to_write w).version ≡ true
      → (b : HeaderBody) × (operation (read_header_body_under policy either tolerant max pairRoom keyRoom) (output_after (writing_header_body w) out) 0 ≡ accepted b n)
      × Gives (output_after (writing_header_body w) out) b (fields_to_write w) × (b.form ≡ w.form)
  read_back_under policy n wide e fits max pairRoom keyRoom hp hk hm lets =
      let (a, p, k, d, room, o) = only_then n wide e in
      let long : length (filled img out) ≡ length out = ap length (sym o) ∙ (writer_law (writing_header_body w) out).as_long in
      let f = fields_to_write w in
      let mark : mark_by (writer_of w.form) f.pairs ≡ w.form = its_mark w.form f.pairs (good w.form f a).t33 in
      let z = all policy max pairRoom keyRoom (filled img out) 0 (rw long fits) (writer_of w.form) f
      (record { accepts = rw mark a; after = drop (length img) out; bytes = rw mark refl; pairs_held = hp; keys_held = hk; max_not_passed = hm })
      lets in
      rw (o, d) (z.0, rw (mark, zero-add) at z.1, z.2, z.3 ∙ mark)

  read_back : (n : ℕ) → w.frameLength < 4294967296 → written (writing_header_body w) out ≡ accepted tt n → length out ≤ 4294967295
      → (max : Max) (pairRoom keyRoom : ℕ) → 4 * length (fields_to_write w).pairs ≤ pairRoom → 6 * length (fields_to_write w).keys ≤ keyRoom
      → within (length (fields_to_write w).keys) max ≡ true
      → (b : HeaderBody) × (operation (read_header_body either tolerant max pairRoom keyRoom) (output_after (writing_header_body w) out) 0 ≡ accepted b n)
      × Gives (output_after (writing_header_body w) out) b (fields_to_write w) × (b.form ≡ w.form)
  read_back n wide e fits max pairRoom keyRoom hp hk hm = read_back_under no_policy n wide e fits max pairRoom keyRoom hp hk hm refl

  pub sentence_4 : Sentence4 w out
  sentence_4 = record { images = same_images (fields_to_write w); writes = writes; only_then = only_then; read_back = read_back }
