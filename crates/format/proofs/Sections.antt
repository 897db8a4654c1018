-- The sections and the authentication record as operations of their own: each accepts just what is written. Assumes nothing.
use mathlib.Core.Path.{◌≡◌, refl, sym, ap, ◌∙◌}
use mathlib.Core.Bool.{Bool, true, false, cond}
use mathlib.Core.List.{List, [], ◌∷◌, ◌++◌, append-nil, map}
use Prim.Native.Nat.{ℕ, ◌+◌, ◌*◌, ◌-◌, ◌≤◌, ◌<◌}
use native.Mathlib.Omega.{arith}
use native.Mathlib.Nat.{zero-add}
use lib.Dec.{leb, eqb}
use lib.ListN.{length, drop, replicate, length-append, length-drop}
use Rattle.format.specs.Read.{Reader, accepted, operation}
use Rattle.format.specs.Serialize.{Bytes, images, write_uint16}
use Rattle.format.specs.Shared.{suite_version, known, iv_length, tag_length}
use Rattle.format.specs.Fields.{Form, today, old, Pair, PairAt, pair_of, pair_places, EncryptedDataKey, EncryptedDataKeyAt, key_of, key_places}
use Rattle.format.specs.Context.{section_in, write_aad_section, write_expanded_aad_section, write_aad_pair, Mode, read_aad_section_into}
use Rattle.format.specs.Keys.{Max, within, write_encrypted_data_key, write_encrypted_data_keys_section, read_encrypted_data_keys_section_into}
use Rattle.format.specs.Auth.{HeaderAuth, zeros, read_header_auth_tag_of, read_header_auth_tag, write_header_auth_tag}
use Rattle.format.specs.Checks.{pairs_checks, keys_checks, auth_checks}
use Rattle.format.specs.Lent.{filled, pairs_in, keys_in, table_checks, written, output_after, writing_aad_section, writing_encrypted_data_keys_section}
use Rattle.format.specs.Demand3.{Held, Each}
use Rattle.format.specs.Sections.{ContextStands, ContextLaw, KeysStand, KeysLaw, AuthLaw, SectionLaws}
use Rattle.format.proofs.Tests.{leb_is, is_leb, eqb_is, is_eqb}
use Rattle.format.proofs.Exact.{Exact, seq_exact, check_exact, check_as, give_exact, revalue, length_puts, map_puts}
use Rattle.format.proofs.Serialize.{read_exact}
use Rattle.format.proofs.Context.{pair_at, Context, ContextOk, context_bytes, context_at, both_allow}
use Rattle.format.proofs.Section.{section_exact}
use Rattle.format.proofs.Keys.{key_at, KeysOk, keys_at, keys_exact}
use Rattle.format.proofs.Suites.{version_2}
use Rattle.format.proofs.Firsts.{holds, unheld, split}
use Rattle.format.proofs.Accepts.{pairs_then, then_pairs, keys_then, then_keys}
use Rattle.format.proofs.Messages.{accepted_took, operation_here}
use Rattle.format.proofs.Held.{context_held, keys_held}
use Rattle.format.proofs.Writers.{writer_law}

-- what stands at a start of a short message, and is not empty, starts within it
pub start_fits : (m : List ℕ) (s : ℕ) (b after : List ℕ) → 0 < length b → length m ≤ 4294967295 → drop s m ≡ b ++ after → s ≤ 4294967295
start_fits m s b after h fits e =
    let d : length m - s ≡ length (b ++ after) = sym (length-drop s m) ∙ ap length e in
    let l = length-append b after in
    omega arith

-- an exact reader accepts what stands there
module _ {A W : Type 0} {r : Reader A} {ok : W → Type 0} {img : W → List ℕ} {put : ℕ → W → A} (h : Exact r ok img put) where
  pub reads : (m : List ℕ) (s : ℕ) → length m ≤ 4294967295 → s ≤ 4294967295 → (w : W) → ok w → (after : List ℕ) → drop s m ≡ img w ++ after
      → operation r m s ≡ accepted (put s w) (s + length (img w))
  reads m s fits near w o after e = rw (operation_here r m s fits near, e, h.complete w s after o) refl

  -- and what stands at the front of it
  reads_front : (w : W) (after : List ℕ) → length (img w ++ after) ≤ 4294967295 → ok w → operation r (img w ++ after) 0 ≡ accepted (put 0 w) (length (img w))
  reads_front w after fits o = reads (img w ++ after) 0 fits (omega arith) w o after refl ∙ ap (accepted (put 0 w)) (zero-add (length (img w)))

-- the context section
record ContextRoom (mode : Mode) (room : ℕ) (c : Context) : Type 0 where
  context : ContextOk mode c
  t22 : leb (4 * length c.pairs) room ≡ true

section_into_exact : (mode : Mode) (room : ℕ) → Exact (read_aad_section_into mode room) (ContextRoom mode room) context_bytes context_at
unfolding read_aad_section_into
section_into_exact mode room =
    revalue (ContextRoom mode room) context_bytes context_at
    (seq_exact _ (section_exact mode) λ s c. check_as 22 (leb (4 * length c.pairs) room) (rw (length_puts write_aad_pair pair_at) refl) (give_exact _))
    (λ w o. (w.0, record { context = o.0; t22 = o.1.0 }, append-nil (context_bytes w.0), λ s. refl))
    (λ c o. ((c, tt), (o.context, (o.t22, tt)), rw append-nil refl, λ s. refl))

section_not_empty : (form : Form) (ps : List Pair) → 0 < length (section_in form ps)
unfolding write_aad_section write_expanded_aad_section write_uint16
section_not_empty today [] = omega arith
section_not_empty today (p ∷ ps) = omega arith
section_not_empty old ps = omega arith

context_law : (mode : Mode) (room : ℕ) (m : List ℕ) (s : ℕ) → Bytes m → ContextLaw mode room m s
context_law mode room m s hb = record { only = only; all = all }
  where
    only : (ps : List PairAt) (t : ℕ) → operation (read_aad_section_into mode room) m s ≡ accepted ps t
        → (form : Form) × ContextStands mode room m s form (map pair_of ps) × (t ≡ s + length (section_in form (map pair_of ps))) × Each (Held m) (images pair_places ps)
    only ps t e =
        let (l, x) = accepted_took (section_into_exact mode room) m s hb ps t e in
        let c : Context = x.value in
        let g = x.good.context in
        let same : map pair_of ps ≡ c.pairs = ap (map pair_of) x.placed ∙ map_puts write_aad_pair pair_at pair_of (λ s p. refl) (s + 4) c.pairs in (
          c.form,
          rw same (record { accepts = unheld (pairs_checks c.pairs) (then_pairs c.pairs g.few g.each); allowed = g.allowed; after = l; bytes = x.split; held = is_leb _ _ x.good.t22 }),
          rw same x.tail,
          rw x.placed (context_held m c.form c.pairs s (record { after = l; is = x.split })),
        )

    all : length m ≤ 4294967295 → (form : Form) (ps : List Pair) → ContextStands mode room m s form ps
        → (places : List PairAt) × (operation (read_aad_section_into mode room) m s ≡ accepted places (s + length (section_in form ps))) × (map pair_of places ≡ ps)
        × Each (Held m) (images pair_places places)
    all fits form ps h =
        let c : Context = record { form = form; pairs = ps } in
        let p = pairs_then ps (holds (pairs_checks ps) h.accepts) in
        let o : ContextRoom mode room c = record { context = record { allowed = h.allowed; few = p.0; each = p.1 }; t22 = leb_is _ _ h.held } in
        let near : s ≤ 4294967295 = start_fits m s (section_in form ps) h.after (section_not_empty form ps) fits h.bytes in
        (context_at s c, reads (section_into_exact mode room) m s fits near c o h.after h.bytes, map_puts write_aad_pair pair_at pair_of (λ s p. refl) (s + 4) ps, context_held m form ps s (record { after = h.after; is = h.bytes }))

-- the key section
record KeysRoom (max : Max) (room : ℕ) (ks : List EncryptedDataKey) : Type 0 where
  keys : KeysOk max ks
  t23 : leb (6 * length ks) room ≡ true

keys_into_exact : (max : Max) (room : ℕ) → Exact (read_encrypted_data_keys_section_into max room) (KeysRoom max room) write_encrypted_data_keys_section keys_at
unfolding read_encrypted_data_keys_section_into
keys_into_exact max room =
    revalue (KeysRoom max room) write_encrypted_data_keys_section keys_at
    (seq_exact _ (keys_exact max) λ s ks. check_as 23 (leb (6 * length ks) room) (rw (length_puts write_encrypted_data_key key_at) refl) (give_exact _))
    (λ w o. (w.0, record { keys = o.0; t23 = o.1.0 }, append-nil (write_encrypted_data_keys_section w.0), λ s. refl))
    (λ ks o. ((ks, tt), (o.keys, (o.t23, tt)), rw append-nil refl, λ s. refl))

keys_not_empty : (ks : List EncryptedDataKey) → 0 < length (write_encrypted_data_keys_section ks)
unfolding write_encrypted_data_keys_section write_uint16
keys_not_empty ks = omega arith

keys_law : (max : Max) (room : ℕ) (m : List ℕ) (s : ℕ) → Bytes m → KeysLaw max room m s
keys_law max room m s hb = record { only = only; all = all }
  where
    only : (ks : List EncryptedDataKeyAt) (t : ℕ) → operation (read_encrypted_data_keys_section_into max room) m s ≡ accepted ks t
        → KeysStand max room m s (map key_of ks) × (t ≡ s + length (write_encrypted_data_keys_section (map key_of ks))) × Each (Held m) (images key_places ks)
    only ks t e =
        let (l, x) = accepted_took (keys_into_exact max room) m s hb ks t e in
        let v : List EncryptedDataKey = x.value in
        let g = x.good.keys in
        let same : map key_of ks ≡ v = ap (map key_of) x.placed ∙ map_puts write_encrypted_data_key key_at key_of (λ s k. refl) (s + 2) v in (
          rw same (record { accepts = unheld (keys_checks v) (then_keys v g.list); max_not_passed = g.below; after = l; bytes = x.split; held = is_leb _ _ x.good.t23 }),
          rw same x.tail,
          rw x.placed (keys_held m v s (record { after = l; is = x.split })),
        )

    all : length m ≤ 4294967295 → (ks : List EncryptedDataKey) → KeysStand max room m s ks
        → (places : List EncryptedDataKeyAt) × (operation (read_encrypted_data_keys_section_into max room) m s ≡ accepted places (s + length (write_encrypted_data_keys_section ks)))
        × (map key_of places ≡ ks) × Each (Held m) (images key_places places)
    all fits ks h =
        let o : KeysRoom max room ks = record { keys = record { list = keys_then ks (holds (keys_checks ks) h.accepts); below = h.max_not_passed }; t23 = leb_is _ _ h.held } in
        let near : s ≤ 4294967295 = start_fits m s (write_encrypted_data_keys_section ks) h.after (keys_not_empty ks) fits h.bytes in
        (keys_at s ks, reads (keys_into_exact max room) m s fits near ks o h.after h.bytes, map_puts write_encrypted_data_key key_at key_of (λ s k. refl) (s + 2) ks, keys_held m ks s (record { after = h.after; is = h.bytes }))

-- the authentication record; true: version 1
record AuthOk (v1 : Bool) (a : HeaderAuth) : Type 0 where
  iv : length a.headerIv ≡ iv_length
  tag : length a.headerAuthTag ≡ tag_length
  zero : v1 ≡ false → a.headerIv ≡ zeros iv_length

abbrev auth_bytes : Bool → HeaderAuth → List ℕ
auth_bytes v1 a = cond v1 (a.headerIv ++ a.headerAuthTag) a.headerAuthTag

abbrev as_it_is : ℕ → HeaderAuth → HeaderAuth
as_it_is s a = a

auth_of_exact : (v1 : Bool) → Exact (read_header_auth_tag_of v1) (AuthOk v1) (auth_bytes v1) as_it_is
unfolding read_header_auth_tag_of zeros
auth_of_exact true =
    revalue (AuthOk true) (auth_bytes true) as_it_is
    (seq_exact _ (read_exact iv_length) λ s iv. seq_exact _ (read_exact tag_length) λ t tag. give_exact _)
    (λ w o. (record { headerIv = w.0; headerAuthTag = w.1.0 }, record { iv = o.0; tag = o.1.0; zero = λ e. (let z : ◌≡◌ {A = ℕ} 0 1 = cc in absurd (omega arith)) }, simp append-nil, λ s. refl))
    (λ a o. ((a.headerIv, (a.headerAuthTag, tt)), (o.iv, (o.tag, tt)), simp append-nil, λ s. refl))
auth_of_exact false =
    revalue (AuthOk false) (auth_bytes false) as_it_is
    (seq_exact _ (read_exact tag_length) λ s tag. give_exact _)
    (λ w o. (record { headerIv = replicate iv_length 0; headerAuthTag = w.0 }, record { iv = refl; tag = o.0; zero = λ e. refl }, append-nil _, λ s. refl))
    (λ a o. ((a.headerAuthTag, tt), (o.tag, tt), sym (append-nil _), λ s. ap (λ iv. record { headerIv = iv; headerAuthTag = a.headerAuthTag }) (o.zero refl)))

auth_exact : (suite : ℕ) → Exact (read_header_auth_tag suite) (λ a. (known suite ≡ true) × AuthOk (eqb (suite_version suite) 1) a) (auth_bytes (eqb (suite_version suite) 1)) as_it_is
unfolding read_header_auth_tag
auth_exact suite = check_exact 6 _ (auth_of_exact _)

auth_not_empty : (v1 : Bool) (a : HeaderAuth) → length a.headerAuthTag ≡ tag_length → 0 < length (auth_bytes v1 a)
auth_not_empty true a e = simp length-append (omega arith)
auth_not_empty false a e = omega arith

auth_law : (suite : ℕ) (m : List ℕ) (s : ℕ) → Bytes m → AuthLaw suite m s
unfolding auth_checks write_header_auth_tag
auth_law suite m s hb =
    record {
      only = λ a t e.
          let (l, x) = accepted_took (auth_exact suite) m s hb a t e in
          let same : a ≡ x.value = x.placed in
          let (k, o) = x.good in (
            rw same (record { accepts = unheld (auth_checks suite (length x.value.headerIv) (length x.value.headerAuthTag)) (k, (eqb_is _ _ o.iv, (eqb_is _ _ o.tag, tt))); iv_of_version_2 = λ v. o.zero (rw v refl); after = l; bytes = x.split }),
            rw same x.tail,
          );
      all = λ fits a h.
          let (k, (i, (t, u))) = holds (auth_checks suite (length a.headerIv) (length a.headerAuthTag)) h.accepts in
          let near : s ≤ 4294967295 = start_fits m s (auth_bytes (eqb (suite_version suite) 1) a) h.after (auth_not_empty (eqb (suite_version suite) 1) a (is_eqb _ _ t)) fits h.bytes in
          reads (auth_exact suite) m s fits near a (k, record { iv = is_eqb _ _ i; tag = is_eqb _ _ t; zero = λ e. h.iv_of_version_2 (version_2 suite k e) }) h.after h.bytes;
    }

-- a section that was written is read back, by the laws of its reader
module _ (text table out : List ℕ) where
  pairs_back : (n : ℕ) → written (writing_aad_section text table) out ≡ accepted tt n → length out ≤ 4294967295 → (mode : Mode) (room : ℕ) → 4 * length (pairs_in text table) ≤ room
      → (places : List PairAt) × (operation (read_aad_section_into mode room) (output_after (writing_aad_section text table) out) 0 ≡ accepted places n) × (map pair_of places ≡ pairs_in text table)
  unfolding writing_aad_section
  pairs_back n e fits mode room h =
      let w = writing_aad_section text table in
      let ps = pairs_in text table in
      let (c, d, r, o) = (writer_law w out).only_then n e in
      let long : length (filled w.image out) ≡ length out = ap length (sym o) ∙ (writer_law w out).as_long in
      let p = pairs_then ps (split (table_checks 4 text table) (pairs_checks ps) (holds w.checks c)).1 in
      let x : Context = record { form = today; pairs = ps } in
      let ok : ContextRoom mode room x = record { context = record { allowed = both_allow mode ps; few = p.0; each = p.1 }; t22 = leb_is _ _ h } in
      rw (o, d) (context_at 0 x, reads_front (section_into_exact mode room) x (drop (length w.image) out) (rw long fits) ok, map_puts write_aad_pair pair_at pair_of (λ s p. refl) (0 + 4) ps)

  keys_back : (n : ℕ) → written (writing_encrypted_data_keys_section text table) out ≡ accepted tt n → length out ≤ 4294967295 → (max : Max) (room : ℕ) → 6 * length (keys_in text table) ≤ room
      → within (length (keys_in text table)) max ≡ true
      → (places : List EncryptedDataKeyAt) × (operation (read_encrypted_data_keys_section_into max room) (output_after (writing_encrypted_data_keys_section text table) out) 0 ≡ accepted places n)
      × (map key_of places ≡ keys_in text table)
  unfolding writing_encrypted_data_keys_section
  keys_back n e fits max room h b =
      let w = writing_encrypted_data_keys_section text table in
      let ks = keys_in text table in
      let (c, d, r, o) = (writer_law w out).only_then n e in
      let long : length (filled w.image out) ≡ length out = ap length (sym o) ∙ (writer_law w out).as_long in
      let k = keys_then ks (split (table_checks 6 text table) (keys_checks ks) (holds w.checks c)).1 in
      let ok : KeysRoom max room ks = record { keys = record { list = k; below = b }; t23 = leb_is _ _ h } in
      rw (o, d) (keys_at 0 ks, reads_front (keys_into_exact max room) ks (drop (length w.image) out) (rw long fits) ok, map_puts write_encrypted_data_key key_at key_of (λ s k. refl) (0 + 2) ks)

pub section_laws : SectionLaws
section_laws =
    record {
      writers = writer_law;
      read_back = λ text table out. record { pairs = pairs_back text table out; keys = keys_back text table out };
      context = context_law;
      keys = keys_law;
      auth = auth_law;
    }
