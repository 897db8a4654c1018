-- Fields without a key are accepted by neither side. Assumes nothing.
use mathlib.Core.Path.{◌≡◌, refl, sym, ap, ◌∙◌}
use mathlib.Core.Bool.{true, not}
use mathlib.Core.Option.{Option, none, some}
use mathlib.Core.List.{List, [], ◌++◌, append_assoc}
use Prim.Native.Nat.{ℕ, ◌+◌, ◌≤◌}
use native.Mathlib.Omega.{arith}
use lib.Dec.{eqb}
use lib.ListN.{length, drop}
use Rattle.format.specs.Read.{error, ◌>>=◌, ◌>>◌, test, accepted, refused, operation}
use Rattle.format.specs.Serialize.{Bytes, write_uint16, images, every}
use Rattle.format.specs.Fields.{Form, EncryptedDataKey, Fields, HeaderBody}
use Rattle.format.specs.Context.{Mode, tolerant}
use Rattle.format.specs.Keys.{Max, write_encrypted_data_key, write_encrypted_data_keys, write_encrypted_data_keys_section, read_encrypted_data_keys_section, read_encrypted_data_keys_section_into}
use Rattle.format.specs.Policies.{no_policy}
use Rattle.format.specs.Body.{Which, either, tests_frames, request, after_context, after_opening, read_body, read_header_body_under, read_header_body, image}
use Rattle.format.specs.Checks.{first, each, opening_checks, closing_checks, pairs_checks, keys_checks, form_checks, body_checks_under, body_checks, Accepts}
use Rattle.format.specs.Demand3.{Writer, mark_by, image_by, without_keys, NoKeys}
use Rattle.format.proofs.Tests.{never}
use Rattle.format.proofs.Exact.{length_puts}
use Rattle.format.proofs.Serialize.{two_bytes}
use Rattle.format.proofs.Context.{Context, context_bytes}
use Rattle.format.proofs.Marked.{MarkedOk, marked_exact}
use Rattle.format.proofs.Keys.{key_at, KeyListOk}
use Rattle.format.proofs.Ends.{top_bytes, end_bytes, v1_of, opening_exact}
use Rattle.format.proofs.Body.{Sent, BodyOk, top_of, end_of, body_exact, some_bytes}
use Rattle.format.proofs.Firsts.{holds, unheld, split, first_none, first_some}
use Rattle.format.proofs.Accepts.{Good, good}
use Rattle.format.proofs.Messages.{accepted_took, operation_here}
use Rattle.format.proofs.Sections.{start_fits, section_laws}

-- keys that are accepted are not none
there_is_one : {C : Type 0} (ks : List EncryptedDataKey) → KeyListOk ks → length ks ≡ 0 → C
there_is_one ks o e = let z : not (eqb 0 0) ≡ true = rw e at o.some in never z refl

no_writer : (form : Form) (f : Fields) → f.keys ≡ [] → Accepts form f → ⊥
no_writer form f e a = there_is_one f.keys (good form f a).keys (ap length e)

no_reader : (which : Which) (mode : Mode) (max : Max) (pairRoom keyRoom : ℕ) (m : List ℕ) (s : ℕ) → Bytes m
    → (b : HeaderBody) (t : ℕ) → operation (read_header_body which mode max pairRoom keyRoom) m s ≡ accepted b t → b.keys ≡ [] → ⊥
unfolding read_header_body_under
no_reader which mode max pairRoom keyRoom m s hb b t e none_there =
    let q = request which mode (tests_frames which) max pairRoom keyRoom in
    let (l, x) = accepted_took (body_exact q) m s hb b t e in
    let v : Sent = x.value in
    let g : BodyOk q v = x.good in
    let keys : b.keys ≡ _ = ap (λ (y : HeaderBody). y.keys) x.placed in
    there_is_one v.fields.keys g.keys.list (sym (length_puts write_encrypted_data_key key_at _ v.fields.keys) ∙ ap length (sym keys ∙ none_there))

-- 38 of no keys
no_keys_38 : first (keys_checks []) ≡ some 38
unfolding first keys_checks images every each
no_keys_38 = refl

writer_says : (w : Writer) (f : Fields) → Accepts (mark_by w f.pairs) f → first (body_checks [] [] (mark_by w f.pairs) (without_keys f)) ≡ some 38
unfolding body_checks_under
writer_says w f a =
    let form = mark_by w f.pairs in
    let opens = opening_checks no_policy f.version f.messageType f.suite (length f.messageId) in
    let pairs = pairs_checks f.pairs in
    let fits = form_checks form (length f.pairs) in
    let closes = closing_checks f.version f.contentType f.headerIvLength (length f.suiteData) f.frameLength in
    let (ho, r) = split opens (pairs ++ (fits ++ (keys_checks f.keys ++ closes))) (holds (body_checks [] [] form f) a.none_applies) in
    let (hp, r') = split pairs (fits ++ (keys_checks f.keys ++ closes)) r in
    let (hf, r'') = split fits (keys_checks f.keys ++ closes) r' in
    first_none opens (pairs ++ (fits ++ (keys_checks [] ++ closes))) (unheld opens ho)
    ∙ first_none pairs (fits ++ (keys_checks [] ++ closes)) (unheld pairs hp)
    ∙ first_none fits (keys_checks [] ++ closes) (unheld fits hf)
    ∙ first_some (keys_checks []) closes 38 no_keys_38

-- the bytes of no keys
section_38 : (max : Max) (l : List ℕ) (s : ℕ) → read_encrypted_data_keys_section max (write_encrypted_data_keys_section [] ++ l) s ≡ error 38
unfolding read_encrypted_data_keys_section write_encrypted_data_keys_section write_encrypted_data_keys images write_uint16 ◌>>=◌ ◌>>◌ test
section_38 max l s = rw (two_bytes 0 0 l s) refl

reader_says : (w : Writer) (f : Fields) → Accepts (mark_by w f.pairs) f → (max : Max) (pairRoom keyRoom : ℕ) (m : List ℕ) (s : ℕ) (after : List ℕ)
    → length m ≤ 4294967295 → drop s m ≡ image_by w (without_keys f) ++ after → operation (read_header_body either tolerant max pairRoom keyRoom) m s ≡ refused 38 0
unfolding read_header_body_under read_body after_opening after_context image ◌>>=◌
reader_says w f a max pairRoom keyRoom m s after fits e =
    let form = mark_by w f.pairs in
    let q = request either tolerant true max pairRoom keyRoom in
    let g : Good form f = good form f a in
    let c : Context = record { form = form; pairs = f.pairs } in
    let o : MarkedOk tolerant c = record { section = record { allowed = tt; few = g.few_pairs; each = g.pairs }; fits = g.t33 } in
    let x : Sent = record { form = form; fields = without_keys f } in
    let top = top_bytes (top_of f) in
    let closing = end_bytes (v1_of (top_of f)) (end_of f) in
    let keys = write_encrypted_data_keys_section [] in
    let near : s ≤ 4294967295 = start_fits m s (image form (without_keys f)) after (some_bytes x) fits e in
    let apart : drop s m ≡ top ++ (context_bytes c ++ (keys ++ (closing ++ after))) =
    e ∙ append_assoc top (context_bytes c ++ (keys ++ closing)) after ∙ ap (λ l. top ++ l) (append_assoc (context_bytes c) (keys ++ closing) after ∙ ap (λ l. context_bytes c ++ l) (append_assoc keys closing after)) in
    operation_here (read_body q) m s fits near
    ∙ rw (
      apart,
      (opening_exact either no_policy).complete (top_of f) s (context_bytes c ++ (keys ++ (closing ++ after))) g.top,
      (marked_exact tolerant).complete c (s + length top) (keys ++ (closing ++ after)) o,
      section_38 max (closing ++ after) (s + length top + length (context_bytes c)),
    )
    refl

-- the key section alone
no_section : (max : Max) (room : ℕ) (m : List ℕ) (s t : ℕ) → Bytes m → operation (read_encrypted_data_keys_section_into max room) m s ≡ accepted [] t → ⊥
no_section max room m s t hb e =
    let (stands, tail, placed) = (section_laws.keys max room m s hb).only [] t e in
    let z : ◌≡◌ {A = ℕ} 0 1 = (let y : ◌≡◌ {A = Option ℕ} (some 38) none = sym no_keys_38 ∙ stands.accepts in cc) in
    absurd (omega arith)

pub no_keys : NoKeys
no_keys =
    record { no_writer = no_writer; no_reader = no_reader; writer_says = writer_says; reader_says = reader_says; no_section = no_section; section_says = no_keys_38 }
