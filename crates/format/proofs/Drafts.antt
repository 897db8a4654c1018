-- A draft that was read, and one that stands at the front of a buffer; and what its bytes are with other keys. Assumes nothing.
use mathlib.Core.Path.{◌≡◌, refl, sym, ap, ◌∙◌}
use mathlib.Core.List.{List, ◌++◌, append_assoc}
use Prim.Native.Nat.{ℕ, ◌+◌, ◌≤◌, ◌<◌}
use native.Mathlib.Omega.{arith}
use lib.ListN.{length, drop, length-append, length-map}
use Rattle.format.specs.Read.{accepted, answer, operation}
use Rattle.format.specs.Serialize.{Bytes, images}
use Rattle.format.specs.Fields.{EncryptedDataKey, Fields, HeaderBody, key_of, fields_of, with_keys}
use Rattle.format.specs.Keys.{write_encrypted_data_key, write_encrypted_data_keys, write_encrypted_data_keys_section}
use Rattle.format.specs.Body.{either, Request, read_body, image}
use Rattle.format.specs.Mending.{without_tables, read_draft}
use Rattle.format.specs.Mended.{Draft}
use Rattle.format.proofs.Serialize.{length_uint16}
use Rattle.format.proofs.Context.{context_bytes}
use Rattle.format.proofs.Keys.{KeyListOk}
use Rattle.format.proofs.Ends.{top_bytes, end_bytes, v1_of}
use Rattle.format.proofs.Body.{Sent, BodyOk, top_of, context_of, end_of, sent_bytes, body_at, body_exact, fields_at}
use Rattle.format.proofs.Held.{body_held}
use Rattle.format.proofs.Messages.{cases, refused_is_no_accepted, accepted_took, operation_here, rest_is}

abbrev pub asked : Request
asked = without_tables either

-- WITH OTHER KEYS
abbrev pub sent_with : List EncryptedDataKey → Sent → Sent
sent_with ks v = record { form = v.form; fields = with_keys ks v.fields }

pub with_keys_ok : (v : Sent) → BodyOk asked v → (ks : List EncryptedDataKey) → KeyListOk ks → BodyOk asked (sent_with ks v)
with_keys_ok v o ks h =
    record { top = o.top; context = o.context; keys = record { list = h; below = refl }; end = o.end; t20 = o.t20; t22 = refl; t23 = refl }

-- what stands in front of the keys and behind them is the same
abbrev pub in_front : Sent → List ℕ
in_front v = top_bytes (top_of v.fields) ++ context_bytes (context_of v)

abbrev pub at_the_end : Sent → List ℕ
at_the_end v = end_bytes (v1_of (top_of v.fields)) (end_of v.fields)

pub around : (v : Sent) (ks : List EncryptedDataKey) → sent_bytes (sent_with ks v) ≡ in_front v ++ (write_encrypted_data_keys_section ks ++ at_the_end v)
unfolding image
around v ks = sym (append_assoc (top_bytes (top_of v.fields)) (context_bytes (context_of v)) (write_encrypted_data_keys_section ks ++ at_the_end v))

-- so its length goes by the keys' bytes
pub section_length : (ks : List EncryptedDataKey) → length (write_encrypted_data_keys_section ks) ≡ 2 + length (images write_encrypted_data_key ks)
unfolding write_encrypted_data_keys_section write_encrypted_data_keys
section_length ks = rw (length-append, length_uint16) refl

pub around_length : (v : Sent) (ks : List EncryptedDataKey)
    → length (sent_bytes (sent_with ks v)) ≡ length (in_front v) + (2 + length (images write_encrypted_data_key ks)) + length (at_the_end v)
around_length v ks =
    let a = ap length (around v ks) in
    let b = length-append (in_front v) (write_encrypted_data_keys_section ks ++ at_the_end v) in
    let c = length-append (write_encrypted_data_keys_section ks) (at_the_end v) in
    let d = section_length ks in
    omega arith

-- WHAT WAS READ
pub record WasRead (m : List ℕ) (b : HeaderBody) (t : ℕ) : Type 0 where
  pub sent : Sent
  pub ok : BodyOk asked sent
  pub bytes : m ≡ sent_bytes sent ++ drop t m
  pub tail : t ≡ length (sent_bytes sent)
  pub fields : fields_of b ≡ sent.fields
  pub marked : b.form ≡ sent.form
  pub few : length m ≤ 4294967295

pub was_read : (m : List ℕ) → Bytes m → (b : HeaderBody) (t : ℕ) → operation read_draft m 0 ≡ accepted b t → WasRead m b t
unfolding read_draft
was_read m hb b t e =
    let (l, x) = accepted_took (body_exact asked) m 0 hb b t e in
    let v : Sent = x.value in
    let rest : l ≡ drop t m = rest_is m 0 l (sent_bytes v) t x.split x.tail in
    record {
      sent = v;
      ok = x.good;
      bytes = x.split ∙ ap (λ y. sent_bytes v ++ y) rest;
      tail = (let z = x.tail in omega arith);
      fields = ap fields_of x.placed ∙ fields_at 0 v;
      marked = ap (λ (y : HeaderBody). y.form) x.placed;
      few = cases (read_body asked) m 0 (λ no. refused_is_no_accepted (sym no ∙ e)) (λ h k is. h);
    }

pub length_keys : (b : HeaderBody) → length (fields_of b).keys ≡ length b.keys
unfolding fields_of
length_keys b = length-map b.keys key_of

pub few_keys : (m : List ℕ) → Bytes m → (b : HeaderBody) (t : ℕ) → operation read_draft m 0 ≡ accepted b t → length b.keys < 65536
few_keys m hb b t e =
    let w = was_read m hb b t e in
    let n = w.ok.keys.list.few in
    let k = ap (λ (f : Fields). length f.keys) w.fields in
    let j = length_keys b in
    omega arith

-- WHAT STANDS THERE
pub stands : (v : Sent) → BodyOk asked v → (rest : List ℕ) → length (sent_bytes v ++ rest) ≤ 4294967295 → Draft (sent_bytes v ++ rest) v.form v.fields (length (sent_bytes v))
unfolding read_draft
stands v ok rest few =
    record {
      body = body_at 0 v;
      reads = operation_here (read_body asked) (sent_bytes v ++ rest) 0 few (omega arith) ∙ ap answer ((body_exact asked).complete v 0 rest ok)
          ∙ ap (accepted (body_at 0 v)) (let n : 0 + length (sent_bytes v) ≡ length (sent_bytes v) = omega arith in n);
      gives = record { fields = fields_at 0 v; placed = body_held (sent_bytes v ++ rest) asked 0 v ok (record { after = rest; is = refl }) };
      marked = refl;
    }
