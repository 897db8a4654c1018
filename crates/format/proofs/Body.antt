-- A body is read exactly as it is written, in either form. Assumes nothing.
use mathlib.Core.Path.{◌≡◌, refl}
use mathlib.Core.Bool.{true, not, ◌||◌}
use mathlib.Core.List.{List, append-nil}
use Prim.Native.Nat.{ℕ, ◌+◌, ◌*◌, ◌<◌}
use native.Mathlib.Omega.{arith}
use lib.Dec.{eqb}
use lib.ListN.{length}
use Rattle.format.specs.Shared.{frame_fits}
use Rattle.format.specs.Fields.{Form, EncryptedDataKey, Fields, HeaderBody, pair_of, key_of, fields_of}
use Rattle.format.specs.Context.{write_aad_pair}
use Rattle.format.specs.Keys.{within, write_encrypted_data_key, write_encrypted_data_keys_section}
use Rattle.format.specs.Body.{Request, whole, after_keys, after_context, after_opening, read_body, image}
use Rattle.format.proofs.Exact.{Exact, seq_exact, check_exact, check_as, give_exact, revalue, length_puts, map_puts}
use Rattle.format.proofs.Context.{pair_at, Context, context_bytes}
use Rattle.format.proofs.Marked.{MarkedOk, marked_at, marked_exact}
use Rattle.format.proofs.Keys.{key_at, KeysOk, keys_at, keys_exact}
use Rattle.format.proofs.Ends.{Top, TopOk, top_bytes, top_at, v1_of, opening_exact, End, EndOk, end_at, closing_exact}

-- fields, and the form that their context is written in
pub record Sent : Type 0 where
  pub form : Form
  pub fields : Fields

abbrev pub top_of : Fields → Top
top_of f = record { version = f.version; messageType = f.messageType; suite = f.suite; messageId = f.messageId }

abbrev pub context_of : Sent → Context
context_of x = record { form = x.form; pairs = x.fields.pairs }

abbrev pub end_of : Fields → End
end_of f = record { contentType = f.contentType; headerIvLength = f.headerIvLength; frameLength = f.frameLength; suiteData = f.suiteData }

abbrev pub joined : Top → Context → List EncryptedDataKey → End → Sent
joined h c ks e =
    record {
      form = c.form;
      fields = record {
        version = h.version;
        messageType = h.messageType;
        suite = h.suite;
        messageId = h.messageId;
        pairs = c.pairs;
        keys = ks;
        contentType = e.contentType;
        headerIvLength = e.headerIvLength;
        frameLength = e.frameLength;
        suiteData = e.suiteData;
      };
    }

pub record BodyOk (q : Request) (x : Sent) : Type 0 where
  pub top : TopOk q.which q.policy (top_of x.fields)
  pub context : MarkedOk q.mode (context_of x)
  pub keys : KeysOk q.max x.fields.keys
  pub end : EndOk (eqb x.fields.version 1) (end_of x.fields)
  pub t20 : (not q.frames || frame_fits x.fields.contentType x.fields.frameLength) ≡ true
  pub t22 : within (4 * length x.fields.pairs) q.pairRoom ≡ true
  pub t23 : within (6 * length x.fields.keys) q.keyRoom ≡ true

abbrev pub sent_bytes : Sent → List ℕ
sent_bytes x = image x.form x.fields

-- the fields with the places that they have when their image starts at s
abbrev pub body_at : ℕ → Sent → HeaderBody
body_at s x =
    let h = top_of x.fields in
    let c = context_of x in
    let t = s + length (top_bytes h) in
    let u = t + length (context_bytes c) in
    let v = u + length (write_encrypted_data_keys_section x.fields.keys) in
    whole (top_at s h) (marked_at t c) (keys_at u x.fields.keys) (end_at (v1_of h) v (end_of x.fields))

pub body_exact : (q : Request) → Exact (read_body q) (BodyOk q) sent_bytes body_at
unfolding read_body after_opening after_context after_keys image
body_exact q =
    revalue (BodyOk q) sent_bytes body_at
    (seq_exact _ (opening_exact q.which q.policy) λ r h. seq_exact _ (marked_exact q.mode) λ s c. seq_exact _ (keys_exact q.max) λ t ks. seq_exact _ (closing_exact (eqb h.version 1)) λ u e.
    check_exact 20 _ (check_as 22 (within (4 * length c.pairs) q.pairRoom) (rw (length_puts write_aad_pair pair_at) refl)
    (check_as 23 (within (6 * length ks) q.keyRoom) (rw (length_puts write_encrypted_data_key key_at) refl) (give_exact _))))
    (λ w o. (joined w.0 w.1.0 w.1.1.0 w.1.1.1.0, search, rw append-nil refl, λ s. refl))
    (λ x o. ((top_of x.fields, (context_of x, (x.fields.keys, (end_of x.fields, tt)))), search, rw append-nil refl, λ s. refl))

-- an image is not empty, so one that stands in a message starts within it
pub some_bytes : (x : Sent) → 0 < length (sent_bytes x)
unfolding image
some_bytes x = omega arith

-- the values of fields that were placed
pub fields_at : (s : ℕ) (x : Sent) → fields_of (body_at s x) ≡ x.fields
unfolding fields_of
fields_at s x = rw (map_puts write_aad_pair pair_at pair_of (λ s p. refl), map_puts write_encrypted_data_key key_at key_of (λ s k. refl)) refl
