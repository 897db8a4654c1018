-- What a reader gives stands at the places that it gives. Assumes nothing.
use mathlib.Core.Path.{◌≡◌, refl, sym, ap, ◌∙◌}
use mathlib.Core.Bool.{Bool, true, false, cond}
use mathlib.Core.List.{List, [], ◌∷◌, ◌++◌, append_assoc}
use Prim.Native.Nat.{ℕ, ◌+◌, ◌-◌, ◌≤◌}
use native.Mathlib.Omega.{arith}
use native.Mathlib.Nat.{add_assoc}
use lib.Dec.{eqb}
use lib.ListN.{length, drop, length-append, length-drop}
use lib.Seq.{drop-drop, take-append_seam, drop-append_seam}
use Rattle.format.specs.Serialize.{Part, write_uint16, write_uint32, write_short_length_seq, images}
use Rattle.format.specs.Fields.{Form, today, old, Pair, EncryptedDataKey, pair_places, key_places}
use Rattle.format.specs.Context.{linear_length, write_aad_pair, write_aad_pairs, write_aad, write_expanded_aad_section, write_aad_section, section_in}
use Rattle.format.specs.Keys.{write_encrypted_data_key, write_encrypted_data_keys, write_encrypted_data_keys_section}
use Rattle.format.specs.Body.{Request, write_opening_of, write_closing_of, image}
use Rattle.format.specs.Lent.{bytes_at}
use Rattle.format.specs.Demand3.{Held, Each, HeldBody}
use Rattle.format.proofs.Exact.{puts}
use Rattle.format.proofs.Serialize.{part_at, entry_at, length_uint16, length_uint32, length_entry}
use Rattle.format.proofs.Context.{pair_at, context_bytes}
use Rattle.format.proofs.Keys.{key_at, keys_at}
use Rattle.format.proofs.Ends.{top_bytes, End, EndOk, end_bytes, no_bytes}
use Rattle.format.proofs.Body.{Sent, BodyOk, top_of, context_of, end_of, sent_bytes, body_at}

-- a place of the message
abbrev pub Within : List ℕ → Part → Type 0
Within m p = p.start + length p.bytes ≤ length m

-- the bytes b stand at s of the message
pub record Here (m : List ℕ) (s : ℕ) (b : List ℕ) : Type 0 where
  pub after : List ℕ
  pub is : drop s m ≡ b ++ after

module _ (m : List ℕ) where
  pub left : (s : ℕ) (b c : List ℕ) → Here m s (b ++ c) → Here m s b
  left s b c h = record { after = c ++ h.after; is = h.is ∙ append_assoc b c h.after }

  pub right : (s : ℕ) (b c : List ℕ) → Here m s (b ++ c) → Here m (s + length b) c
  right s b c h = record { after = h.after; is = sym (drop-drop (length b) s m) ∙ rw (h.is, append_assoc b c h.after) (drop-append_seam b (c ++ h.after)) }

  pub held : (s : ℕ) (b : List ℕ) → Here m s b → bytes_at m s (length b) ≡ b
  held s b h = rw h.is (take-append_seam b h.after)

  -- where s is a place of the message, so is that behind the bytes
  pub reached : (s : ℕ) (b : List ℕ) → s ≤ length m → Here m s b → s + length b ≤ length m
  reached s b le h =
      let d : length m - s ≡ length (b ++ h.after) = sym (length-drop s m) ∙ ap length h.is in
      let a = length-append b h.after in
      omega arith

  entry_held : (s : ℕ) (bytes : List ℕ) → Here m s (write_short_length_seq bytes) → Held m (entry_at s bytes)
  unfolding write_short_length_seq
  entry_held s bytes h = held (s + 2) bytes (rw length_uint16 at (right s (write_uint16 (length bytes)) bytes h))

  -- its place is one of the message, also where it is empty
  entry_within : (s : ℕ) (bytes : List ℕ) → Here m s (write_short_length_seq bytes) → Within m (entry_at s bytes)
  entry_within s bytes h =
      let d : length m - s ≡ length (write_short_length_seq bytes ++ h.after) = sym (length-drop s m) ∙ ap length h.is in
      let a = length-append (write_short_length_seq bytes) h.after in
      let l : length (write_short_length_seq bytes) ≡ 2 + length bytes = length_entry bytes in
      omega arith

-- what holds of each entry holds of the entries of both sections
module _ (m : List ℕ) (P : Part → Type 0) (entry : (s : ℕ) (bytes : List ℕ) → Here m s (write_short_length_seq bytes) → P (entry_at s bytes)) where
  pairs_all : (ps : List Pair) (s : ℕ) → Here m s (images write_aad_pair ps) → Each P (images pair_places (puts write_aad_pair pair_at s ps))
  unfolding images puts write_aad_pair
  pairs_all [] s h = tt
  pairs_all (p ∷ ps) s h =
      let k = write_short_length_seq p.key in
      let v = write_short_length_seq p.value in
      let x = left m s (k ++ v) (images write_aad_pair ps) h in
      (entry s p.key (left m s k v x), (entry (s + length k) p.value (right m s k v x), pairs_all ps (s + length (k ++ v)) (right m s (k ++ v) (images write_aad_pair ps) h)))

  after_two_numbers : (s x y : ℕ) (b : List ℕ) → Here m s (write_uint16 x ++ (write_uint16 y ++ b)) → Here m (s + 4) b
  after_two_numbers s x y b h =
      let z : Here m (s + 2) (write_uint16 y ++ b) = rw length_uint16 at (right m s (write_uint16 x) (write_uint16 y ++ b) h) in
      rw (length_uint16, add_assoc s 2 2) at (right m (s + 2) (write_uint16 y) b z)

  expanded_all : (ps : List Pair) (s : ℕ) → Here m s (write_expanded_aad_section ps) → Each P (images pair_places (puts write_aad_pair pair_at (s + 4) ps))
  unfolding write_expanded_aad_section write_aad write_aad_pairs
  expanded_all ps s h = pairs_all ps (s + 4) (after_two_numbers s (2 + linear_length ps) (length ps) (images write_aad_pair ps) h)

  pub context_all : (form : Form) (ps : List Pair) (s : ℕ) → Here m s (section_in form ps) → Each P (images pair_places (puts write_aad_pair pair_at (s + 4) ps))
  unfolding write_aad_section puts images
  context_all today [] s h = tt
  context_all today (p ∷ ps) s h = expanded_all (p ∷ ps) s h
  context_all old ps s h = expanded_all ps s h

  each_key_all : (ks : List EncryptedDataKey) (s : ℕ) → Here m s (images write_encrypted_data_key ks) → Each P (images key_places (puts write_encrypted_data_key key_at s ks))
  unfolding images puts write_encrypted_data_key
  each_key_all [] s h = tt
  each_key_all (k ∷ ks) s h =
      let p = write_short_length_seq k.keyProviderId in
      let i = write_short_length_seq k.keyProviderInfo in
      let c = write_short_length_seq k.ciphertext in
      let x = left m s (p ++ (i ++ c)) (images write_encrypted_data_key ks) h in
      let y = right m s p (i ++ c) x in (
        entry s k.keyProviderId (left m s p (i ++ c) x),
        (
          entry (s + length p) k.keyProviderInfo (left m (s + length p) i c y),
          (
            entry (s + length p + length i) k.ciphertext (right m (s + length p) i c y),
            each_key_all ks (s + length (p ++ (i ++ c))) (right m s (p ++ (i ++ c)) (images write_encrypted_data_key ks) h),
          ),
        ),
      )

  pub keys_all : (ks : List EncryptedDataKey) (s : ℕ) → Here m s (write_encrypted_data_keys_section ks) → Each P (images key_places (keys_at s ks))
  unfolding write_encrypted_data_keys_section write_encrypted_data_keys
  keys_all ks s h = each_key_all ks (s + 2) (rw length_uint16 at (right m s (write_uint16 (length ks)) (images write_encrypted_data_key ks) h))

module _ (m : List ℕ) where
  pub context_held : (form : Form) (ps : List Pair) (s : ℕ) → Here m s (section_in form ps) → Each (Held m) (images pair_places (puts write_aad_pair pair_at (s + 4) ps))
  context_held = context_all m (Held m) (entry_held m)

  pub keys_held : (ks : List EncryptedDataKey) (s : ℕ) → Here m s (write_encrypted_data_keys_section ks) → Each (Held m) (images key_places (keys_at s ks))
  keys_held = keys_all m (Held m) (entry_held m)

  id_held : (v1 : Bool) (s type suite : ℕ) (id : List ℕ) → Here m s (write_opening_of v1 type suite id) → Held m (part_at (s + cond v1 3 2) id)
  unfolding write_opening_of
  id_held true s type suite id h =
      let x = right m s (type ∷ []) (write_uint16 suite ++ id) h in
      held m (s + 3) id (rw (length_uint16, add_assoc s 1 2) at (right m (s + 1) (write_uint16 suite) id x))
  id_held false s type suite id h = held m (s + 2) id (rw length_uint16 at (right m s (write_uint16 suite) id h))

  suite_data_held : (v1 : Bool) (s : ℕ) (e : End) → EndOk v1 e → Here m s (end_bytes v1 e) → Held m (part_at (cond v1 0 (s + 5)) e.suiteData)
  unfolding write_closing_of
  suite_data_held true s e o h = rw (no_bytes e.suiteData o.sized) refl
  suite_data_held false s e o h =
      let x = right m s (e.contentType ∷ []) (write_uint32 e.frameLength ++ e.suiteData) h in
      held m (s + 5) e.suiteData (rw (length_uint32, add_assoc s 1 4) at (right m (s + 1) (write_uint32 e.frameLength) e.suiteData x))

  -- the four parts of a body, each where the one before it ends
  record Parts (s : ℕ) (x : Sent) : Type 0 where
    opening : Here m s (top_bytes (top_of x.fields))
    context : Here m (s + length (top_bytes (top_of x.fields))) (context_bytes (context_of x))
    keys : Here m (s + length (top_bytes (top_of x.fields)) + length (context_bytes (context_of x))) (write_encrypted_data_keys_section x.fields.keys)
    closing : Here m (s + length (top_bytes (top_of x.fields)) + length (context_bytes (context_of x)) + length (write_encrypted_data_keys_section x.fields.keys))
        (end_bytes (eqb x.fields.version 1) (end_of x.fields))

  parts : (s : ℕ) (x : Sent) → Here m s (sent_bytes x) → Parts s x
  unfolding image
  parts s x h =
      let tb = top_bytes (top_of x.fields) in
      let cb = context_bytes (context_of x) in
      let kb = write_encrypted_data_keys_section x.fields.keys in
      let eb = end_bytes (eqb x.fields.version 1) (end_of x.fields) in
      let a = right m s tb (cb ++ (kb ++ eb)) h in
      let b = right m (s + length tb) cb (kb ++ eb) a in
      record {
        opening = left m s tb (cb ++ (kb ++ eb)) h;
        context = left m (s + length tb) cb (kb ++ eb) a;
        keys = left m (s + length tb + length cb) kb eb b;
        closing = right m (s + length tb + length cb) kb eb b;
      }

  pub body_held : (q : Request) (s : ℕ) (x : Sent) → BodyOk q x → Here m s (sent_bytes x) → HeldBody m (body_at s x)
  body_held q s x o h =
      let f = x.fields in
      let w = parts s x h in
      record {
        messageId = id_held (eqb f.version 1) (s + 1) f.messageType f.suite f.messageId
            (right m s (f.version ∷ []) (write_opening_of (eqb f.version 1) f.messageType f.suite f.messageId) w.opening);
        pairs = context_held x.form f.pairs _ w.context;
        keys = keys_held f.keys _ w.keys;
        suiteData = suite_data_held (eqb f.version 1) _ (end_of f) o.end w.closing;
      }

  -- and the places of its pairs and keys are places of the message
  pub body_within : (s : ℕ) (x : Sent) → Here m s (sent_bytes x) → Each (Within m) (images pair_places (body_at s x).pairs) × Each (Within m) (images key_places (body_at s x).keys)
  body_within s x h =
      let w = parts s x h in
      (context_all m (Within m) (entry_within m) x.form x.fields.pairs _ w.context, keys_all m (Within m) (entry_within m) x.fields.keys _ w.keys)
