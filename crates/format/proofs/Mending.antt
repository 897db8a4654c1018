-- What is said of a draft that was read, and what a buffer is that begins with one. Assumes nothing.
use mathlib.Core.Path.{◌≡◌, refl, sym, ap, ◌∙◌}
use mathlib.Core.Bool.{true, false, not}
use mathlib.Core.List.{List, [], ◌∷◌, ◌++◌, append_assoc}
use Prim.Native.Nat.{ℕ, ◌+◌, ◌-◌, ◌≤◌}
use native.Mathlib.Omega.{arith}
use lib.Dec.{leb, eqb}
use lib.ListN.{length, take, drop, length-append, length-drop, length-replicate}
use lib.Seq.{take_at, drop_at, drop-append_seam}
use Rattle.format.specs.Read.{◌>>◌, return, test, Answer, accepted, refused, operation}
use Rattle.format.specs.Utf8.{valid_utf8_seq}
use Rattle.format.specs.Fields.{Form, EncryptedDataKey, Fields, HeaderBody, fields_of, with_keys}
use Rattle.format.specs.Body.{image}
use Rattle.format.specs.Auth.{zeros}
use Rattle.format.specs.OnlyAuthenticated.{fitting}
use Rattle.format.specs.Lent.{bytes_at, filled}
use Rattle.format.specs.Mending.{read_draft, without_provider, dropped_image, added_image, drop_encrypted_data_keys, addable, add_encrypted_data_key, mended, buffer_after}
use Rattle.format.specs.Mending.{some_remain as remain}
use Rattle.format.specs.Mended.{Draft}
use Rattle.format.proofs.Tests.{neqb_is}
use Rattle.format.proofs.Keys.{KeyListOk}
use Rattle.format.proofs.Body.{sent_bytes}
use Rattle.format.proofs.Messages.{accepted_goes_on}
use Rattle.format.proofs.Drafts.{sent_with, with_keys_ok, WasRead, stands}

-- some keys
pub nonempty : (ks : List EncryptedDataKey) → (ks ≡ [] → ⊥) → not (eqb (length ks) 0) ≡ true
nonempty [] h = absurd (h refl)
nonempty (k ∷ ks) h = rw (neqb_is (length (k ∷ ks)) 0 (λ z. omega arith)) refl

-- fields with their own keys are themselves
pub own_keys : (form : Form) (f : Fields) → image form (with_keys f.keys f) ≡ image form f
unfolding image
own_keys form f = refl

module _ (m : List ℕ) (b : HeaderBody) (t : ℕ) (e : operation read_draft m 0 ≡ accepted b t) where
  -- what is said of a draft that was read
  module _ (id : List ℕ) where
    pub says_40 : without_provider id (fields_of b).keys ≡ [] → operation (drop_encrypted_data_keys id) m 0 ≡ refused 40 0
    unfolding drop_encrypted_data_keys test ◌>>◌
    says_40 h = (accepted_goes_on read_draft _ m 0 b t e).1 ∙ rw h refl

    pub drop_said : remain id b ≡ true → operation (drop_encrypted_data_keys id) m 0 ≡ accepted (dropped_image id b) t
    unfolding drop_encrypted_data_keys test ◌>>◌ return
    drop_said h = (accepted_goes_on read_draft _ m 0 b t e).1 ∙ rw h refl

  module _ (k : EncryptedDataKey) (room : ℕ) where
    pub says_16 : valid_utf8_seq k.keyProviderId ≡ false → operation (add_encrypted_data_key k room) m 0 ≡ refused 16 0
    unfolding add_encrypted_data_key test ◌>>◌
    says_16 h = (accepted_goes_on read_draft _ m 0 b t e).1 ∙ rw h refl

    pub says_27 : valid_utf8_seq k.keyProviderId ≡ true → addable k (length b.keys) ≡ false → operation (add_encrypted_data_key k room) m 0 ≡ refused 27 0
    unfolding add_encrypted_data_key test ◌>>◌
    says_27 h j = (accepted_goes_on read_draft _ m 0 b t e).1 ∙ rw (h, j) refl

    pub says_28 : valid_utf8_seq k.keyProviderId ≡ true → addable k (length b.keys) ≡ true → leb (length (added_image k b)) room ≡ false → operation (add_encrypted_data_key k room) m 0 ≡ refused 28 0
    unfolding add_encrypted_data_key fitting test ◌>>◌
    says_28 h j i = (accepted_goes_on read_draft _ m 0 b t e).1 ∙ rw (h, j, i) refl

    pub add_said : valid_utf8_seq k.keyProviderId ≡ true → addable k (length b.keys) ≡ true → leb (length (added_image k b)) room ≡ true → operation (add_encrypted_data_key k room) m 0 ≡ accepted (added_image k b) t
    unfolding add_encrypted_data_key fitting test ◌>>◌ return
    add_said h j i = (accepted_goes_on read_draft _ m 0 b t e).1 ∙ rw (h, j, i) refl

-- a refusal leaves the buffer
pub refused_keeps : (o : Answer (List ℕ)) (m : List ℕ) (k p : ℕ) → o ≡ refused k p → buffer_after o m ≡ m
refused_keeps o m k p e = ap (λ (x : Answer (List ℕ)). buffer_after x m) e

-- a buffer that begins with a draft, and zeros up to the old tail
module _ (d m : List ℕ) (t : ℕ) where
  pub long : length (mended d t) ≡ length d + (t - length d)
  unfolding zeros
  long = length-append d (zeros (t - length d)) ∙ ap (λ n. length d + n) (length-replicate (t - length d) 0)

  pub in_parts : (n : ℕ) → length (mended d t) ≡ n → filled (mended d t) m ≡ d ++ (zeros (t - length d) ++ drop n m)
  in_parts n e = rw e (append_assoc d (zeros (t - length d)) (drop n m))

  pub as_long_as : (n : ℕ) → length (mended d t) ≡ n → n ≤ length m → length (d ++ (zeros (t - length d) ++ drop n m)) ≡ length m
  as_long_as n e h =
      let a = ap length (append_assoc d (zeros (t - length d)) (drop n m)) in
      let b = length-append (mended d t) (drop n m) in
      let c = length-drop n m in
      omega arith

  pub past : (n : ℕ) → length (mended d t) ≡ n → drop n (d ++ (zeros (t - length d) ++ drop n m)) ≡ drop n m
  past n e = ap (drop n) (sym (append_assoc d (zeros (t - length d)) (drop n m))) ∙ drop_at (mended d t) (drop n m) n e

  pub zeroed : (n : ℕ) → bytes_at (d ++ (zeros (t - length d) ++ drop n m)) (length d) (t - length d) ≡ zeros (t - length d)
  unfolding zeros
  zeroed n = rw (drop-append_seam d (zeros (t - length d) ++ drop n m)) (take_at (zeros (t - length d)) (drop n m) (t - length d) (length-replicate (t - length d) 0))

pub same_draft : (buffer : List ℕ) (tail : ℕ) {form form' : Form} {f f' : Fields} → form ≡ form' → f ≡ f' → Draft buffer form f tail → Draft buffer form' f' tail
same_draft buffer tail e g h = rw (← e, ← g) h

-- the fields that were read are those of the value
module _ (m : List ℕ) (b : HeaderBody) (t : ℕ) (w : WasRead m b t) where
  pub with_image : (ks : List EncryptedDataKey) → image b.form (with_keys ks (fields_of b)) ≡ sent_bytes (sent_with ks w.sent)
  with_image ks = rw (w.fields, w.marked) refl

  pub own_image : sent_bytes w.sent ≡ take t m
  own_image = sym (ap (take t) w.bytes ∙ take_at (sent_bytes w.sent) (drop t m) t (sym w.tail))

  pub own_tail : length (take t m) ≡ t
  own_tail = ap length (sym own_image) ∙ sym w.tail

  pub own_length : t ≡ length (sent_bytes (sent_with w.sent.fields.keys w.sent))
  own_length = w.tail ∙ sym (ap length (own_keys w.sent.form w.sent.fields))

  pub inside : t ≤ length m
  inside = let a = ap length w.bytes in let c = length-append (sent_bytes w.sent) (drop t m) in let d = w.tail in omega arith

  -- with other keys it stands again, whatever follows
  pub drafted : (ks : List EncryptedDataKey) → KeyListOk ks → (rest : List ℕ) → length (sent_bytes (sent_with ks w.sent) ++ rest) ≤ 4294967295
      → Draft (sent_bytes (sent_with ks w.sent) ++ rest) b.form (with_keys ks (fields_of b)) (length (sent_bytes (sent_with ks w.sent)))
  drafted ks o rest few =
      same_draft _ _ (sym w.marked) (ap (λ (f : Fields). with_keys ks f) (sym w.fields)) (stands (sent_with ks w.sent) (with_keys_ok w.sent w.ok ks o) rest few)
