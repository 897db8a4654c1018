-- The tests of a key that is to be added, and its entries, one law for each way out. Assumes nothing.
use Prim.Native.Nat.{ℕ, suc, ◌+◌, ◌≤◌, ◌<◌}
use native.Mathlib.Omega.{arith}
use mathlib.Core.Path.{◌≡◌, refl, sym, ap, ◌∙◌}
use mathlib.Core.Bool.{Bool, true, false, ◌&&◌}
use mathlib.Core.List.{List, [], ◌∷◌, ◌++◌, append_assoc}
use lib.Dec.{ltb}
use borrow.Author.Tests.{le-leb, lt-leb}
use lib.ListN.{length, length-append}
use lib.Seq.{take-length}
use Rattle.format.specs.Serialize.{write_short_length_seq, every}
use Rattle.format.specs.Utf8.{valid_utf8_seq}
use Rattle.format.specs.Fields.{EncryptedDataKey}
use Rattle.format.specs.Keys.{write_encrypted_data_key}
use Rattle.format.specs.Checks.{first, has_uint16_len}
use Rattle.format.specs.Lent.{bytes_at}
use Rattle.format.proofs.Serialize.{length_entry}
use Rattle.format.proofs.Tests.{is_leb}
use Rattle.format.proofs.Firsts.{both}
use Rattle.wire.specs.Codes.{because}
use Rattle.wire.specs.Stored.{stored}
use Rattle.wire.proofs.StoreLaws.{stored_more}
use Rattle.std.specs.Prelude.{Ok, Err}
use Rattle.wire.specs.declared.refusals.Refusal.{Refusal}
use Rattle.checks.specs.Answers.{Checked, checked}
use Rattle.drafts.specs.Adding.{size_of, Short, adding_checks}

-- a part, whole
whole : (p : List ℕ) → bytes_at p 0 (length p) ≡ p
whole p = take-length p

module _ (k : EncryptedDataKey) where
  abbrev parts : List (List ℕ)
  parts = k.keyProviderId ∷ k.keyProviderInfo ∷ k.ciphertext ∷ []

  -- 16, then 27
  module _ (valid : Bool) (valid_is : valid ≡ valid_utf8_seq (bytes_at k.keyProviderId 0 (length k.keyProviderId))) (n : ℕ) where
    text : valid_utf8_seq k.keyProviderId ≡ valid
    text = sym (valid_is ∙ ap valid_utf8_seq (whole k.keyProviderId))

    abbrev Fails : Refusal → Type 0
    Fails q = ◌≡◌ {A = Checked} (Err q) (checked (first (adding_checks k n)))

    pub check_16 : valid ≡ false → (q : Refusal) → q ≡ because 16 0 → Fails q
    unfolding first
    check_16 e q f = sym (rw (text, e, f) refl)

    module _ (is_text : valid ≡ true) (short : Bool) (short_is : short ≡ every has_uint16_len parts) where
      pub check_parts : short ≡ false → (q : Refusal) → q ≡ because 27 0 → Fails q
      unfolding first
      check_parts e q f = sym (rw (text, is_text, ← short_is, e, f) refl)

      module _ (all_short : short ≡ true) where
        pub check_count : 65535 ≤ n → (q : Refusal) → q ≡ because 27 0 → Fails q
        unfolding first
        check_count h q f = sym (rw (text, is_text, ← short_is, all_short, lt-leb (suc n) 65535 (omega arith), f) refl)

        pub check_passes : n < 65535 → ◌≡◌ {A = Checked} (Ok tt) (checked (first (adding_checks k n)))
        unfolding first
        check_passes h = sym (rw (text, is_text, ← short_is, all_short, le-leb (suc n) 65535 (omega arith)) refl)

  -- what the tests found
  module _ (n : ℕ) (c : Checked) (c_is : c ≡ checked (first (adding_checks k n))) (passes : c ≡ Ok tt) where
    pub passed : (valid_utf8_seq k.keyProviderId ≡ true) × (every has_uint16_len parts && ltb n 65535 ≡ true)
    unfolding first
    passed = by (valid_utf8_seq k.keyProviderId) refl (every has_uint16_len parts && ltb n 65535) refl (sym c_is ∙ passes)
      where
        by : (a : Bool) → valid_utf8_seq k.keyProviderId ≡ a → (b : Bool) → every has_uint16_len parts && ltb n 65535 ≡ b → checked (first (adding_checks k n)) ≡ Ok tt
            → (valid_utf8_seq k.keyProviderId ≡ true) × (every has_uint16_len parts && ltb n 65535 ≡ true)
        by false p b q f = let y : ◌≡◌ {A = Checked} (Err (because 16 0)) (Ok tt) = rw p at f in let z : ◌≡◌ {A = ℕ} 0 1 = cc in absurd (omega arith)
        by true p false q f = let y : ◌≡◌ {A = Checked} (Err (because 27 0)) (Ok tt) = rw (p, q) at f in let z : ◌≡◌ {A = ℕ} 0 1 = cc in absurd (omega arith)
        by true p true q f = (p, q)

    pub are_short : Short k
    unfolding every
    are_short =
        let short = (both (every has_uint16_len parts) (ltb n 65535) passed.1).0 in
        let (a, e) = both (has_uint16_len k.keyProviderId) _ short in
        let (b, f) = both (has_uint16_len k.keyProviderInfo) _ e in
        let (c, g) = both (has_uint16_len k.ciphertext) true f in
        let x = is_leb (length k.keyProviderId) 65535 a in
        let y = is_leb (length k.keyProviderInfo) 65535 b in
        let z = is_leb (length k.ciphertext) 65535 c in
        record { id = omega arith; info = omega arith; ciphertext = omega arith }

    pub count_few : n < 65535
    count_few = let z = is_leb (suc n) 65535 (both (every has_uint16_len parts) (ltb n 65535) passed.1).1 in omega arith

-- THREE ENTRIES, one behind the other
pub key_put : (k : EncryptedDataKey) (m m₁ m₂ m₃ : List ℕ) (at second third : ℕ) → at + size_of k ≤ length m → second ≡ at + (2 + length k.keyProviderId) → third ≡ second + (2 + length k.keyProviderInfo)
    → m₁ ≡ stored m at (write_short_length_seq k.keyProviderId) → m₂ ≡ stored m₁ second (write_short_length_seq k.keyProviderInfo) → m₃ ≡ stored m₂ third (write_short_length_seq k.ciphertext)
    → m₃ ≡ stored m at (write_encrypted_data_key k)
unfolding write_encrypted_data_key
key_put k m m₁ m₂ m₃ at second third h s t e₁ e₂ e₃ =
    let id = write_short_length_seq k.keyProviderId in
    let info = write_short_length_seq k.keyProviderInfo in
    let ciphertext = write_short_length_seq k.ciphertext in
    let a = length_entry k.keyProviderId in
    let b = length_entry k.keyProviderInfo in
    let c = length-append id info in
    e₃
    ∙ ap (λ (l : List ℕ). stored l third ciphertext) (e₂ ∙ ap (λ (l : List ℕ). stored l second info) e₁ ∙ stored_more m at id info second (omega arith) (omega arith))
    ∙ stored_more m at (id ++ info) ciphertext third (omega arith) (omega arith)
    ∙ ap (stored m at) (append_assoc id info ciphertext)

-- how many bytes it takes
pub key_length : (k : EncryptedDataKey) → length (write_encrypted_data_key k) ≡ size_of k
unfolding write_encrypted_data_key
key_length k =
    let id = write_short_length_seq k.keyProviderId in
    let info = write_short_length_seq k.keyProviderInfo in
    let ciphertext = write_short_length_seq k.ciphertext in
    let a = length_entry k.keyProviderId in
    let b = length_entry k.keyProviderInfo in
    let c = length_entry k.ciphertext in
    let d = length-append info ciphertext in
    let e = length-append id (info ++ ciphertext) in
    omega arith
