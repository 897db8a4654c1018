-- A key that was read is what stands there, and so is a section. Assumes nothing.
use mathlib.Core.Path.{◌≡◌, ap, ◌∙◌}
use mathlib.Core.List.{List}
use Prim.Native.Nat.{ℕ, ◌+◌}
use native.Mathlib.Omega.{arith}
use Rattle.format.specs.Read.{no_end, accepted, at}
use Rattle.format.specs.Serialize.{Part}
use Rattle.format.specs.Fields.{EncryptedDataKeyAt}
use Rattle.format.specs.Keys.{Max, read_encrypted_data_key, read_encrypted_data_keys_of, read_encrypted_data_keys_section}
use Rattle.format.specs.Places.{entry_here, entry_end, key_here, key_end}
use Rattle.steps.proofs.Tidy.{Tidy, tidy, uint16_tidy, entry_tidy, text_tidy}
use Rattle.steps.proofs.Steps.{un_bind, un_test, un_return}
use Rattle.steps.proofs.Numbers.{uint16_known}
use Rattle.steps.proofs.Entries.{entry_known, text_known}
use Rattle.entries.proofs.Walk.{Known, Kind}
use Rattle.entries.proofs.Sections.{Holds, all_hold}
use Rattle.keys.specs.Codes.{any_key}

pub key_tidy : Tidy read_encrypted_data_key
unfolding read_encrypted_data_key
key_tidy = search tidy depth 20

pub section_tidy : (max : Max) → Tidy (read_encrypted_data_keys_section max)
unfolding read_encrypted_data_keys_section read_encrypted_data_keys_of
section_tidy max = search (tidy, key_tidy) depth 20

three : (p q i j c d : Part) → p ≡ q → i ≡ j → c ≡ d
    → ◌≡◌ {A = EncryptedDataKeyAt} (record { keyProviderId = p; keyProviderInfo = i; ciphertext = c }) (record { keyProviderId = q; keyProviderInfo = j; ciphertext = d })
three p q i j c d e f g = rw (e, f, g)

key_known : (m : List ℕ) (s : ℕ) (a : EncryptedDataKeyAt) (t : ℕ) → at read_encrypted_data_key m s ≡ accepted a t → Known key_here key_end m s a t
unfolding read_encrypted_data_key
key_known m s a t e =
    let x = un_bind _ (text_tidy no_end 16) m s a t e in
    let p = (text_known no_end 16 m s x.0 x.1 x.2).0 in
    let y = un_bind _ (entry_tidy no_end) m x.1 a t x.3 in
    let i = (entry_known no_end m x.1 y.0 y.1 y.2).0 in
    let z = un_bind _ (entry_tidy no_end) m y.1 a t y.3 in
    let c = (entry_known no_end m y.1 z.0 z.1 z.2).0 in
    let u = un_return _ m z.1 a t z.3 in
    let second : y.1 ≡ entry_end m (entry_end m s) = i.tail ∙ ap (entry_end m) p.tail in
    record {
      is = u.0 ∙ three _ _ _ _ _ _ p.is (i.is ∙ ap (entry_here m) p.tail) (c.is ∙ ap (entry_here m) second);
      tail = u.1 ∙ c.tail ∙ ap (entry_end m) second;
      within = omega (arith, u.1, c.tail, c.there);
    }

pub key_kind : Kind any_key key_here key_end
key_kind = record { tidy = λ acc. key_tidy; known = λ acc. key_known }

-- an accepted section: its keys stand from the third byte on
pub section_known : (max : Max) (m : List ℕ) (start : ℕ) (ks : List EncryptedDataKeyAt) (t : ℕ) → at (read_encrypted_data_keys_section max) m start ≡ accepted ks t → Holds key_here key_end m (start + 2) ks t
unfolding read_encrypted_data_keys_section read_encrypted_data_keys_of
section_known max m start ks t e =
    let x = un_bind _ uint16_tidy m start ks t e in
    let c = uint16_known m start x.0 x.1 x.2 in
    let y = un_test 38 _ _ m x.1 ks t x.3 in
    let z = un_test 15 _ _ m x.1 ks t y.1 in
    all_hold key_kind m x.0 x.1 (start + 2) c.tail (omega arith) ks t z.1
