-- The key section is read exactly as it is written. Assumes nothing.
use mathlib.Core.Path.{◌≡◌, refl}
use mathlib.Core.Bool.{true, not}
use mathlib.Core.List.{List, [], append-nil, map}
use Prim.Native.Nat.{ℕ, ◌+◌, ◌<◌}
use lib.Dec.{eqb}
use lib.ListN.{length}
use Rattle.format.specs.Serialize.{write_short_length_seq}
use Rattle.format.specs.Fields.{EncryptedDataKey, EncryptedDataKeyAt, key_of}
use Rattle.format.specs.Keys.{Max, within, write_encrypted_data_key, write_encrypted_data_keys, write_encrypted_data_keys_section, read_encrypted_data_key, read_encrypted_data_keys_of, read_encrypted_data_keys_section}
use Rattle.format.proofs.Exact.{Exact, seq_exact, check_exact, give_exact, revalue, many_exact, Oks, puts}
use Rattle.format.proofs.Serialize.{uint16_exact, length_uint16, entry_exact, entry_at, Short}
use Rattle.format.proofs.Context.{TextOk, text_exact}

-- a key; what is good does not depend on the keys before it
pub record KeyOk (acc : List EncryptedDataKey) (k : EncryptedDataKey) : Type 0 where
  pub provider : TextOk k.keyProviderId
  pub info : Short k.keyProviderInfo
  pub cipher : Short k.ciphertext

abbrev pub key_at : ℕ → EncryptedDataKey → EncryptedDataKeyAt
key_at s k =
    record {
      keyProviderId = entry_at s k.keyProviderId;
      keyProviderInfo = entry_at (s + length (write_short_length_seq k.keyProviderId)) k.keyProviderInfo;
      ciphertext = entry_at (s + length (write_short_length_seq k.keyProviderId) + length (write_short_length_seq k.keyProviderInfo)) k.ciphertext;
    }

key_exact : (acc : List EncryptedDataKey) → Exact read_encrypted_data_key (KeyOk acc) write_encrypted_data_key key_at
unfolding read_encrypted_data_key write_encrypted_data_key
key_exact acc =
    revalue (KeyOk acc) write_encrypted_data_key key_at
    (seq_exact _ (text_exact 16) λ s p. seq_exact _ entry_exact λ s i. seq_exact _ entry_exact λ s c. give_exact _)
    (λ w o. (record { keyProviderId = w.0; keyProviderInfo = w.1.0; ciphertext = w.1.1.0 }, record { provider = o.0; info = o.1.0; cipher = o.1.1.0 }, simp append-nil, λ s. refl))
    (λ k o. ((k.keyProviderId, (k.keyProviderInfo, (k.ciphertext, tt))), (o.provider, (o.info, (o.cipher, tt))), simp append-nil, λ s. refl))

-- keys that a writer accepts
pub record KeyListOk (ks : List EncryptedDataKey) : Type 0 where
  pub few : length ks < 65536
  pub some : not (eqb (length ks) 0) ≡ true
  pub each : Oks KeyOk [] ks

pub record KeysOk (max : Max) (ks : List EncryptedDataKey) : Type 0 where
  pub list : KeyListOk ks
  pub below : within (length ks) max ≡ true

abbrev pub keys_at : ℕ → List EncryptedDataKey → List EncryptedDataKeyAt
keys_at s ks = puts write_encrypted_data_key key_at (s + 2) ks

pub keys_exact : (max : Max) → Exact (read_encrypted_data_keys_section max) (KeysOk max) write_encrypted_data_keys_section keys_at
unfolding read_encrypted_data_keys_section read_encrypted_data_keys_of write_encrypted_data_keys_section write_encrypted_data_keys
keys_exact max =
    revalue (KeysOk max) write_encrypted_data_keys_section keys_at
    (seq_exact _ uint16_exact λ s count. check_exact 38 _ (check_exact 15 _ (many_exact KeyOk write_encrypted_data_key key_at key_of (λ s k. refl) (λ acc. read_encrypted_data_key) (λ acc. key_exact (map key_of acc)) count [])))
    (λ w o.
    let e : length w.1 ≡ w.0 = o.1.1.1.0 in
    (w.1, record { list = record { few = rw e o.0; some = rw e o.1.0; each = o.1.1.1.1 }; below = rw e o.1.1.0 }, rw e refl, λ s. rw length_uint16 refl))
    (λ ks o. ((length ks, ks), (o.list.few, (o.list.some, (o.below, (refl, o.list.each)))), refl, λ s. rw length_uint16 refl))
