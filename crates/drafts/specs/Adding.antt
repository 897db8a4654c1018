-- A key that is to be added, and what is asked of it. Assumes nothing.
use Rattle.std.specs.Prelude.{List, [], ◌∷◌, ℕ, ◌+◌, ◌≤◌, ◌<◌, length}
use Rattle.format.specs.Utf8.{valid_utf8_seq}
use Rattle.format.specs.Fields.{EncryptedDataKey}
use Rattle.format.specs.Checks.{Check, check}
use Rattle.format.specs.Mending.{addable}
use Rattle.body_measure.specs.declared.Measurement.{Measurement}
use Rattle.drafts.specs.declared.adding.EncryptedDataKey.{EncryptedDataKey as Lent}

-- a lent one, and its parts
abbrev pub key_of : Lent → EncryptedDataKey
key_of k = record { keyProviderId = k.keyProviderId.now; keyProviderInfo = k.keyProviderInfo.now; ciphertext = k.ciphertext.now }

abbrev pub parts_of : Lent → List (List ℕ)
parts_of k = k.keyProviderId.now ∷ k.keyProviderInfo.now ∷ k.ciphertext.now ∷ []

-- how many bytes it takes
abbrev pub size_of : EncryptedDataKey → ℕ
size_of k = 6 + length k.keyProviderId + length k.keyProviderInfo + length k.ciphertext

-- its parts have lengths of two bytes
pub record Short (k : EncryptedDataKey) : Type 0 where
  pub id : length k.keyProviderId < 65536
  pub info : length k.keyProviderInfo < 65536
  pub ciphertext : length k.ciphertext < 65536

-- it has room behind a draft's keys, and is one of 65,535 at most
pub record HasRoom (m : List ℕ) (d : Measurement) (k : EncryptedDataKey) : Type 0 where
  pub short : Short k
  pub starts : d.keysStart + 2 ≤ d.keysEnd
  pub ended : d.keysEnd ≤ d.tail
  pub fits : d.tail + size_of k ≤ length m
  pub few : d.keyCount < 65535

-- the tests of a key that is to be added to n of them, without 28
abbrev pub adding_checks : EncryptedDataKey → ℕ → List Check
adding_checks k n = check 16 (valid_utf8_seq k.keyProviderId) ∷ check 27 (addable k n) ∷ []
