-- What the steps of taking keys out say to each other. Assumes nothing.
use Rattle.std.specs.Prelude.{◌≡◌, Bool, true, false, List, map, ℕ, ◌+◌, ◌-◌, length}
use Rattle.format.specs.Serialize.{same_bytes}
use Rattle.format.specs.Fields.{EncryptedDataKey, key_of}
use Rattle.format.specs.Keys.{write_encrypted_data_keys}
use Rattle.format.specs.Lent.{bytes_at}
use Rattle.format.specs.Mending.{without_provider}
use Rattle.format.specs.Places.{key_here, key_end, keys_here}
use Rattle.wire.specs.Stored.{stored}
use Rattle.drafts.specs.declared.dropping.Kept.{Kept}

-- the key that stands at s has that provider ID
abbrev pub is_provided_by : List ℕ → List ℕ → ℕ → Bool
is_provided_by id m s = same_bytes id (key_here m s).keyProviderId.bytes

-- a key at s was passed: it goes, and nothing changes, or it stays and stands behind those that were kept
pub record Passed (id : List ℕ) (s : ℕ) (kept : Kept) (m after : List ℕ) (r : Kept) : Type 0 where
  pub goes : is_provided_by id m s ≡ true → (r ≡ kept) × (after ≡ m)
  pub stays : is_provided_by id m s ≡ false → (r.count ≡ kept.count + 1) × (r.end ≡ kept.end + (key_end m s - s)) × (after ≡ stored m kept.end (bytes_at m s (key_end m s - s)))

-- what is left of the n keys from first on
abbrev pub left : List ℕ → List ℕ → ℕ → ℕ → List EncryptedDataKey
left id m first n = without_provider id (map key_of (keys_here m n first))

-- those are closed up: how many they are, where they end, and the buffer
pub record ClosedUp (id m : List ℕ) (first n : ℕ) (after : List ℕ) (r : Kept) : Type 0 where
  pub count : r.count ≡ length (left id m first n)
  pub end : r.end ≡ first + length (write_encrypted_data_keys (left id m first n))
  pub buffer : after ≡ stored m first (write_encrypted_data_keys (left id m first n))
