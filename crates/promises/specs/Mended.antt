-- Drafts mended, of the code: what every call of `drop_encrypted_data_keys` and of `add_encrypted_data_key` answers and leaves in its buffer,
-- by their contracts. Proved in proofs/Mended. Assumes nothing.
use Rattle.std.specs.Prelude.{ℕ, ◌+◌, ◌-◌, ◌≤◌, ◌<◌, ◌≡◌, true, false, List, [], ◌++◌, length, take, drop, Result, Ok, Err}
use Rattle.format.specs.Read.{accepted, refused, operation}
use Rattle.format.specs.Serialize.{Bytes}
use Rattle.format.specs.Utf8.{valid_utf8_seq}
use Rattle.format.specs.Fields.{EncryptedDataKey, HeaderBody, fields_of}
use Rattle.format.specs.Keys.{write_encrypted_data_key}
use Rattle.format.specs.Auth.{zeros}
use Rattle.format.specs.Mending.{read_draft, without_provider, drop_encrypted_data_keys, addable, add_encrypted_data_key}
use Rattle.format.specs.Mended.{Absent, Dropped, Added}
use Rattle.wire.specs.Codes.{because}
use Rattle.wire.specs.declared.refusals.Refusal.{Refusal}
use Rattle.checks.specs.Answers.{written_as}
use Rattle.drafts.specs.Codes.{Mends}

-- a call meets the contract
abbrev pub Drops : List ℕ → List ℕ → List ℕ → Result ℕ Refusal → Type 0
Drops id before after r = Mends written_as (operation (drop_encrypted_data_keys id) before 0) before after r

abbrev pub Adds : EncryptedDataKey → List ℕ → List ℕ → Result ℕ Refusal → Type 0
Adds k before after r = Mends written_as (operation (add_encrypted_data_key k (length before)) before 0) before after r

pub record DropPromise (id before after : List ℕ) (r : Result ℕ Refusal) : Type 0 where
  pub reading_refused : (k p : ℕ) → operation read_draft before 0 ≡ refused k p → r ≡ Err (because k p)
  pub none_remains : (b : HeaderBody) (t : ℕ) → operation read_draft before 0 ≡ accepted b t → without_provider id (fields_of b).keys ≡ [] → r ≡ Err (because 40 0)
  pub some_remain : (b : HeaderBody) (t : ℕ) → operation read_draft before 0 ≡ accepted b t → (without_provider id (fields_of b).keys ≡ [] → ⊥)
      → (tail : ℕ) × (r ≡ Ok tail) × Dropped id before b t tail after
  -- a refusal changes no byte
  pub keeps : (q : Refusal) → r ≡ Err q → after ≡ before

pub record AddPromise (k : EncryptedDataKey) (before after : List ℕ) (r : Result ℕ Refusal) : Type 0 where
  pub reading_refused : (j p : ℕ) → operation read_draft before 0 ≡ refused j p → r ≡ Err (because j p)
  pub not_utf8 : (b : HeaderBody) (t : ℕ) → operation read_draft before 0 ≡ accepted b t → valid_utf8_seq k.keyProviderId ≡ false → r ≡ Err (because 16 0)
  pub too_large : (b : HeaderBody) (t : ℕ) → operation read_draft before 0 ≡ accepted b t → valid_utf8_seq k.keyProviderId ≡ true → addable k (length b.keys) ≡ false → r ≡ Err (because 27 0)
  pub too_short : (b : HeaderBody) (t : ℕ) → operation read_draft before 0 ≡ accepted b t → valid_utf8_seq k.keyProviderId ≡ true → addable k (length b.keys) ≡ true
      → length before < t + length (write_encrypted_data_key k) → r ≡ Err (because 28 0)
  pub fits : (b : HeaderBody) (t : ℕ) → operation read_draft before 0 ≡ accepted b t → valid_utf8_seq k.keyProviderId ≡ true → addable k (length b.keys) ≡ true
      → t + length (write_encrypted_data_key k) ≤ length before → (r ≡ Ok (t + length (write_encrypted_data_key k))) × Added k before b t (t + length (write_encrypted_data_key k)) after
  pub keeps : (q : Refusal) → r ≡ Err q → after ≡ before

-- the buffer's elements are bytes, as its type says
pub record MendedPromises : Type 0 where
  pub every_drop : (id before after : List ℕ) (r : Result ℕ Refusal) → Bytes before → Drops id before after r → DropPromise id before after r
  pub every_addition : (k : EncryptedDataKey) (before after : List ℕ) (r : Result ℕ Refusal) → Bytes before → Adds k before after r → AddPromise k before after r
  -- a key that was added, with an ID that was not there, and dropped again: the first draft's bytes and its tail
  pub back : (k : EncryptedDataKey) (before between after : List ℕ) (r r' : Result ℕ Refusal) → Bytes before → Adds k before between r → Drops k.keyProviderId between after r'
      → (b : HeaderBody) (t tail : ℕ) → operation read_draft before 0 ≡ accepted b t → Absent k.keyProviderId (fields_of b).keys → r ≡ Ok tail
      → (r' ≡ Ok t) × (after ≡ take t before ++ (zeros (tail - t) ++ drop tail before))
