-- What mending a draft means, in the request's words, of the definitions that the contracts cite. It is proved in proofs/Mended.
-- Assumes nothing.
use Rattle.std.specs.Prelude.{◌≡◌, true, false, List, [], ◌∷◌, ◌++◌, ℕ, ◌+◌, ◌*◌, ◌-◌, ◌≤◌, ◌<◌, leb, length, take, drop}
use Rattle.format.specs.Read.{Reader, ◌>>=◌, ◌>>◌, return, test, accepted, refused, operation}
use Rattle.format.specs.Serialize.{Bytes}
use Rattle.format.specs.Utf8.{valid_utf8_seq}
use Rattle.format.specs.Fields.{Form, EncryptedDataKey, Fields, HeaderBody, fields_of, with_keys}
use Rattle.format.specs.Context.{tolerant}
use Rattle.format.specs.Keys.{no_max, write_encrypted_data_key, write_encrypted_data_keys_section}
use Rattle.format.specs.Body.{Which, read_body, read_header_body, image}
use Rattle.format.specs.Auth.{zeros}
use Rattle.format.specs.Lent.{bytes_at}
use Rattle.format.specs.Demand3.{Each, Gives}
use Rattle.format.specs.Mending.{without_tables, read_draft, without_provider, dropped, added, dropped_image, added_image, drop_encrypted_data_keys, addable, add_encrypted_data_key, buffer_after}

-- WITHOUT TABLES OR MAXIMUM: what a reader with tables tests behind it
abbrev pub tables_hold : ℕ → ℕ → HeaderBody → Reader HeaderBody
tables_hold pairRoom keyRoom b = do
  test 22 (leb (4 * length b.pairs) pairRoom)
  test 23 (leb (6 * length b.keys) keyRoom)
  return b

pub record WithoutTables : Type 0 where
  pub tables_come_last : (which : Which) (pairRoom keyRoom : ℕ) (m : List ℕ) (s : ℕ)
      → operation (read_header_body which tolerant no_max pairRoom keyRoom) m s ≡ operation (read_body (without_tables which) >>= tables_hold pairRoom keyRoom) m s

-- AROUND THE KEYS. A draft whose key section stands from second to third, and that ends at the tail: whatever keys are written in their place,
-- what stands in front of them and behind them stays as it is. (proofs/Apart)
pub record Apart (m : List ℕ) (b : HeaderBody) (second third tail : ℕ) : Type 0 where
  pub image_with : (ks : List EncryptedDataKey)
      → image b.form (with_keys ks (fields_of b)) ≡ take second m ++ (write_encrypted_data_keys_section ks ++ bytes_at m third (tail - third))
  pub section : third ≡ second + length (write_encrypted_data_keys_section (fields_of b).keys)
  pub keys : bytes_at m second (third - second) ≡ write_encrypted_data_keys_section (fields_of b).keys
  pub ended : third ≤ tail
  pub within : tail ≤ length m

-- THE DRAFT AFTERWARDS: at the front of the buffer it reads as those fields, with that mark and that tail
pub record Draft (buffer : List ℕ) (form : Form) (f : Fields) (tail : ℕ) : Type 0 where
  pub body : HeaderBody
  pub reads : operation read_draft buffer 0 ≡ accepted body tail
  pub gives : Gives buffer body f
  pub marked : body.form ≡ form

-- the keys, with those of that provider ID taken out and the rest closed up in order
pub data TakenOut (id : List ℕ) : List EncryptedDataKey → List EncryptedDataKey → Type 0 where
  none_there : TakenOut id [] []
  goes : {k : EncryptedDataKey} {ks js : List EncryptedDataKey} → id ≡ k.keyProviderId → TakenOut id ks js → TakenOut id (k ∷ ks) js
  stays : {k : EncryptedDataKey} {ks js : List EncryptedDataKey} → (id ≡ k.keyProviderId → ⊥) → TakenOut id ks js → TakenOut id (k ∷ ks) (k ∷ js)

-- no key has that provider ID
abbrev pub Absent : List ℕ → List EncryptedDataKey → Type 0
Absent id ks = Each (λ (k : EncryptedDataKey). id ≡ k.keyProviderId → ⊥) ks

-- THE DROP, of a draft that was read as b and ends at t, where a key remains
pub record Dropped (id buffer : List ℕ) (b : HeaderBody) (t tail : ℕ) (after : List ℕ) : Type 0 where
  pub draft : Draft after b.form (dropped id (fields_of b)) tail
  pub taken_out : TakenOut id (fields_of b).keys (dropped id (fields_of b)).keys
  pub no_such_key : Absent id (dropped id (fields_of b)).keys
  -- the freed bytes up to the old tail become 00, and what lies past it keeps
  pub not_longer : tail ≤ t
  pub freed : bytes_at after tail (t - tail) ≡ zeros (t - tail)
  pub kept : drop t after ≡ drop t buffer
  pub as_long : length after ≡ length buffer
  -- if no key has that ID nothing changes
  pub unchanged : Absent id (fields_of b).keys → (after ≡ buffer) × (tail ≡ t)

pub record Drops (id buffer : List ℕ) : Type 0 where
  pub reading_refused : (k p : ℕ) → operation read_draft buffer 0 ≡ refused k p → operation (drop_encrypted_data_keys id) buffer 0 ≡ refused k p
  pub none_remains : (b : HeaderBody) (t : ℕ) → operation read_draft buffer 0 ≡ accepted b t → without_provider id (fields_of b).keys ≡ []
      → operation (drop_encrypted_data_keys id) buffer 0 ≡ refused 40 0
  pub some_remain : (b : HeaderBody) (t : ℕ) → operation read_draft buffer 0 ≡ accepted b t → (without_provider id (fields_of b).keys ≡ [] → ⊥)
      → (operation (drop_encrypted_data_keys id) buffer 0 ≡ accepted (dropped_image id b) t)
      × Dropped id buffer b t (length (dropped_image id b)) (buffer_after (operation (drop_encrypted_data_keys id) buffer 0) buffer)
  -- a refusal changes no byte
  pub keeps : (k p : ℕ) → operation (drop_encrypted_data_keys id) buffer 0 ≡ refused k p → buffer_after (operation (drop_encrypted_data_keys id) buffer 0) buffer ≡ buffer

-- THE ADDITION, to a draft that was read as b and ends at t
pub record Added (k : EncryptedDataKey) (buffer : List ℕ) (b : HeaderBody) (t tail : ℕ) (after : List ℕ) : Type 0 where
  pub draft : Draft after b.form (added k (fields_of b)) tail
  pub longer : tail ≡ t + length (write_encrypted_data_key k)
  -- what lies past the new tail keeps
  pub kept : drop tail after ≡ drop tail buffer
  pub as_long : length after ≡ length buffer
  -- with an ID that was not there, dropping it gives the first draft back, up to the bytes past its tail: those up to the longer draft's are
  -- 00, and the others keep
  pub back : Absent k.keyProviderId (fields_of b).keys
      → (operation (drop_encrypted_data_keys k.keyProviderId) after 0 ≡ accepted (take t buffer) tail)
      × (buffer_after (operation (drop_encrypted_data_keys k.keyProviderId) after 0) after ≡ take t buffer ++ (zeros (tail - t) ++ drop tail buffer))

pub record Adds (k : EncryptedDataKey) (buffer : List ℕ) : Type 0 where
  pub reading_refused : (j p : ℕ) → operation read_draft buffer 0 ≡ refused j p → operation (add_encrypted_data_key k (length buffer)) buffer 0 ≡ refused j p
  -- 16, 27 and 28 in this sequence
  pub not_utf8 : (b : HeaderBody) (t : ℕ) → operation read_draft buffer 0 ≡ accepted b t → valid_utf8_seq k.keyProviderId ≡ false
      → operation (add_encrypted_data_key k (length buffer)) buffer 0 ≡ refused 16 0
  pub too_large : (b : HeaderBody) (t : ℕ) → operation read_draft buffer 0 ≡ accepted b t → valid_utf8_seq k.keyProviderId ≡ true → addable k (length b.keys) ≡ false
      → operation (add_encrypted_data_key k (length buffer)) buffer 0 ≡ refused 27 0
  pub too_short : (b : HeaderBody) (t : ℕ) → operation read_draft buffer 0 ≡ accepted b t → valid_utf8_seq k.keyProviderId ≡ true → addable k (length b.keys) ≡ true
      → length buffer < t + length (write_encrypted_data_key k) → operation (add_encrypted_data_key k (length buffer)) buffer 0 ≡ refused 28 0
  pub fits : (b : HeaderBody) (t : ℕ) → operation read_draft buffer 0 ≡ accepted b t → valid_utf8_seq k.keyProviderId ≡ true → addable k (length b.keys) ≡ true
      → t + length (write_encrypted_data_key k) ≤ length buffer
      → (operation (add_encrypted_data_key k (length buffer)) buffer 0 ≡ accepted (added_image k b) t)
      × Added k buffer b t (length (added_image k b)) (buffer_after (operation (add_encrypted_data_key k (length buffer)) buffer 0) buffer)
  pub keeps : (j p : ℕ) → operation (add_encrypted_data_key k (length buffer)) buffer 0 ≡ refused j p
      → buffer_after (operation (add_encrypted_data_key k (length buffer)) buffer 0) buffer ≡ buffer

pub record Mended : Type 0 where
  pub without_tables_or_maximum : WithoutTables
  pub drops : (id buffer : List ℕ) → Bytes buffer → Drops id buffer
  pub adds : (k : EncryptedDataKey) (buffer : List ℕ) → Bytes buffer → Adds k buffer
