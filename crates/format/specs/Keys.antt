-- EncryptedDataKeys.dfy: the key section, read and written. Assumes nothing.
use Rattle.std.specs.Prelude.{Bool, true, not, List, [], ◌++◌, ℕ, ◌*◌, leb, eqb, length}
use Rattle.format.specs.Read.{Reader, ◌>>=◌, ◌>>◌, return, test, no_end, repeat}
use Rattle.format.specs.Serialize.{read_uint16, write_uint16, read_short_length_seq, write_short_length_seq, images}
use Rattle.format.specs.Fields.{EncryptedDataKey, EncryptedDataKeyAt}
use Rattle.format.specs.Context.{read_text}

-- a maximum of a request, of keys or of the numbers that a table holds: none, or a number
pub data Max : Type 0 where
  no_max : Max
  at_most : ℕ → Max

-- it is not passed by n
abbrev pub within : ℕ → Max → Bool
within n no_max = true
within n (at_most max) = leb n max

-- WriteEncryptedDataKey, WriteEncryptedDataKeys, WriteEncryptedDataKeysSection
unfoldable pub write_encrypted_data_key : EncryptedDataKey → List ℕ
write_encrypted_data_key k =
    write_short_length_seq k.keyProviderId ++ (write_short_length_seq k.keyProviderInfo ++ write_short_length_seq k.ciphertext)

unfoldable pub write_encrypted_data_keys : List EncryptedDataKey → List ℕ
write_encrypted_data_keys ks = images write_encrypted_data_key ks

unfoldable pub write_encrypted_data_keys_section : List EncryptedDataKey → List ℕ
write_encrypted_data_keys_section ks = write_uint16 (length ks) ++ write_encrypted_data_keys ks

-- ReadEncryptedDataKey: a key section stores no length, so its entries are held to no end
unfoldable pub read_encrypted_data_key : Reader EncryptedDataKeyAt
read_encrypted_data_key = do
  provider ← read_text no_end 16
  info ← read_short_length_seq no_end
  cipher ← read_short_length_seq no_end
  return (record { keyProviderId = provider; keyProviderInfo = info; ciphertext = cipher })

-- what follows the count: the maximum is tested before any key is read
unfoldable pub read_encrypted_data_keys_of : Max → ℕ → Reader (List EncryptedDataKeyAt)
read_encrypted_data_keys_of max count = do
  test 15 (within count max)
  repeat count (λ acc. read_encrypted_data_key) []

-- ReadEncryptedDataKeysSection. 38: there is no key
unfoldable pub read_encrypted_data_keys_section : Max → Reader (List EncryptedDataKeyAt)
read_encrypted_data_keys_section max = do
  count ← read_uint16
  test 38 (not (eqb count 0))
  read_encrypted_data_keys_of max count

-- the same as an operation of its own, with a table of that many numbers
unfoldable pub read_encrypted_data_keys_section_into : Max → ℕ → Reader (List EncryptedDataKeyAt)
read_encrypted_data_keys_section_into max room = do
  ks ← read_encrypted_data_keys_section max
  test 23 (leb (6 * length ks) room)
  return ks
