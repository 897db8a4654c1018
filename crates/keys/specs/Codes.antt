-- Keys, as items one behind the other. Assumes nothing.
use Rattle.std.specs.Prelude.{List}
use Rattle.format.specs.Read.{Reader}
use Rattle.format.specs.Fields.{EncryptedDataKeyAt}
use Rattle.format.specs.Keys.{read_encrypted_data_key}

-- a key is read alike behind any others: equal keys are allowed
abbrev pub any_key : List EncryptedDataKeyAt → Reader EncryptedDataKeyAt
any_key acc = read_encrypted_data_key
