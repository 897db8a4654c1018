-- The fields of a header body: by value, as writers have them, and by place, as readers give them. Assumes nothing.
use Rattle.std.specs.Prelude.{List, [], ◌∷◌, map, ℕ}
use Rattle.format.specs.Serialize.{Part}

pub record Pair : Type 0 where
  pub key : List ℕ
  pub value : List ℕ

-- the form in which a context is written, which only an empty one shows: today 00 00, by the old writer 00 02 00 00
pub data Form : Type 0 where
  today old : Form

-- as a number, which a host's record has
abbrev pub form_number : Form → ℕ
form_number today = 0
form_number old = 1

pub record EncryptedDataKey : Type 0 where
  pub keyProviderId : List ℕ
  pub keyProviderInfo : List ℕ
  pub ciphertext : List ℕ

-- the fields; two are equal when their bytes and numbers are, whatever their places. The form is none of them.
pub record Fields : Type 0 where
  pub version : ℕ
  pub messageType : ℕ
  pub suite : ℕ
  pub messageId : List ℕ
  pub pairs : List Pair
  pub keys : List EncryptedDataKey
  pub contentType : ℕ
  pub headerIvLength : ℕ
  pub frameLength : ℕ
  pub suiteData : List ℕ

pub record PairAt : Type 0 where
  pub key : Part
  pub value : Part

pub record EncryptedDataKeyAt : Type 0 where
  pub keyProviderId : Part
  pub keyProviderInfo : Part
  pub ciphertext : Part

-- the record that a body reader gives: the fields by their places, and, as a mark beside them, the form that the body was read in
pub record HeaderBody : Type 0 where
  pub version : ℕ
  pub messageType : ℕ
  pub suite : ℕ
  pub messageId : Part
  pub form : Form
  pub pairs : List PairAt
  pub keys : List EncryptedDataKeyAt
  pub contentType : ℕ
  pub headerIvLength : ℕ
  pub frameLength : ℕ
  pub suiteData : Part

-- the fields without their places, and apart from the mark
abbrev pub pair_of : PairAt → Pair
pair_of p = record { key = p.key.bytes; value = p.value.bytes }

abbrev pub key_of : EncryptedDataKeyAt → EncryptedDataKey
key_of k = record { keyProviderId = k.keyProviderId.bytes; keyProviderInfo = k.keyProviderInfo.bytes; ciphertext = k.ciphertext.bytes }

unfoldable pub fields_of : HeaderBody → Fields
fields_of b =
    record {
      version = b.version;
      messageType = b.messageType;
      suite = b.suite;
      messageId = b.messageId.bytes;
      pairs = map pair_of b.pairs;
      keys = map key_of b.keys;
      contentType = b.contentType;
      headerIvLength = b.headerIvLength;
      frameLength = b.frameLength;
      suiteData = b.suiteData.bytes;
    }

-- the same fields with other pairs and other keys
abbrev pub with_lists : List Pair → List EncryptedDataKey → Fields → Fields
with_lists ps ks f =
    record {
      version = f.version;
      messageType = f.messageType;
      suite = f.suite;
      messageId = f.messageId;
      pairs = ps;
      keys = ks;
      contentType = f.contentType;
      headerIvLength = f.headerIvLength;
      frameLength = f.frameLength;
      suiteData = f.suiteData;
    }

abbrev pub with_pairs : List Pair → Fields → Fields
with_pairs ps f = with_lists ps f.keys f

abbrev pub with_keys : List EncryptedDataKey → Fields → Fields
with_keys ks f = with_lists f.pairs ks f

-- an item's parts, in order: the two of a pair, the three of a key
abbrev pub pair_parts : Pair → List (List ℕ)
pair_parts p = p.key ∷ p.value ∷ []

abbrev pub key_parts : EncryptedDataKey → List (List ℕ)
key_parts k = k.keyProviderId ∷ k.keyProviderInfo ∷ k.ciphertext ∷ []

abbrev pub pair_places : PairAt → List Part
pair_places p = p.key ∷ p.value ∷ []

abbrev pub key_places : EncryptedDataKeyAt → List Part
key_places k = k.keyProviderId ∷ k.keyProviderInfo ∷ k.ciphertext ∷ []
