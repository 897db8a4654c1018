-- A draft, mended in the buffer in which it stands: all keys with a provider ID taken out of it, or a key added behind the others.
-- Assumes nothing.
use Rattle.std.specs.Prelude.{Bool, not, cond, ◌&&◌, List, [], ◌∷◌, ◌++◌, ℕ, ◌-◌, ltb, eqb, length}
use Rattle.format.specs.Read.{Reader, ◌>>=◌, ◌>>◌, return, test, Answer, accepted, refused}
use Rattle.format.specs.Serialize.{every, same_bytes}
use Rattle.format.specs.Utf8.{valid_utf8_seq}
use Rattle.format.specs.Fields.{EncryptedDataKey, Fields, HeaderBody, fields_of, with_keys, key_parts}
use Rattle.format.specs.Context.{tolerant}
use Rattle.format.specs.Keys.{no_max}
use Rattle.format.specs.Policies.{no_policy}
use Rattle.format.specs.Body.{Which, either, tests_frames, Request, read_body, image}
use Rattle.format.specs.Auth.{zeros}
use Rattle.format.specs.Checks.{has_uint16_len}
use Rattle.format.specs.OnlyAuthenticated.{fitting}
use Rattle.format.specs.Lent.{filled}

-- a body read tolerantly, without tables or maximum, and without a policy
abbrev pub without_tables : Which → Request
without_tables which =
    record { which = which; policy = no_policy; mode = tolerant; max = no_max; pairRoom = no_max; keyRoom = no_max; frames = tests_frames which }

-- a draft: a body of either version
unfoldable pub read_draft : Reader HeaderBody
read_draft = read_body (without_tables either)

-- the keys that have another provider ID, in their order. The ID is compared whole: one that only begins another differs from it.
unfoldable pub without_provider : List ℕ → List EncryptedDataKey → List EncryptedDataKey
without_provider id [] = []
without_provider id (k ∷ ks) = cond (same_bytes id k.keyProviderId) (without_provider id ks) (k ∷ without_provider id ks)

abbrev pub dropped : List ℕ → Fields → Fields
dropped id f = with_keys (without_provider id f.keys) f

abbrev pub added : EncryptedDataKey → Fields → Fields
added k f = with_keys (f.keys ++ (k ∷ [])) f

-- the draft of those fields, in the form that it was read in
abbrev pub dropped_image : List ℕ → HeaderBody → List ℕ
dropped_image id b = image b.form (dropped id (fields_of b))

abbrev pub added_image : EncryptedDataKey → HeaderBody → List ℕ
added_image k b = image b.form (added k (fields_of b))

abbrev pub some_remain : List ℕ → HeaderBody → Bool
some_remain id b = not (eqb (length (without_provider id (fields_of b).keys)) 0)

-- Taking keys out gives the draft without them, and, as the tail, that of the draft that was read. 40: no key would remain.
unfoldable pub drop_encrypted_data_keys : List ℕ → Reader (List ℕ)
drop_encrypted_data_keys id = do
  b ← read_draft
  test 40 (some_remain id b)
  return (dropped_image id b)

-- 27, by how many keys there are: a part above 65,535 bytes, or 65,535 keys already
abbrev pub addable : EncryptedDataKey → ℕ → Bool
addable k n = every has_uint16_len (key_parts k) && ltb n 65535

-- Adding a key, in a buffer of that many bytes, gives the longer draft, and, as the tail, that of the draft that was read.
unfoldable pub add_encrypted_data_key : EncryptedDataKey → ℕ → Reader (List ℕ)
add_encrypted_data_key k room = do
  b ← read_draft
  test 16 (valid_utf8_seq k.keyProviderId)
  test 27 (addable k (length b.keys))
  fitting room (added_image k b)

-- The buffer afterwards: the draft that is given; 00 from its end up to the tail of the draft that was read, where that lies behind it;
-- and what lies past both as it was. On a refusal all is as it was.
abbrev pub mended : List ℕ → ℕ → List ℕ
mended draft t = draft ++ zeros (t - length draft)

abbrev pub buffer_after : Answer (List ℕ) → List ℕ → List ℕ
buffer_after (accepted draft t) buffer = filled (mended draft t) buffer
buffer_after (refused k p) buffer = buffer
