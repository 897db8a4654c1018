-- What writers refuse, of the values that they are handed: refusals in their order, and the first that applies. Assumes nothing.
use Rattle.std.specs.Prelude.{◌≡◌, Bool, true, false, not, List, [], ◌∷◌, ◌++◌, map, ℕ, ◌<◌, leb, ltb, eqb, length}
use Rattle.std.proofs.Math.Option.{Option, none, some}
use Rattle.format.specs.Serialize.{images, every}
use Rattle.format.specs.Utf8.{valid_utf8_seq}
use Rattle.format.specs.Shared.{by, one_or_two, known, of_version, id_length, iv_length, tag_length, commit_key_length, frame_fits}
use Rattle.format.specs.Fields.{Form, today, old, Pair, EncryptedDataKey, Fields, pair_parts, key_parts}
use Rattle.format.specs.Context.{seen, linear_length, pairs_limit}
use Rattle.format.specs.Frames.{Frame}
use Rattle.format.specs.Policies.{Policy, no_policy, lets_write}

-- a refusal's number, and the test that it answers for
pub record Check : Type 0 where
  pub number : ℕ
  pub passes : Bool

abbrev pub check : ℕ → Bool → Check
check k b = record { number = k; passes = b }

-- the first refusal that applies
unfoldable pub first : List Check → Option ℕ
first [] = none
first (c ∷ cs) = elim c.passes [ true ↦ first cs | false ↦ some c.number ]

-- the checks of each item, which may look at the items before it
unfoldable pub each : {A : Type 0} → (List A → A → List Check) → List A → List A → List Check
each f done [] = []
each f done (x ∷ xs) = f done x ++ each f (done ++ (x ∷ [])) xs

-- HasUint16Len
abbrev pub has_uint16_len : List ℕ → Bool
has_uint16_len part = leb (length part) 65535

-- 27: more than 65,535 items, or a part above 65,535 bytes
abbrev pub count_checks : ℕ → List (List ℕ) → List Check
count_checks n parts = check 27 (leb n 65535) ∷ check 27 (every has_uint16_len parts) ∷ []

abbrev pub pair_checks : List Pair → Pair → List Check
pair_checks done p = check 10 (valid_utf8_seq p.key) ∷ check 11 (valid_utf8_seq p.value) ∷ check 12 (not (seen p.key done)) ∷ []

abbrev pub key_checks : List EncryptedDataKey → EncryptedDataKey → List Check
key_checks done k = check 16 (valid_utf8_seq k.keyProviderId) ∷ []

-- write a context section, without 26 and 28
unfoldable pub pairs_checks : List Pair → List Check
pairs_checks ps = count_checks (length ps) (images pair_parts ps) ++ (each pair_checks [] ps ++ (check 13 (ltb (linear_length ps) pairs_limit) ∷ []))

-- write a key section, without 26 and 28
unfoldable pub keys_checks : List EncryptedDataKey → List Check
keys_checks ks = count_checks (length ks) (images key_parts ks) ++ (check 38 (not (eqb (length ks) 0)) ∷ each key_checks [] ks)

-- 33: a record marked old has a pair
abbrev pub fits_form : Form → ℕ → Bool
fits_form today pairs = true
fits_form old pairs = eqb pairs 0

-- write a body: what stands between the pairs' and the keys', by how many pairs there are
abbrev pub form_checks : Form → ℕ → List Check
form_checks form pairs = check 33 (fits_form form pairs) ∷ []

-- write a body: what stands before the ID's length, up to 7
abbrev pub lead_checks : ℕ → ℕ → ℕ → List Check
lead_checks version messageType suite =
    check 3 (one_or_two version)
    ∷ check 5 (eqb messageType (by version 0x80 0))
    ∷ check 6 (known suite)
    ∷ check 7 (of_version version suite)
    ∷ []

-- and before the pairs', by the ID's length
abbrev pub opening_checks : Policy → ℕ → ℕ → ℕ → ℕ → List Check
opening_checks policy version messageType suite id =
    lead_checks version messageType suite
    ++ (check 39 (lets_write policy version)
    ∷ check 24 (eqb id (id_length version))
    ∷ [])

-- and behind the keys', by the suite data's length
abbrev pub closing_checks : ℕ → ℕ → ℕ → ℕ → ℕ → List Check
closing_checks version content iv suiteData frame =
    check 17 (one_or_two content)
    ∷ check 19 (eqb iv (by version iv_length 0))
    ∷ check 25 (eqb suiteData (by version 0 commit_key_length))
    ∷ check 20 (frame_fits content frame)
    ∷ []

-- the refusals of a body write, by those of its pairs and of its keys
abbrev pub body_checks_of : Policy → List Check → List Check → Form → Fields → List Check
body_checks_of policy of_pairs of_keys form f =
    opening_checks policy f.version f.messageType f.suite (length f.messageId)
    ++ (of_pairs
    ++ (form_checks form (length f.pairs)
    ++ (of_keys
    ++ closing_checks f.version f.contentType f.headerIvLength (length f.suiteData) f.frameLength)))

-- with checks in front of the pairs' and of the keys', which are the places of 26
unfoldable pub body_checks_under : Policy → List Check → List Check → Form → Fields → List Check
body_checks_under policy pairs_first keys_first form f = body_checks_of policy (pairs_first ++ pairs_checks f.pairs) (keys_first ++ keys_checks f.keys) form f

-- without a policy
abbrev pub body_checks : List Check → List Check → Form → Fields → List Check
body_checks = body_checks_under no_policy

-- 19 and 30, by the lengths of an IV and a tag
abbrev pub sealed_checks : ℕ → ℕ → List Check
sealed_checks iv tag = check 19 (eqb iv iv_length) ∷ check 30 (eqb tag tag_length) ∷ []

-- write an authentication record, by the lengths of its IV and tag, without 28
unfoldable pub auth_checks : ℕ → ℕ → ℕ → List Check
auth_checks suite iv tag = check 6 (known suite) ∷ sealed_checks iv tag

abbrev pub frame_checks : List Frame → Frame → List Check
frame_checks done f = sealed_checks (length f.iv) (length f.tag)

-- by the lengths of contents: 37 of each but the last, and then 35 of the last
unfoldable pub content_checks : ℕ → List ℕ → List Check
content_checks frame [] = []
content_checks frame (n ∷ []) = check 35 (leb n frame) ∷ []
content_checks frame (n ∷ k ∷ ns) = check 37 (eqb n frame) ∷ content_checks frame (k ∷ ns)

abbrev pub content_length : Frame → ℕ
content_length f = length f.content

-- write frames of a frame length, without 28, with checks at the place of 26
unfoldable pub frames_checks : ℕ → List Check → List Frame → List Check
frames_checks frame table_first fs =
    check 20 (not (eqb frame 0))
    ∷ (table_first
    ++ (check 36 (not (eqb (length fs) 0))
    ∷ check 27 (leb (length fs) 65535)
    ∷ (each frame_checks [] fs ++ content_checks frame (map content_length fs))))

-- our writer, given the mark, accepts the fields: no refusal of a body write applies to them, 26 and 28 left aside.
-- A frame length has 32 bits, so no refusal speaks of a longer one.
pub record Accepts (form : Form) (f : Fields) : Type 0 where
  pub none_applies : first (body_checks [] [] form f) ≡ none
  pub frame_is_32_bits : f.frameLength < 4294967296
