-- Drafts that were mended, worked out by hand: the answer, and every byte of the buffer afterwards. Assumes nothing.
use Rattle.std.specs.Prelude.{◌≡◌, refl, Bool, true, ◌&&◌, List, [], ◌∷◌, ◌++◌, ℕ, length, take, drop}
use Rattle.format.specs.Read.{Answer, operation}
use Rattle.format.specs.Serialize.{every, same_bytes}
use Rattle.format.specs.Fields.{EncryptedDataKey, fields_of}
use Rattle.format.specs.Auth.{zeros}
use Rattle.format.specs.OnlyAuthenticated.{fitting}
use Rattle.format.specs.Mending.{read_draft, without_provider, drop_encrypted_data_keys, add_encrypted_data_key, buffer_after}
use Rattle.cases.specs.Cases.{Expected, accepts, refuses, shortage_at, is, H, opened, laid_out}
use Rattle.cases.specs.Headers.{bytes_from, V2}

pub data Mending : Type 0 where
  -- a provider ID, a buffer, the old tail and the new one or a refusal, and the buffer afterwards
  drops : List ℕ → List ℕ → Expected → List ℕ → Mending
  adds : EncryptedDataKey → List ℕ → Expected → List ℕ → Mending

abbrev so : Answer (List ℕ) → List ℕ → Expected → List ℕ → Bool
so o before want after = is (λ draft. length draft ∷ []) o want && same_bytes (buffer_after o before) after

unfoldable pub mends : Mending → Bool
mends (drops id before want after) = so (operation (drop_encrypted_data_keys id) before 0) before want after
mends (adds k before want after) = so (operation (add_encrypted_data_key k (length before)) before 0) before want after

-- H's fields with other keys: what stands in front of them, those of p1, q and p1 again, what stands behind them, and a record behind that
abbrev front : List ℕ
front = take 34 H

abbrev back : List ℕ
back = drop 48 H

abbrev p1 : List ℕ
p1 = 0x00 ∷ 0x02 ∷ 0x70 ∷ 0x31 ∷ 0x00 ∷ 0x01 ∷ 0x61 ∷ 0x00 ∷ 0x03 ∷ 0xAA ∷ 0xBB ∷ 0xCC ∷ []

abbrev q : List ℕ
q = 0x00 ∷ 0x01 ∷ 0x71 ∷ 0x00 ∷ 0x00 ∷ 0x00 ∷ 0x01 ∷ 0x07 ∷ []

abbrev p1_again : List ℕ
p1_again = 0x00 ∷ 0x02 ∷ 0x70 ∷ 0x31 ∷ 0x00 ∷ 0x00 ∷ 0x00 ∷ 0x00 ∷ []

abbrev behind : List ℕ
behind = 0xEE ∷ 0xDD ∷ []

abbrev three_keys : List ℕ
three_keys = front ++ (0x00 ∷ 0x03 ∷ p1 ++ (q ++ (p1_again ++ (back ++ behind))))

abbrev key_q : EncryptedDataKey
key_q = record { keyProviderId = 0x71 ∷ []; keyProviderInfo = []; ciphertext = 0x07 ∷ [] }

abbrev key_ff : EncryptedDataKey
key_ff = record { keyProviderId = 0xFF ∷ []; keyProviderInfo = []; ciphertext = [] }

-- version 2, an empty context in its old form, a key without bytes; and what that is with q behind it
abbrev v2_front : List ℕ
v2_front = take 35 V2

abbrev old_draft : List ℕ
old_draft = v2_front ++ (0x00 ∷ 0x02 ∷ 0x00 ∷ 0x00 ∷ 0x00 ∷ 0x01 ∷ 0x00 ∷ 0x00 ∷ 0x00 ∷ 0x00 ∷ 0x00 ∷ 0x00 ∷ 0x02 ∷ 0x00 ∷ 0x00 ∷ 0x10 ∷ 0x00 ∷ bytes_from 0)

abbrev old_longer : List ℕ
old_longer = v2_front ++ (0x00 ∷ 0x02 ∷ 0x00 ∷ 0x00 ∷ 0x00 ∷ 0x02 ∷ 0x00 ∷ 0x00 ∷ 0x00 ∷ 0x00 ∷ 0x00 ∷ 0x00 ∷ q ++ (0x02 ∷ 0x00 ∷ 0x00 ∷ 0x10 ∷ 0x00 ∷ bytes_from 0))

unfoldable pub mendings : List Mending
mendings =
    -- the first and the last go, and the one between them closes up; 20 bytes are freed, and the two behind the old tail keep
    drops (0x70 ∷ 0x31 ∷ []) three_keys (accepts 74 (54 ∷ [])) (front ++ (0x00 ∷ 0x01 ∷ q ++ (back ++ (zeros 20 ++ behind))))
    -- the one between them goes
    ∷ drops (0x71 ∷ []) three_keys (accepts 74 (66 ∷ [])) (front ++ (0x00 ∷ 0x02 ∷ p1 ++ (p1_again ++ (back ++ (zeros 8 ++ behind)))))
    -- no key has a beginning of p1 for its ID, nor p1 with a byte behind it, nor the empty ID: nothing changes
    ∷ drops (0x70 ∷ []) three_keys (accepts 74 (74 ∷ [])) three_keys
    ∷ drops (0x70 ∷ 0x31 ∷ 0x00 ∷ []) three_keys (accepts 74 (74 ∷ [])) three_keys
    ∷ drops [] three_keys (accepts 74 (74 ∷ [])) three_keys
    -- H has p1 alone: 40, but not before the reading's refusals, of which 20 is the last
    ∷ drops (0x70 ∷ 0x31 ∷ []) H (refuses 40 0) H
    ∷ drops (0x70 ∷ 0x31 ∷ []) (take 48 H ++ (0x01 ∷ drop 49 H)) (refuses 20 0) (take 48 H ++ (0x01 ∷ drop 49 H))
    ∷ drops (0x70 ∷ 0x31 ∷ []) (take 57 H) (shortage_at 58) (take 57 H)
    -- q behind p1, over what follows; in a buffer that it fills, and in one that lacks a byte
    ∷ adds key_q (H ++ (0x01 ∷ 0x02 ∷ 0x03 ∷ 0x04 ∷ 0x05 ∷ 0x06 ∷ 0x07 ∷ 0x08 ∷ 0x09 ∷ [])) (accepts 58 (66 ∷ [])) (front ++ (0x00 ∷ 0x02 ∷ p1 ++ (q ++ (back ++ (0x09 ∷ [])))))
    ∷ adds key_q (H ++ zeros 8) (accepts 58 (66 ∷ [])) (front ++ (0x00 ∷ 0x02 ∷ p1 ++ (q ++ back)))
    ∷ adds key_q (H ++ zeros 7) (refuses 28 0) (H ++ zeros 7)
    -- 16 before 28, and behind the reading's refusals
    ∷ adds key_ff H (refuses 16 0) H
    ∷ adds key_ff (take 57 H) (shortage_at 58) (take 57 H)
    -- the old form of an empty context stays as it is
    ∷ adds key_q (old_draft ++ zeros 8) (accepts 84 (92 ∷ [])) old_longer
    ∷ drops (0x71 ∷ []) old_longer (accepts 92 (84 ∷ [])) (old_draft ++ zeros 8)
    ∷ drops [] old_longer (accepts 92 (86 ∷ [])) (v2_front ++ (0x00 ∷ 0x02 ∷ 0x00 ∷ 0x00 ∷ 0x00 ∷ 0x01 ∷ q ++ (0x02 ∷ 0x00 ∷ 0x00 ∷ 0x10 ∷ 0x00 ∷ bytes_from 0 ++ zeros 6)))
    ∷ []

-- to unfold this is to unfold how a draft is mended
unfoldable pub mending : Unit {0}
unfolding read_draft without_provider drop_encrypted_data_keys fitting add_encrypted_data_key fields_of zeros
mending = tt

pub mendings_hold : every mends mendings ≡ true
unfolding opened laid_out mending is mends H V2 bytes_from mendings
mendings_hold = refl
