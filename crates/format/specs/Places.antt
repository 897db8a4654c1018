-- What stands at a place of a message, and where it ends, in terms of the message alone. It is what a reader gives where it accepts;
-- a byte behind the message's end counts as 00. Assumes nothing.
use Rattle.std.specs.Prelude.{Bool, true, false, cond, List, [], ◌∷◌, ℕ, zero, suc, ◌+◌, ◌*◌, ◌-◌, eqb, length, get_or, take, drop}
use Rattle.format.specs.Read.{Item, followed, last}
use Rattle.format.specs.Serialize.{Part, number, same_bytes}
use Rattle.format.specs.Shared.{by, suite_version}
use Rattle.format.specs.Fields.{Form, today, old, PairAt, EncryptedDataKeyAt, HeaderBody}
use Rattle.format.specs.Body.{Opening, Closing, whole}
use Rattle.format.specs.Auth.{HeaderAuth, zeros}
use Rattle.format.specs.Frames.{FrameAt, final_mark}

-- the number of that many bytes
abbrev pub number_here : ℕ → List ℕ → ℕ → ℕ
number_here width m s = number (take width (drop s m))

-- the same of 1, 2 and 4 bytes, byte by byte
abbrev pub number8 : List ℕ → ℕ → ℕ
number8 m s = get_or m s 0

abbrev pub number16 : List ℕ → ℕ → ℕ
number16 m s = get_or m s 0 * 256 + get_or m (s + 1) 0

abbrev pub number32 : List ℕ → ℕ → ℕ
number32 m s = number16 m s * 65536 + number16 m (s + 2)

-- n bytes
abbrev pub part_of : List ℕ → ℕ → ℕ → Part
part_of m s n = record { start = s; bytes = take n (drop s m) }

-- an entry, and the place behind it
abbrev pub entry_here : List ℕ → ℕ → Part
entry_here m s = part_of m (s + 2) (number16 m s)

abbrev pub entry_end : List ℕ → ℕ → ℕ
entry_end m s = s + 2 + number16 m s

-- n items, one behind the other: `here` is what stands at a place, and `end` the place behind it
unfoldable pub items_here : {A : Type 0} → (List ℕ → ℕ → A) → (List ℕ → ℕ → ℕ) → List ℕ → ℕ → ℕ → List A
items_here here end m zero s = []
items_here here end m (suc n) s = here m s ∷ items_here here end m n (end m s)

-- the place behind the last of them
unfoldable pub items_end : (List ℕ → ℕ → ℕ) → List ℕ → ℕ → ℕ → ℕ
items_end end m zero s = s
items_end end m (suc n) s = items_end end m n (end m s)

abbrev pub entries_here : List ℕ → ℕ → ℕ → List Part
entries_here = items_here entry_here entry_end

abbrev pub entries_end : List ℕ → ℕ → ℕ → ℕ
entries_end = items_end entry_end

-- a pair is two entries
abbrev pub pair_here : List ℕ → ℕ → PairAt
pair_here m s = record { key = entry_here m s; value = entry_here m (entry_end m s) }

abbrev pub pair_end : List ℕ → ℕ → ℕ
pair_end m s = entry_end m (entry_end m s)

abbrev pub pairs_here : List ℕ → ℕ → ℕ → List PairAt
pairs_here = items_here pair_here pair_end

abbrev pub pairs_end : List ℕ → ℕ → ℕ → ℕ
pairs_end = items_end pair_end

-- a key is three
abbrev pub key_here : List ℕ → ℕ → EncryptedDataKeyAt
key_here m s =
    record { keyProviderId = entry_here m s; keyProviderInfo = entry_here m (entry_end m s); ciphertext = entry_here m (entry_end m (entry_end m s)) }

abbrev pub key_end : List ℕ → ℕ → ℕ
key_end m s = entry_end m (entry_end m (entry_end m s))

abbrev pub keys_here : List ℕ → ℕ → ℕ → List EncryptedDataKeyAt
keys_here = items_here key_here key_end

abbrev pub keys_end : List ℕ → ℕ → ℕ → ℕ
keys_end = items_end key_end

-- the pairs of a context section: none where its length is 0, else those behind the count. The section ends where its length says.
abbrev pub section_pairs : List ℕ → ℕ → List PairAt
section_pairs m s = cond (eqb (number16 m s) 0) [] (pairs_here m (number16 m (s + 2)) (s + 2 + 2))

-- the form of a context section: a length of 2, which only a count of 0 can follow, is that of an empty one in its old form
abbrev pub section_form : List ℕ → ℕ → Form
section_form m s = cond (eqb (number16 m s) 2) old today

-- the keys of a key section, and the place behind it
abbrev pub section_keys : List ℕ → ℕ → List EncryptedDataKeyAt
section_keys m s = keys_here m (number16 m s) (s + 2)

abbrev pub section_keys_end : List ℕ → ℕ → ℕ
section_keys_end m s = keys_end m (number16 m s) (s + 2)

-- what stands before a body's context section, behind the version byte; true: version 1
unfoldable pub opening_here : Bool → List ℕ → ℕ → Opening
opening_here true m s = record { version = 1; messageType = number8 m s; suite = number16 m (s + 1); messageId = part_of m (s + 1 + 2) 16 }
opening_here false m s = record { version = 2; messageType = 0; suite = number16 m s; messageId = part_of m (s + 2) 32 }

-- what stands behind its key section, and the place behind it; true: version 1
unfoldable pub closing_here : Bool → List ℕ → ℕ → Closing
closing_here true m s =
    record { contentType = number8 m s; headerIvLength = number8 m (s + 1 + 4); frameLength = number32 m (s + 1 + 4 + 1); suiteData = record { start = 0; bytes = [] } }
closing_here false m s = record { contentType = number8 m s; headerIvLength = 0; frameLength = number32 m (s + 1); suiteData = part_of m (s + 1 + 4) 32 }

unfoldable pub closing_end : Bool → ℕ → ℕ
closing_end true s = s + 1 + 4 + 1 + 4
closing_end false s = s + 1 + 4 + 32

-- a body: the context section stands 20 or 35 bytes behind its start, and each part where the one before it ends
abbrev pub body_here : List ℕ → ℕ → HeaderBody
body_here m s =
    let v1 = eqb (number8 m s) 1 in
    let aad = s + by (number8 m s) 20 35 in
    let edks = entry_end m aad in
    whole (opening_here v1 m (s + 1)) (record { form = section_form m aad; pairs = section_pairs m aad }) (section_keys m edks) (closing_here v1 m (section_keys_end m edks))

abbrev pub body_end : List ℕ → ℕ → ℕ
body_end m s = closing_end (eqb (number8 m s) 1) (section_keys_end m (entry_end m (s + by (number8 m s) 20 35)))

-- the value of the first pair with the key
unfoldable pub value_of : List ℕ → List PairAt → Part
value_of k [] = record { start = 0; bytes = [] }
value_of k (p ∷ ps) = cond (same_bytes k p.key.bytes) p.value (value_of k ps)

abbrev pub value_here : List ℕ → List ℕ → ℕ → Part
value_here k m s = value_of k (section_pairs m s)

-- an authentication record, and the place behind it; true: version 1
unfoldable pub auth_of_here : Bool → List ℕ → ℕ → HeaderAuth
auth_of_here true m s = record { headerIv = (part_of m s 12).bytes; headerAuthTag = (part_of m (s + 12) 16).bytes }
auth_of_here false m s = record { headerIv = zeros 12; headerAuthTag = (part_of m s 16).bytes }

abbrev pub auth_here : ℕ → List ℕ → ℕ → HeaderAuth
auth_here suite = auth_of_here (eqb (suite_version suite) 1)

abbrev pub auth_end : ℕ → List ℕ → ℕ → ℕ
auth_end suite m s = cond (eqb (suite_version suite) 1) (s + 12 + 16) (s + 16)

-- items of a run from s on, n at most: `here` is what stands at a place, and `end` the place behind it
abbrev pub with_item : {A : Type 0} → Item A → List A → List A
with_item (followed a) rest = a ∷ rest
with_item (last a) rest = a ∷ []

unfoldable pub run_here : {A : Type 0} → (List ℕ → ℕ → Item A) → (List ℕ → ℕ → ℕ) → List ℕ → ℕ → ℕ → List A
run_here here end m zero s = []
run_here here end m (suc n) s = with_item (here m s) (run_here here end m n (end m s))

-- the place behind the last of them
abbrev pub behind_item : {A : Type 0} → Item A → ℕ → ℕ → ℕ
behind_item (followed a) t rest = rest
behind_item (last a) t rest = t

unfoldable pub run_end : {A : Type 0} → (List ℕ → ℕ → Item A) → (List ℕ → ℕ → ℕ) → List ℕ → ℕ → ℕ → ℕ
run_end here end m zero s = s
run_end here end m (suc n) s = behind_item (here m s) (end m s) (run_end here end m n (end m s))

-- a bound that no run of a message reaches, from s on
abbrev pub run_bound : List ℕ → ℕ → ℕ
run_bound m s = suc (length m - s)

-- whether a final frame stands at s
abbrev pub final_here : List ℕ → ℕ → Bool
final_here m s = eqb (number32 m s) final_mark

-- an IV at one place, and n bytes of content with the tag behind them at another
abbrev pub sealed_here : List ℕ → ℕ → ℕ → ℕ → FrameAt
sealed_here m iv s n = record { iv = part_of m iv 12; content = part_of m s n; tag = part_of m (s + n) 16 }

-- a frame of a frame length, behind its first number, and the place behind it; true: the final one, which has its own number and its
-- content's length
unfoldable pub frame_of_here : ℕ → Bool → List ℕ → ℕ → Item FrameAt
frame_of_here frame true m s = last (sealed_here m (s + 4) (s + 4 + 12 + 4) (number32 m (s + 4 + 12)))
frame_of_here frame false m s = followed (sealed_here m s (s + 12) frame)

unfoldable pub frame_of_end : ℕ → Bool → List ℕ → ℕ → ℕ
frame_of_end frame true m s = s + 4 + 12 + 4 + number32 m (s + 4 + 12) + 16
frame_of_end frame false m s = s + 12 + frame + 16

abbrev pub frame_here : ℕ → List ℕ → ℕ → Item FrameAt
frame_here frame m s = frame_of_here frame (final_here m s) m (s + 4)

abbrev pub frame_end : ℕ → List ℕ → ℕ → ℕ
frame_end frame m s = frame_of_end frame (final_here m s) m (s + 4)

-- frames up to the final one, and the place behind it
abbrev pub frames_here : ℕ → List ℕ → ℕ → List FrameAt
frames_here frame m s = run_here (frame_here frame) (frame_end frame) m (run_bound m s) s

abbrev pub frames_end : ℕ → List ℕ → ℕ → ℕ
frames_end frame m s = run_end (frame_here frame) (frame_end frame) m (run_bound m s) s
