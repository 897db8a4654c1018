-- The refusals that each reading operation can answer: 1; 2 and 32, which each part in turn may answer, 32 in a context section only;
-- then the others in the order in which they are tested. 13 is in none of the lists. Assumes nothing.
use Rattle.std.specs.Prelude.{◌≡◌, Bool, true, false, ℕ, ◌+◌, ◌-◌, ◌<◌, length}
use Rattle.std.proofs.Math.Option.{Option, none, some}
use mathlib.Core.List.{List, [], ◌∷◌, ◌++◌, Memᴰ}
use Rattle.format.specs.Read.{Reader, operation, refused}
use Rattle.format.specs.Serialize.{Bytes}
use Rattle.format.specs.Fields.{EncryptedDataKey}
use Rattle.format.specs.Context.{Mode, tolerant, strict, read_aad_section_into, find_value}
use Rattle.format.specs.Keys.{Max, no_max, at_most, read_encrypted_data_keys_section_into}
use Rattle.format.specs.Policies.{Policy, lets_read}
use Rattle.format.specs.Body.{Which, either, v1_only, v2_only, tests_frames, Request, read_body}
use Rattle.format.specs.Auth.{read_header_auth_tag}
use Rattle.format.specs.Frames.{read_frames_into}
use Rattle.format.specs.OnlyAuthenticated.{write_only_authenticated}
use Rattle.format.specs.Mending.{drop_encrypted_data_keys, add_encrypted_data_key}
use Rattle.format.specs.Reissuing.{Reissue, reissued_header_body, reissue_header_body}

-- only the strict mode answers 21
unfoldable pub section_refusals : Mode → List ℕ
section_refusals tolerant = 32 ∷ 8 ∷ 9 ∷ 10 ∷ 11 ∷ 12 ∷ 14 ∷ []
section_refusals strict = 32 ∷ 8 ∷ 21 ∷ 9 ∷ 10 ∷ 11 ∷ 12 ∷ 14 ∷ []

unfoldable pub context_refusals : Mode → List ℕ
context_refusals mode = 1 ∷ 2 ∷ (section_refusals mode ++ (22 ∷ []))

unfoldable pub find_refusals : List ℕ
find_refusals = 1 ∷ 2 ∷ (section_refusals tolerant ++ (29 ∷ []))

unfoldable pub only_authenticated_refusals : List ℕ
only_authenticated_refusals = 1 ∷ 2 ∷ (section_refusals tolerant ++ (31 ∷ 28 ∷ []))

-- of a key section
unfoldable pub key_section_refusals : List ℕ
key_section_refusals = 38 ∷ 15 ∷ 16 ∷ []

unfoldable pub keys_refusals : List ℕ
keys_refusals = 1 ∷ 2 ∷ (key_section_refusals ++ (23 ∷ []))

-- only a reader of one version answers 4, and one of version 2 alone never 5
unfoldable pub lead_refusals : Which → List ℕ
lead_refusals either = 3 ∷ 5 ∷ 6 ∷ 7 ∷ []
lead_refusals v1_only = 3 ∷ 4 ∷ 5 ∷ 6 ∷ 7 ∷ []
lead_refusals v2_only = 3 ∷ 4 ∷ 6 ∷ 7 ∷ []

-- 39 where version 1 is asked for and forbidden; version 2 is forbidden by no policy. True: version 1 is let be read
unfoldable pub forbidden_refusals : Bool → Which → List ℕ
forbidden_refusals true which = []
forbidden_refusals false either = 39 ∷ []
forbidden_refusals false v1_only = 39 ∷ []
forbidden_refusals false v2_only = []

unfoldable pub opening_refusals : Which → Policy → List ℕ
opening_refusals which policy = lead_refusals which ++ forbidden_refusals (lets_read policy 1) which

-- the versions that come past an opening, if any does
unfoldable pub passing : Bool → Which → Option Which
passing true which = some which
passing false either = some v2_only
passing false v1_only = none
passing false v2_only = some v2_only

-- nor 18 and 19
unfoldable pub reserved_refusals : Which → List ℕ
reserved_refusals either = 18 ∷ 19 ∷ []
reserved_refusals v1_only = 18 ∷ 19 ∷ []
reserved_refusals v2_only = []

-- only a reader that tests the frame length answers 20
unfoldable pub frame_refusals : Bool → List ℕ
frame_refusals true = 20 ∷ []
frame_refusals false = []

-- only one that has a table says that it is too short
unfoldable pub room_refusals : ℕ → Max → List ℕ
room_refusals k no_max = []
room_refusals k (at_most room) = k ∷ []

unfoldable pub closing_refusals : Which → Request → List ℕ
closing_refusals which q = 17 ∷ (reserved_refusals which ++ (frame_refusals q.frames ++ (room_refusals 22 q.pairRoom ++ room_refusals 23 q.keyRoom)))

-- behind the opening, by the sections' numbers
unfoldable pub numbers_behind : Option Which → List ℕ → List ℕ → Request → List ℕ
numbers_behind none ks js q = []
numbers_behind (some which) ks js q = ks ++ (js ++ closing_refusals which q)

unfoldable pub body_refusals : Request → List ℕ
body_refusals q =
    1 ∷ 2 ∷ (opening_refusals q.which q.policy ++ numbers_behind (passing (lets_read q.policy 1) q.which) (section_refusals q.mode) key_section_refusals q)

-- of a draft, which is read tolerantly, without tables: neither 15, which no maximum answers, nor 21, 22 and 23
unfoldable pub draft_refusals : Which → List ℕ
draft_refusals which = lead_refusals which ++ (section_refusals tolerant ++ (38 ∷ 16 ∷ 17 ∷ (reserved_refusals which ++ frame_refusals (tests_frames which))))

unfoldable pub drop_refusals : List ℕ
drop_refusals = 1 ∷ 2 ∷ (draft_refusals either ++ (40 ∷ []))

unfoldable pub add_refusals : List ℕ
add_refusals = 1 ∷ 2 ∷ (draft_refusals either ++ (16 ∷ 27 ∷ 28 ∷ []))

-- 4 for a version 2 draft; 6 and 7 of the draft's suite, and again of the one that is added
unfoldable pub reissued_refusals : List ℕ
reissued_refusals = 1 ∷ 2 ∷ (draft_refusals v1_only ++ (20 ∷ 6 ∷ 7 ∷ 24 ∷ 25 ∷ []))

unfoldable pub reissue_refusals : List ℕ
reissue_refusals = reissued_refusals ++ (28 ∷ [])

unfoldable pub auth_refusals : List ℕ
auth_refusals = 1 ∷ 2 ∷ 6 ∷ []

-- 34 and 35 of one frame after the other
unfoldable pub frames_refusals : List ℕ
frames_refusals = 1 ∷ 2 ∷ 20 ∷ 34 ∷ 35 ∷ 23 ∷ []

-- a refusal of the list, with its position: for 2 one that lies beyond the message's end, else 0
pub record Refusal (listed : List ℕ) (m : List ℕ) (number position : ℕ) : Type 0 where
  pub is_listed : Memᴰ number listed
  pub wanted : number ≡ 2 → length m < position
  pub otherwise_0 : (number ≡ 2 → ⊥) → position ≡ 0

-- whatever the message and the start, the reader refuses by the list only
abbrev pub RefusesBy : {A : Type 0} → List ℕ → Reader A → Type 0
RefusesBy listed r = (m : List ℕ) (s k p : ℕ) → operation r m s ≡ refused k p → Refusal listed m k p

pub record Refusals : Type 0 where
  pub of_context : (mode : Mode) (room : ℕ) → RefusesBy (context_refusals mode) (read_aad_section_into mode room)
  pub of_find : (k : List ℕ) → RefusesBy find_refusals (find_value k)
  pub of_only_authenticated : (text required : List ℕ) (room : ℕ) → RefusesBy only_authenticated_refusals (write_only_authenticated text required room)
  pub of_drop : (id : List ℕ) → RefusesBy drop_refusals (drop_encrypted_data_keys id)
  pub of_add : (k : EncryptedDataKey) (room : ℕ) → RefusesBy add_refusals (add_encrypted_data_key k room)
  pub of_reissued : (a : Reissue) → RefusesBy reissued_refusals (reissued_header_body a)
  pub of_reissue : (a : Reissue) (room : ℕ) → RefusesBy reissue_refusals (reissue_header_body a room)
  pub of_keys : (max : Max) (room : ℕ) → RefusesBy keys_refusals (read_encrypted_data_keys_section_into max room)
  pub of_body : (q : Request) → RefusesBy (body_refusals q) (read_body q)
  pub of_auth : (suite : ℕ) → RefusesBy auth_refusals (read_header_auth_tag suite)
  pub of_frames : (frame room : ℕ) → RefusesBy frames_refusals (read_frames_into frame room)

-- what is wanted is never far: fewer than n bytes behind the message's end, or behind a start that lies beyond it
abbrev pub WantsWithin : {A : Type 0} → ℕ → Reader A → Type 0
WantsWithin n r = (m : List ℕ) (s p : ℕ) → Bytes m → operation r m s ≡ refused 2 p → p < s + (length m - s) + n

-- of a header fewer than 65,536
abbrev pub WantsNear : {A : Type 0} → Reader A → Type 0
WantsNear r = WantsWithin 65536 r

pub record Nearness : Type 0 where
  pub of_context : (mode : Mode) (room : ℕ) → WantsNear (read_aad_section_into mode room)
  pub of_find : (k : List ℕ) → WantsNear (find_value k)
  pub of_only_authenticated : (text required : List ℕ) (room : ℕ) → WantsNear (write_only_authenticated text required room)
  pub of_drop : (id : List ℕ) → WantsNear (drop_encrypted_data_keys id)
  pub of_add : (k : EncryptedDataKey) (room : ℕ) → WantsNear (add_encrypted_data_key k room)
  pub of_reissued : (a : Reissue) → WantsNear (reissued_header_body a)
  pub of_reissue : (a : Reissue) (room : ℕ) → WantsNear (reissue_header_body a room)
  pub of_keys : (max : Max) (room : ℕ) → WantsNear (read_encrypted_data_keys_section_into max room)
  pub of_body : (q : Request) → WantsNear (read_body q)
  pub of_auth : (suite : ℕ) → WantsNear (read_header_auth_tag suite)
  -- of frames as many as a tag or the content takes, at most
  pub of_frames : (frame room n : ℕ) → 16 < n → frame < n → WantsWithin n (read_frames_into frame room)
