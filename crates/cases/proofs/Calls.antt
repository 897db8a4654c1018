-- For each list of refusals a table of calls whose answers, computed, are the numbers of the list in their order. Assumes nothing.
use mathlib.Core.Path.{◌≡◌, refl, ap, ◌∙◌}
use mathlib.Core.Bool.{Bool, true, false, not}
use mathlib.Core.Option.{Option, none, some}
use mathlib.Core.List.{List, [], ◌∷◌, ◌++◌, map, Memᴰ}
use Prim.Native.Nat.{ℕ, zero, suc, ◌+◌, ◌*◌, ◌/◌, ◌%◌, ◌<◌}
use native.Mathlib.Omega.{arith}
use lib.ListN.{length, get_or, take, drop, replicate, length-replicate}
use borrow.Author.Tests.{ne_eqb, lt-leb}
use Rattle.format.specs.Serialize.{every}
use Rattle.format.specs.Read.{Reader, Answer, accepted, refused, operation}
use Rattle.format.specs.Context.{Mode, tolerant, strict, read_aad_section, read_aad_section_into, look_up, find_value}
use Rattle.format.specs.Keys.{at_most, read_encrypted_data_keys_section_into}
use Rattle.format.specs.Policies.{Policy, no_policy, forbid_encrypt_allow_decrypt, require_encrypt_allow_decrypt, require_encrypt_require_decrypt, lets_read}
use Rattle.format.specs.Body.{Which, either, v1_only, v2_only, read_header_body_under}
use Rattle.format.specs.Auth.{read_header_auth_tag, read_header_auth_tag_of}
use Rattle.format.specs.Frames.{read_frames_into}
use Rattle.format.specs.OnlyAuthenticated.{write_only_authenticated}
use Rattle.format.specs.Checks.{first, frames_checks}
use Rattle.format.specs.Lent.{items, in_text, part_in, frame_in, frames_in, table_checks, size_of, writing_frames}
use Rattle.format.specs.Refusals.{section_refusals, lead_refusals, forbidden_refusals, opening_refusals, passing, numbers_behind, reserved_refusals, frame_refusals, room_refusals, closing_refusals, key_section_refusals, keys_refusals, body_refusals, auth_refusals, frames_refusals}
use Rattle.cases.specs.Cases.{H, opened, laid_out}
use Rattle.cases.specs.Headers.{bytes_from, V2}
use Rattle.cases.specs.Tags.{selecting}
use Rattle.format.proofs.Firsts.{first_pass, first_stop}
use Rattle.format.proofs.Members.{no_member}
use Rattle.format.proofs.Tables.{items_length}
use Rattle.cases.specs.Frames.{iv, tag, regular, final, two, two_places, of_frames}
use Rattle.cases.specs.Occurs.{listed_for}

-- a refusal's number
abbrev pub number_of : {A : Type 0} → Answer A → Option ℕ
number_of (accepted a t) = none
number_of (refused k p) = some k

-- a message and a start
abbrev pub Call : Type 0
Call = List ℕ × ℕ

abbrev pub calls : List (List ℕ) → List Call
calls ms = map (λ (m : List ℕ). (m, 0)) ms

unfoldable pub said : {A : Type 0} → Reader A → Call → Option ℕ
said r (m, s) = number_of (operation r m s)

-- context sections that refuse 32, 8 to 12 and 14, in both modes
unfoldable pub sections : List (List ℕ)
sections =
    (0x00 ∷ 0x01 ∷ 0x00 ∷ [])
    ∷ (0x00 ∷ 0x02 ∷ 0x00 ∷ 0x01 ∷ [])
    ∷ (0x00 ∷ 0x03 ∷ 0x00 ∷ 0x00 ∷ 0x00 ∷ [])
    ∷ (0x00 ∷ 0x05 ∷ 0x00 ∷ 0x01 ∷ 0x00 ∷ 0x01 ∷ 0xFF ∷ [])
    ∷ (0x00 ∷ 0x07 ∷ 0x00 ∷ 0x01 ∷ 0x00 ∷ 0x00 ∷ 0x00 ∷ 0x01 ∷ 0xFF ∷ [])
    ∷ (0x00 ∷ 0x0A ∷ 0x00 ∷ 0x02 ∷ 0x00 ∷ 0x00 ∷ 0x00 ∷ 0x00 ∷ 0x00 ∷ 0x00 ∷ 0x00 ∷ 0x00 ∷ [])
    ∷ (0x00 ∷ 0x07 ∷ 0x00 ∷ 0x01 ∷ 0x00 ∷ 0x00 ∷ 0x00 ∷ 0x00 ∷ 0x00 ∷ [])
    ∷ []

-- a start that refuses 1, and no message, which wants one
abbrev pub far_and_short : List Call
far_and_short = ([], 4294967296) ∷ ([], 0) ∷ []

pub section_answers : (mode : Mode) → map (said (read_aad_section mode)) (far_and_short ++ calls sections) ≡ map some (1 ∷ 2 ∷ section_refusals tolerant)
unfolding opened said sections section_refusals
section_answers mode = refl

-- what stands before the context section, and behind the keys and a content type; true: version 1
abbrev pub opening_bytes : Bool → List ℕ
opening_bytes true = take 20 H
opening_bytes false = take 35 V2

abbrev pub closing_bytes : Bool → List ℕ
closing_bytes true = 0x00 ∷ 0x00 ∷ 0x00 ∷ 0x00 ∷ 0x0C ∷ 0x00 ∷ 0x00 ∷ 0x00 ∷ 0x00 ∷ []
closing_bytes false = 0x00 ∷ 0x00 ∷ 0x00 ∷ 0x00 ∷ bytes_from 0xC0

-- the version byte, type and suite that refuse 3 to 7
abbrev pub openings : Which → List (List ℕ)
openings either = (0x03 ∷ []) ∷ (0x01 ∷ 0x81 ∷ []) ∷ (0x01 ∷ 0x80 ∷ 0x00 ∷ 0x00 ∷ []) ∷ (0x01 ∷ 0x80 ∷ 0x04 ∷ 0x78 ∷ []) ∷ []
openings v1_only = (0x03 ∷ []) ∷ (0x02 ∷ []) ∷ (0x01 ∷ 0x81 ∷ []) ∷ (0x01 ∷ 0x80 ∷ 0x00 ∷ 0x00 ∷ []) ∷ (0x01 ∷ 0x80 ∷ 0x04 ∷ 0x78 ∷ []) ∷ []
openings v2_only = (0x03 ∷ []) ∷ (0x01 ∷ []) ∷ (0x02 ∷ 0x00 ∷ 0x00 ∷ []) ∷ (0x02 ∷ 0x01 ∷ 0x78 ∷ []) ∷ []

-- an empty context section and a key section of one key with no bytes
abbrev pub one_key : List ℕ
one_key = 0x00 ∷ 0x00 ∷ 0x00 ∷ 0x01 ∷ 0x00 ∷ 0x00 ∷ 0x00 ∷ 0x00 ∷ 0x00 ∷ 0x00 ∷ []

-- the reserved bytes and IV length that refuse 18 and 19, the frame length that refuses 20, behind them
abbrev reserved : List (List ℕ)
reserved = (one_key ++ (0x02 ∷ 0x00 ∷ 0x00 ∷ 0x00 ∷ 0x01 ∷ [])) ∷ (one_key ++ (0x02 ∷ 0x00 ∷ 0x00 ∷ 0x00 ∷ 0x00 ∷ 0x0B ∷ [])) ∷ []

abbrev reserved_of : Bool → List (List ℕ)
reserved_of true = reserved
reserved_of false = []

abbrev pub closings : Bool → Which → List (List ℕ)
closings v1 either = reserved_of v1 ++ ((one_key ++ (0x02 ∷ closing_bytes v1)) ∷ [])
closings v1 v1_only = reserved
closings v1 v2_only = []

-- what refuses behind an opening of a version, with at most one key, a table for one pair and none for keys: the section's numbers, 38, 15 to 17, the
-- closing's, two pairs with a key and one key
abbrev behind_opening : Bool → Which → List (List ℕ)
behind_opening v1 which =
    sections
    ++ (((0x00 ∷ 0x00 ∷ 0x00 ∷ 0x00 ∷ []) ∷ (0x00 ∷ 0x00 ∷ 0x00 ∷ 0x02 ∷ []) ∷ (0x00 ∷ 0x00 ∷ 0x00 ∷ 0x01 ∷ 0x00 ∷ 0x01 ∷ 0xFF ∷ []) ∷ (one_key ++ (0x03 ∷ [])) ∷ [])
    ++ (closings v1 which
    ++ ((0x00 ∷ 0x0B ∷ 0x00 ∷ 0x02 ∷ 0x00 ∷ 0x00 ∷ 0x00 ∷ 0x00 ∷ 0x00 ∷ 0x01 ∷ 0x61 ∷ 0x00 ∷ 0x00 ∷ drop 2 one_key ++ (0x01 ∷ closing_bytes v1))
    ∷ (one_key ++ (0x01 ∷ closing_bytes v1))
    ∷ [])))

abbrev opened_by : Bool → Which → List (List ℕ)
opened_by v1 which = map (λ (b : List ℕ). opening_bytes v1 ++ b) (behind_opening v1 which)

-- the version of the messages that come past the opening; and 39, of what stands before H's message ID. True: version 1 is let be read
abbrev pub is_v1 : Bool → Which → Bool
is_v1 true either = true
is_v1 true v1_only = true
is_v1 true v2_only = false
is_v1 false which = false

abbrev past_7 : Bool → Which → List (List ℕ)
past_7 true which = opened_by (is_v1 true which) which
past_7 false either = take 4 H ∷ opened_by false either
past_7 false v1_only = take 4 H ∷ []
past_7 false v2_only = opened_by false v2_only

abbrev pub body_calls : Policy → Which → List Call
body_calls policy which = far_and_short ++ (calls (openings which) ++ calls (past_7 (lets_read policy 1) which))

abbrev pub body_said : Policy → Which → Mode → Call → Option ℕ
body_said policy which mode = said (read_header_body_under policy which mode (at_most 1) 4 0)

-- in both modes the numbers of the tolerant list
abbrev pub Answered : Policy → Which → Type 0
Answered policy which = (mode : Mode) → map (body_said policy which mode) (body_calls policy which) ≡ map some (listed_for policy which tolerant)

pub body_answers : (policy : Policy) (which : Which) → Answered policy which
unfolding opened said sections H V2 bytes_from opening_refusals lead_refusals forbidden_refusals passing numbers_behind section_refusals reserved_refusals frame_refusals room_refusals closing_refusals key_section_refusals body_refusals
body_answers no_policy either mode = refl
body_answers no_policy v1_only mode = refl
body_answers no_policy v2_only mode = refl
body_answers forbid_encrypt_allow_decrypt either mode = refl
body_answers forbid_encrypt_allow_decrypt v1_only mode = refl
body_answers forbid_encrypt_allow_decrypt v2_only mode = refl
body_answers require_encrypt_allow_decrypt either mode = refl
body_answers require_encrypt_allow_decrypt v1_only mode = refl
body_answers require_encrypt_allow_decrypt v2_only mode = refl
body_answers require_encrypt_require_decrypt either mode = refl
body_answers require_encrypt_require_decrypt v1_only mode = refl
body_answers require_encrypt_require_decrypt v2_only mode = refl

-- the old form of an empty context, which the strict mode alone refuses
abbrev pub old_form : List ℕ
old_form = 0x00 ∷ 0x02 ∷ 0x00 ∷ 0x00 ∷ []

pub strict_section : said (read_aad_section strict) (old_form, 0) ≡ some 21
unfolding opened said
strict_section = refl

pub strict_body : (policy : Policy) (which : Which) → Memᴰ 21 (listed_for policy which strict)
    → said (read_header_body_under policy which strict (at_most 1) 4 0) (opening_bytes (is_v1 (lets_read policy 1) which) ++ old_form, 0) ≡ some 21
unfolding opened said H V2 bytes_from opening_refusals lead_refusals forbidden_refusals passing numbers_behind body_refusals
strict_body no_policy either h = refl
strict_body no_policy v1_only h = refl
strict_body no_policy v2_only h = refl
strict_body forbid_encrypt_allow_decrypt either h = refl
strict_body forbid_encrypt_allow_decrypt v1_only h = refl
strict_body forbid_encrypt_allow_decrypt v2_only h = refl
strict_body require_encrypt_allow_decrypt either h = refl
strict_body require_encrypt_allow_decrypt v1_only h = refl
strict_body require_encrypt_allow_decrypt v2_only h = refl
strict_body require_encrypt_require_decrypt either h = refl
strict_body require_encrypt_require_decrypt v1_only h = absurd (no_member (1 ∷ 2 ∷ 3 ∷ 4 ∷ 5 ∷ 6 ∷ 7 ∷ 39 ∷ []) 21 refl h)
strict_body require_encrypt_require_decrypt v2_only h = refl

-- one pair and no table; no pair and any key; a required table of odd length; one required pair and no output
pub no_table : (mode : Mode) → said (read_aad_section_into mode 0) (0x00 ∷ 0x06 ∷ 0x00 ∷ 0x01 ∷ 0x00 ∷ 0x00 ∷ 0x00 ∷ 0x00 ∷ [], 0) ≡ some 22
unfolding opened said
no_table mode = refl

pub no_pair : said (find_value []) (0x00 ∷ 0x00 ∷ [], 0) ≡ some 29
unfolding opened said find_value look_up
no_pair = refl

pub odd_table : said (write_only_authenticated [] (0 ∷ []) 0) (0x00 ∷ 0x00 ∷ [], 0) ≡ some 31
unfolding opened said laid_out selecting
odd_table = refl

pub no_output : said (write_only_authenticated [] (0 ∷ 0 ∷ []) 0) (0x00 ∷ 0x06 ∷ 0x00 ∷ 0x01 ∷ 0x00 ∷ 0x00 ∷ 0x00 ∷ 0x00 ∷ [], 0) ≡ some 28
unfolding opened said laid_out selecting
no_output = refl

-- a key section with at most one key and no table
abbrev pub key_calls : List Call
key_calls = far_and_short ++ calls ((0x00 ∷ 0x00 ∷ []) ∷ (0x00 ∷ 0x02 ∷ []) ∷ (0x00 ∷ 0x01 ∷ 0x00 ∷ 0x01 ∷ 0xFF ∷ []) ∷ (0x00 ∷ 0x01 ∷ 0x00 ∷ 0x00 ∷ 0x00 ∷ 0x00 ∷ 0x00 ∷ 0x00 ∷ []) ∷ [])

pub key_answers : map (said (read_encrypted_data_keys_section_into (at_most 1) 0)) key_calls ≡ map some keys_refusals
unfolding opened said read_encrypted_data_keys_section_into key_section_refusals keys_refusals
key_answers = refl

-- an authentication record of no bytes, by suite and start
abbrev pub auth_said : ℕ × ℕ → Option ℕ
auth_said (suite, start) = said (read_header_auth_tag suite) ([], start)

abbrev pub auth_calls : List (ℕ × ℕ)
auth_calls = (0x0178, 4294967296) ∷ (0x0178, 0) ∷ (0x0000, 0) ∷ []

pub auth_answers : map auth_said auth_calls ≡ map some auth_refusals
unfolding opened said read_header_auth_tag read_header_auth_tag_of auth_refusals
auth_answers = refl

-- frames with no table, by frame length, message and start
abbrev pub frames_said : ℕ × Call → Option ℕ
frames_said (frame, call) = said (read_frames_into frame 0) call

unfoldable pub frames_calls : List (ℕ × Call)
frames_calls =
    (1, ([], 4294967296))
    ∷ (1, ([], 0))
    ∷ (0, ([], 0))
    ∷ (1, (0x00 ∷ 0x00 ∷ 0x00 ∷ 0x00 ∷ [], 0))
    ∷ (1, (final 1 2 [], 0))
    ∷ (1, (final 1 0 [], 0))
    ∷ []

pub frames_answers : map frames_said frames_calls ≡ map some frames_refusals
unfolding opened of_frames said frames_calls final iv tag bytes_from frames_refusals
frames_answers = refl

-- frames to write: a frame length, a text and a table. 27 is of 65,536 frames, a table too long to compute with
abbrev pub FramesToWrite : Type 0
FramesToWrite = ℕ × List ℕ × List ℕ

abbrev pub frames_size_said : FramesToWrite → Option ℕ
frames_size_said (frame, text, table) = number_of (size_of (writing_frames frame text table))

abbrev pub but_27 : List ℕ
but_27 = 20 ∷ 26 ∷ 36 ∷ 19 ∷ 30 ∷ 37 ∷ 35 ∷ []

unfoldable pub frames_size_calls : List FramesToWrite
frames_size_calls =
    (0, [], [])
    ∷ (2, [], 0 ∷ [])
    ∷ (2, [], [])
    ∷ (2, two, 4 ∷ 11 ∷ 16 ∷ 2 ∷ 18 ∷ 16 ∷ [])
    ∷ (2, two, 4 ∷ 12 ∷ 16 ∷ 2 ∷ 18 ∷ 17 ∷ [])
    ∷ (3, two, two_places)
    ∷ (1, two, 4 ∷ 12 ∷ 16 ∷ 2 ∷ 18 ∷ 16 ∷ [])
    ∷ []

pub frames_size_answers : map frames_size_said frames_size_calls ≡ map some but_27
unfolding opened laid_out of_frames frames_size_calls two two_places regular final iv tag bytes_from items in_text part_in table_checks
frames_size_answers = refl

all_true : (f : ℕ → Bool) → ((x : ℕ) → f x ≡ true) → (xs : List ℕ) → every f xs ≡ true
unfolding every
all_true f h [] = refl
all_true f h (x ∷ xs) = rw (h x) (all_true f h xs)

all_zero : (n i : ℕ) → ◌≡◌ {A = ℕ} (get_or (replicate n 0) i 0) 0
all_zero zero i = refl
all_zero (suc n) zero = refl
all_zero (suc n) (suc i) = all_zero n i

-- frames without a byte, more than 65,535
pub many_frames : (n : ℕ) → 65535 < n → first (writing_frames 1 [] (replicate (6 * n) 0)).checks ≡ some 27
unfolding writing_frames frames_checks table_checks in_text
many_frames n h =
    let table : List ℕ = replicate (6 * n) 0 in
    let l : length table ≡ 6 * n = length-replicate (6 * n) 0 in
    let count : length (frames_in [] table) ≡ n = items_length (frame_in [] table) 6 (length table / 6) 0 ∙ (let k : length table / 6 ≡ n = omega arith in k) in
    let whole : length table % 6 ≡ 0 = omega arith in
    first_pass 20 _ _ refl
    ∙ first_pass 26 _ _ (rw whole refl)
    ∙ first_pass 26 _ _ (all_true (in_text [] table) (λ at. rw (all_zero (6 * n) at, all_zero (6 * n) (at + 1)) refl) _)
    ∙ first_pass 36 _ _ (rw count (ap not (ne_eqb n 0 (λ z. omega arith))))
    ∙ first_stop 27 _ _ (rw count (lt-leb n 65535 h))
