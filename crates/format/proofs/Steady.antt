-- Every reader of a header is steady, a line a reader. Assumes nothing.
use mathlib.Core.Path.{refl}
use mathlib.Core.Bool.{Bool, true, false}
use mathlib.Core.List.{List, [], ◌∷◌, ◌++◌}
use Prim.Native.Nat.{ℕ, ◌+◌}
use native.Mathlib.Omega.{arith}
use lib.ListN.{length}
use Rattle.format.specs.Read.{ReadResult, success, Reader, End}
use Rattle.format.specs.Serialize.{Part, same_bytes, read_short_length_seq}
use Rattle.format.specs.Shared.{read_message_format_version, read_esdk_suite_id, read_content_type}
use Rattle.format.specs.Fields.{PairAt}
use Rattle.format.specs.Context.{Mode, read_text, read_aad_pair, read_next_aad_pair, read_aad_by, read_aad, read_aad_of, read_aad_section, ContextAt, mark, with_mark, read_aad_section_into, look_up, find_value}
use Rattle.format.specs.OnlyAuthenticated.{fitting, write_only_authenticated}
use Rattle.format.specs.Reissuing.{Reissue, reissued_header_body, reissue_header_body}
use Rattle.format.specs.Keys.{Max, read_encrypted_data_key, read_encrypted_data_keys_of, read_encrypted_data_keys_section, read_encrypted_data_keys_section_into}
use Rattle.format.specs.Policies.{Policy}
use Rattle.format.specs.Body.{Which, read_lead_of, read_lead, after_lead, read_opening, read_closing_of, read_closing, Opening, Request, after_keys, after_context, after_opening, read_body}
use Rattle.format.specs.Auth.{read_header_auth_tag_of, read_header_auth_tag}
use Rattle.format.proofs.SteadyLaws.{Grows, Steady, goes_on, return_steady, steady}

pub entry_steady : (e : End) → Steady (read_short_length_seq e)
unfolding read_short_length_seq
entry_steady e = search steady depth 20

pub text_steady : (e : End) (k : ℕ) → Steady (read_text e k)
unfolding read_text
text_steady e k = search (steady, entry_steady) depth 20

-- the context section
pair_steady : (e : End) → Steady (read_aad_pair e)
unfolding read_aad_pair
pair_steady e = search (steady, text_steady) depth 20

next_steady : (e : End) (acc : List PairAt) → Steady (read_next_aad_pair e acc)
unfolding read_next_aad_pair
next_steady e acc = search (steady, pair_steady) depth 20

aad_steady : (mode : Mode) (n : ℕ) (e : End) → Steady (read_aad mode n e)
unfolding read_aad read_aad_by
aad_steady mode n e = search (steady, next_steady) depth 20

of_steady : (mode : Mode) (b : Bool) (n : ℕ) → Steady (read_aad_of mode b n)
unfolding read_aad_of
of_steady mode true n = return_steady _
of_steady mode false n = search (steady, aad_steady) depth 20

pub section_steady : (mode : Mode) → Steady (read_aad_section mode)
unfolding read_aad_section
section_steady mode = search (steady, of_steady) depth 20

pub section_into_steady : (mode : Mode) (room : ℕ) → Steady (read_aad_section_into mode room)
unfolding read_aad_section_into
section_into_steady mode room = search (steady, section_steady) depth 20

look_steady : (k : List ℕ) (ps : List PairAt) → Steady (look_up k ps)
unfolding look_up
look_steady k [] = record { grows = λ l e s. refl }
look_steady k (p ∷ ps) = record { grows = λ l e s. go l e s (same_bytes k p.key.bytes) ((look_steady k ps).grows l e s) }
  where
    go : (l e : List ℕ) (s : ℕ) (b : Bool) → Grows e s (s + length l) (look_up k ps l s) (look_up k ps (l ++ e) s)
        → Grows {A = Part} e s (s + length l) (elim b as (λ x. ReadResult Part) [ true ↦ success p.value l s | false ↦ look_up k ps l s ])
        (elim b as (λ x. ReadResult Part) [ true ↦ success p.value (l ++ e) s | false ↦ look_up k ps (l ++ e) s ])
    go l e s true h = (refl, refl, omega arith)
    go l e s false h = h

pub find_steady : (k : List ℕ) → Steady (find_value k)
unfolding find_value
find_steady k = search (steady, section_steady, look_steady) depth 20

pub only_authenticated_steady : (text required : List ℕ) (room : ℕ) → Steady (write_only_authenticated text required room)
unfolding write_only_authenticated fitting
only_authenticated_steady text required room = search (steady, section_steady) depth 20

-- the key section
pub key_steady : Steady read_encrypted_data_key
unfolding read_encrypted_data_key
key_steady = search (steady, text_steady, entry_steady) depth 20

pub keys_steady : (max : Max) → Steady (read_encrypted_data_keys_section max)
unfolding read_encrypted_data_keys_section read_encrypted_data_keys_of
keys_steady max = search (steady, key_steady) depth 20

pub keys_into_steady : (max : Max) (room : ℕ) → Steady (read_encrypted_data_keys_section_into max room)
unfolding read_encrypted_data_keys_section_into
keys_into_steady max room = search (steady, keys_steady) depth 20

-- a body
pub version_steady : Steady read_message_format_version
unfolding read_message_format_version
version_steady = search steady depth 20

pub suite_steady : (version : ℕ) → Steady (read_esdk_suite_id version)
unfolding read_esdk_suite_id
suite_steady version = search steady depth 20

lead_of_steady : (v1 : Bool) → Steady (read_lead_of v1)
unfolding read_lead_of
lead_of_steady true = search (steady, suite_steady) depth 20
lead_of_steady false = search (steady, suite_steady) depth 20

pub lead_steady : (which : Which) → Steady (read_lead which)
unfolding read_lead
lead_steady which = search (steady, version_steady, lead_of_steady) depth 20

pub opening_steady : (which : Which) (policy : Policy) → Steady (read_opening which policy)
unfolding read_opening after_lead
opening_steady which policy = search (steady, lead_steady) depth 20

pub content_steady : Steady read_content_type
unfolding read_content_type
content_steady = search steady depth 20

closing_of_steady : (v1 : Bool) (content : ℕ) → Steady (read_closing_of v1 content)
unfolding read_closing_of
closing_of_steady true content = search steady depth 20
closing_of_steady false content = search steady depth 20

pub closing_steady : (v1 : Bool) → Steady (read_closing v1)
unfolding read_closing
closing_steady v1 = search (steady, content_steady, closing_of_steady) depth 20

-- its mark is of the section's start and tail
pub mark_steady : {r : Reader (List PairAt)} → Steady r → Steady (with_mark r)
unfolding with_mark
mark_steady {r} h =
    record { grows = λ l e s. goes_on (mark s) (λ ps. record { grows = λ l e t. (refl, refl, omega arith) }) e s (s + length l) (r l s) (r (l ++ e) s) (h.grows l e s) }

after_context_steady : (q : Request) (o : Opening) (x : ContextAt) → Steady (after_context q o x)
unfolding after_context after_keys
after_context_steady q o x = search (steady, keys_steady, closing_steady) depth 20

pub body_steady : (q : Request) → Steady (read_body q)
unfolding read_body after_opening
body_steady q = search (steady, opening_steady, mark_steady, section_steady, after_context_steady) depth 20

pub reissued_steady : (a : Reissue) → Steady (reissued_header_body a)
unfolding reissued_header_body
reissued_steady a = search (steady, body_steady) depth 20

pub reissue_steady : (a : Reissue) (room : ℕ) → Steady (reissue_header_body a room)
unfolding reissue_header_body fitting
reissue_steady a room = search (steady, reissued_steady) depth 20

-- an authentication record
auth_of_steady : (v1 : Bool) → Steady (read_header_auth_tag_of v1)
unfolding read_header_auth_tag_of
auth_of_steady true = search steady depth 20
auth_of_steady false = search steady depth 20

pub auth_steady : (suite : ℕ) → Steady (read_header_auth_tag suite)
unfolding read_header_auth_tag
auth_steady suite = search (steady, auth_of_steady) depth 20
