-- A reader wants at most 65,535 bytes at once, so what it wants lies near behind the message's end. Assumes nothing.
use mathlib.Core.Path.{◌≡◌, refl, sym, ◌∙◌}
use mathlib.Core.Bool.{cond, Bool, true, false}
use mathlib.Core.List.{List, [], ◌∷◌}
use Prim.Native.Nat.{ℕ, ◌+◌, ◌-◌, ◌≤◌, ◌<◌}
use native.Mathlib.Omega.{arith}
use lib.Dec.{eqb}
use lib.ListN.{length, drop, length-drop}
use Rattle.format.specs.Read.{ReadResult, success, more_needed, error, Reader, End, no_end, Answer, refused, answer, operation}
use Rattle.format.specs.Serialize.{Bytes, Part, same_bytes, read_short_length_seq}
use Rattle.format.specs.Shared.{id_length, iv_length, tag_length, commit_key_length, read_message_format_version, read_esdk_suite_id, read_content_type}
use Rattle.format.specs.Fields.{EncryptedDataKey, PairAt}
use Rattle.format.specs.Context.{Mode, tolerant, read_text, read_aad_pair, read_next_aad_pair, read_aad_by, read_aad, read_aad_of, read_aad_section, ContextAt, mark, with_mark, read_aad_section_into, look_up, find_value}
use Rattle.format.specs.OnlyAuthenticated.{fitting, write_only_authenticated}
use Rattle.format.specs.Mending.{without_tables, read_draft, drop_encrypted_data_keys, add_encrypted_data_key}
use Rattle.format.specs.Reissuing.{Reissue, reissued_header_body, reissue_header_body}
use Rattle.format.specs.Keys.{Max, read_encrypted_data_key, read_encrypted_data_keys_of, read_encrypted_data_keys_section, read_encrypted_data_keys_section_into}
use Rattle.format.specs.Policies.{Policy}
use Rattle.format.specs.Body.{Which, either, v1_only, read_lead_of, read_lead, after_lead, read_opening, read_closing_of, read_closing, Opening, Request, after_keys, after_context, after_opening, read_body}
use Rattle.format.specs.Auth.{read_header_auth_tag_of, read_header_auth_tag}
use Rattle.format.specs.Refusals.{WantsWithin, Nearness}
use Rattle.format.proofs.Frames.{frames_into_wants}
use Rattle.format.proofs.Messages.{bytes_drop, cases}
use Rattle.format.proofs.WantedLaws.{Near, Wants, Any, goes_on, bind_wants, then_wants, return_wants, test_wants, held_wants, read_wants, repeat_wants, enclosed_wants, Header, uint8_wants, uint16_wants, uint32_wants}

entry_wants : (e : End) → Header Any (read_short_length_seq e)
unfolding read_short_length_seq
entry_wants e = then_wants (held_wants e 2) (bind_wants uint16_wants (λ n g. then_wants (held_wants e n) (read_wants n g)))

text_wants : (e : End) (k : ℕ) → Header Any (read_text e k)
unfolding read_text
text_wants e k = bind_wants (entry_wants e) (λ p g. then_wants (test_wants k _) (return_wants _))

-- the context section
pair_wants : (e : End) → Header Any (read_aad_pair e)
unfolding read_aad_pair
pair_wants e = bind_wants (text_wants e 10) (λ k g. bind_wants (text_wants e 11) (λ v g. return_wants _))

next_wants : (e : End) (acc : List PairAt) → Header Any (read_next_aad_pair e acc)
unfolding read_next_aad_pair
next_wants e acc = bind_wants (pair_wants e) (λ p g. then_wants (test_wants 12 _) (return_wants _))

aad_wants : (mode : Mode) (n : ℕ) (e : End) → Header Any (read_aad mode n e)
unfolding read_aad read_aad_by
aad_wants mode n e =
    then_wants (held_wants e 2) (bind_wants uint16_wants (λ count g. then_wants (test_wants 8 _) (then_wants (test_wants 21 _) (then_wants (test_wants 9 _) (repeat_wants count (next_wants e) [])))))

of_wants : (mode : Mode) (b : Bool) (n : ℕ) → n < 65536 → Header Any (read_aad_of mode b n)
unfolding read_aad_of
of_wants mode true n h = return_wants _
of_wants mode false n h = enclosed_wants n 14 (read_aad mode n) h (aad_wants mode n)

pub section_wants : (mode : Mode) → Header Any (read_aad_section mode)
unfolding read_aad_section
section_wants mode = bind_wants uint16_wants (λ n g. of_wants mode (eqb n 0) n g)

section_into_wants : (mode : Mode) (room : ℕ) → Header Any (read_aad_section_into mode room)
unfolding read_aad_section_into
section_into_wants mode room = bind_wants (section_wants mode) (λ ps g. then_wants (test_wants 22 _) (return_wants _))

look_wants : (k : List ℕ) (ps : List PairAt) → Header Any (look_up k ps)
unfolding look_up
look_wants k [] = record { near = λ l s hb. tt }
look_wants k (p ∷ ps) = record { near = λ l s hb. go l s hb (same_bytes k p.key.bytes) ((look_wants k ps).near l s hb) }
  where
    go : (l : List ℕ) (s : ℕ) → Bytes l → (b : Bool) → Near 65536 Any (s + length l) (look_up k ps l s)
        → Near {A = Part} 65536 Any (s + length l) (elim b as (λ x. ReadResult Part) [ true ↦ success p.value l s | false ↦ look_up k ps l s ])
    go l s hb true h = (tt, hb, refl)
    go l s hb false h = h

find_wants : (k : List ℕ) → Header Any (find_value k)
unfolding find_value
find_wants k = bind_wants (section_wants tolerant) (λ ps g. look_wants k ps)

only_authenticated_wants : (text required : List ℕ) (room : ℕ) → Header Any (write_only_authenticated text required room)
unfolding write_only_authenticated fitting
only_authenticated_wants text required room = bind_wants (section_wants tolerant) (λ ps g. then_wants (test_wants 31 _) (then_wants (test_wants 28 _) (return_wants _)))

-- the key section
key_wants : Header Any read_encrypted_data_key
unfolding read_encrypted_data_key
key_wants = bind_wants (text_wants no_end 16) (λ p g. bind_wants (entry_wants no_end) (λ i g. bind_wants (entry_wants no_end) (λ c g. return_wants _)))

pub keys_wants : (max : Max) → Header Any (read_encrypted_data_keys_section max)
unfolding read_encrypted_data_keys_section read_encrypted_data_keys_of
keys_wants max = bind_wants uint16_wants (λ count g. then_wants (test_wants 38 _) (then_wants (test_wants 15 _) (repeat_wants count (λ acc. key_wants) [])))

keys_into_wants : (max : Max) (room : ℕ) → Header Any (read_encrypted_data_keys_section_into max room)
unfolding read_encrypted_data_keys_section_into
keys_into_wants max room = bind_wants (keys_wants max) (λ ks g. then_wants (test_wants 23 _) (return_wants _))

-- a body
suite_wants : (version : ℕ) → Header Any (read_esdk_suite_id version)
unfolding read_esdk_suite_id
suite_wants version = bind_wants uint16_wants (λ x g. then_wants (test_wants 6 _) (then_wants (test_wants 7 _) (return_wants _)))

rest_wants : (v1 : Bool) → Header Any (read_lead_of v1)
unfolding read_lead_of
rest_wants true = bind_wants uint8_wants (λ t g. then_wants (test_wants 5 _) (bind_wants (suite_wants 1) (λ x g. return_wants _)))
rest_wants false = bind_wants (suite_wants 2) (λ x g. return_wants _)

pub version_wants : Header Any read_message_format_version
unfolding read_message_format_version
version_wants = bind_wants uint8_wants (λ v g. then_wants (test_wants 3 _) (return_wants _))

pub lead_wants : (which : Which) → Header Any (read_lead which)
unfolding read_lead
lead_wants which = bind_wants version_wants (λ v g. then_wants (test_wants 4 _) (rest_wants (eqb v 1)))

one_of : (b : Bool) (x y n : ℕ) → x < n → y < n → cond b x y < n
one_of true x y n h k = h
one_of false x y n h k = k

pub opening_wants : (which : Which) (policy : Policy) → Header Any (read_opening which policy)
unfolding read_opening after_lead
opening_wants which policy = bind_wants (lead_wants which) (λ l g. then_wants (test_wants 39 _) (bind_wants (read_wants (id_length l.version) (one_of (eqb l.version 1) _ _ 65536 (omega arith) (omega arith))) (λ id g. return_wants _)))

content_wants : Header Any read_content_type
unfolding read_content_type
content_wants = bind_wants uint8_wants (λ v g. then_wants (test_wants 17 _) (return_wants _))

closing_of_wants : (v1 : Bool) (content : ℕ) → Header Any (read_closing_of v1 content)
unfolding read_closing_of
closing_of_wants true content =
    bind_wants (uint32_wants (omega arith)) (λ r g. then_wants (test_wants 18 _) (bind_wants uint8_wants (λ i g. then_wants (test_wants 19 _) (bind_wants (uint32_wants (omega arith)) (λ f g. return_wants _)))))
closing_of_wants false content = bind_wants (uint32_wants (omega arith)) (λ f g. bind_wants (read_wants commit_key_length (omega arith)) (λ x g. return_wants _))

closing_wants : (v1 : Bool) → Header Any (read_closing v1)
unfolding read_closing
closing_wants v1 = bind_wants content_wants (λ c g. closing_of_wants v1 c)

after_context_wants : (q : Request) (o : Opening) (x : ContextAt) → Header Any (after_context q o x)
unfolding after_context after_keys
after_context_wants q o x =
    bind_wants (keys_wants q.max) (λ ks g. bind_wants (closing_wants (eqb o.version 1)) (λ c g.
    then_wants (test_wants 20 _) (then_wants (test_wants 22 _) (then_wants (test_wants 23 _) (return_wants _)))))

pub marked_wants : {section : Reader (List PairAt)} → Header Any section → Header Any (with_mark section)
unfolding with_mark
marked_wants {section} h = record { near = λ l s hb. goes_on {b = 65536} Any Any (mark s) (λ ps g. record { near = λ l t hb. (tt, hb, refl) }) (s + length l) (section l s) (h.near l s hb) }

body_wants : (q : Request) → Header Any (read_body q)
unfolding read_body after_opening
body_wants q = bind_wants (opening_wants q.which q.policy) (λ o g. bind_wants (marked_wants (section_wants q.mode)) (λ x g. after_context_wants q o x))

-- a draft
drop_wants : (id : List ℕ) → Header Any (drop_encrypted_data_keys id)
unfolding read_draft drop_encrypted_data_keys
drop_wants id = bind_wants (body_wants (without_tables either)) (λ b g. then_wants (test_wants 40 _) (return_wants _))

add_wants : (k : EncryptedDataKey) (room : ℕ) → Header Any (add_encrypted_data_key k room)
unfolding read_draft add_encrypted_data_key fitting
add_wants k room = bind_wants (body_wants (without_tables either)) (λ b g. then_wants (test_wants 16 _) (then_wants (test_wants 27 _) (then_wants (test_wants 28 _) (return_wants _))))

reissued_wants : (a : Reissue) → Header Any (reissued_header_body a)
unfolding reissued_header_body
reissued_wants a =
    bind_wants (body_wants (without_tables v1_only)) (λ b g. then_wants (test_wants 20 _) (then_wants (test_wants 6 _) (then_wants (test_wants 7 _) (then_wants (test_wants 24 _) (then_wants (test_wants 25 _) (return_wants _))))))

reissue_wants : (a : Reissue) (room : ℕ) → Header Any (reissue_header_body a room)
unfolding reissue_header_body fitting
reissue_wants a room = bind_wants (reissued_wants a) (λ image g. then_wants (test_wants 28 _) (return_wants _))

-- an authentication record
auth_of_wants : (v1 : Bool) → Header Any (read_header_auth_tag_of v1)
unfolding read_header_auth_tag_of
auth_of_wants true = bind_wants (read_wants iv_length (omega arith)) (λ iv g. bind_wants (read_wants tag_length (omega arith)) (λ tag g. return_wants _))
auth_of_wants false = bind_wants (read_wants tag_length (omega arith)) (λ tag g. return_wants _)

auth_wants : (suite : ℕ) → Header Any (read_header_auth_tag suite)
unfolding read_header_auth_tag
auth_wants suite = then_wants (test_wants 6 _) (auth_of_wants _)

-- as operations
pub wants_within : {A : Type 0} {b : ℕ} → 0 < b → (r : Reader A) → Wants b Any r → WantsWithin b r
wants_within {A} {b} some r w m s p hb e = cases r m s far near
  where
    far : operation r m s ≡ refused 1 0 → p < s + (length m - s) + b
    far q =
        let z : ◌≡◌ {A = Answer A} (refused 1 0) (refused 2 p) = sym q ∙ e in
        let k : ◌≡◌ {A = ℕ} 1 2 = cc in
        absurd (omega arith)

    of : (x : ReadResult A) → Near b Any (s + length (drop s m)) x → answer x ≡ refused 2 p → p < s + (length m - s) + b
    of (success a l t) f q = let z : ◌≡◌ {A = ℕ} 0 1 = cc in absurd (omega arith)
    of (more_needed v) f q =
        let pv : v ≡ p = cc in
        let d : length (drop s m) ≡ length m - s = length-drop s m in
        omega arith
    of (error j) f q = let p0 : 0 ≡ p = cc in omega arith

    near : length m ≤ 4294967295 → s ≤ 4294967295 → operation r m s ≡ answer (r (drop s m) s) → p < s + (length m - s) + b
    near i j q = of (r (drop s m) s) (w.near (drop s m) s (bytes_drop s m hb)) (sym q ∙ e)

pub nearness : Nearness
nearness =
    record {
      of_context = λ mode room. wants_within (omega arith) _ (section_into_wants mode room);
      of_find = λ k. wants_within (omega arith) _ (find_wants k);
      of_only_authenticated = λ text required room. wants_within (omega arith) _ (only_authenticated_wants text required room);
      of_drop = λ id. wants_within (omega arith) _ (drop_wants id);
      of_add = λ k room. wants_within (omega arith) _ (add_wants k room);
      of_reissued = λ a. wants_within (omega arith) _ (reissued_wants a);
      of_reissue = λ a room. wants_within (omega arith) _ (reissue_wants a room);
      of_keys = λ max room. wants_within (omega arith) _ (keys_into_wants max room);
      of_body = λ q. wants_within (omega arith) _ (body_wants q);
      of_auth = λ suite. wants_within (omega arith) _ (auth_wants suite);
      of_frames = λ frame room n tags contents. wants_within (omega arith) _ (frames_into_wants frame n tags contents room);
    }
