-- Which refusals a reader can answer: the numbers of its tests, in their order. Assumes nothing.
use mathlib.Core.Path.{◌≡◌, refl, sym, ◌∙◌}
use mathlib.Core.Bool.{Bool, true, false, not, ◌&&◌}
use mathlib.Core.Option.{Option, none, some}
use mathlib.Core.List.{List, [], ◌∷◌, ◌++◌, Memᴰ}
use Prim.Native.Nat.{ℕ, ◌+◌, ◌-◌, ◌≤◌}
use native.Mathlib.Omega.{arith}
use lib.Dec.{eqb}
use lib.ListN.{length, drop, length-drop}
use Rattle.format.specs.Read.{ReadResult, success, more_needed, error, Reader, ◌>>=◌, return, End, no_end, end_at, Answer, refused, answer, operation}
use Rattle.format.specs.Serialize.{Part, read_short_length_seq, same_bytes}
use Rattle.format.specs.Shared.{frame_fits}
use Rattle.format.specs.Fields.{EncryptedDataKey, PairAt, EncryptedDataKeyAt}
use Rattle.format.specs.Context.{Mode, tolerant, strict, read_text, read_aad_pair, read_next_aad_pair, read_aad_by, read_aad, read_aad_of, read_aad_section, ContextAt, with_mark, read_aad_section_into, look_up, find_value}
use Rattle.format.specs.Keys.{Max, no_max, read_encrypted_data_key, read_encrypted_data_keys_of, read_encrypted_data_keys_section, read_encrypted_data_keys_section_into}
use Rattle.format.specs.Policies.{lets_read}
use Rattle.format.specs.Body.{Which, either, v1_only, v2_only, Opening, read_opening, Request, after_keys, after_context, after_opening, read_body}
use Rattle.format.specs.Auth.{read_header_auth_tag_of, read_header_auth_tag}
use Rattle.format.specs.OnlyAuthenticated.{fitting, write_only_authenticated}
use Rattle.format.specs.Mending.{without_tables, read_draft, drop_encrypted_data_keys, add_encrypted_data_key}
use Rattle.format.specs.Reissuing.{Reissue, reissued_header_body, reissue_header_body}
use Rattle.format.specs.Refusals.{section_refusals, context_refusals, find_refusals, only_authenticated_refusals, lead_refusals, forbidden_refusals, opening_refusals, passing, reserved_refusals, frame_refusals, room_refusals, closing_refusals, numbers_behind, key_section_refusals, keys_refusals, body_refusals, draft_refusals, drop_refusals, add_refusals, reissued_refusals, reissue_refusals, auth_refusals, frames_refusals, Refusal, RefusesBy, Refusals}
use Rattle.format.proofs.Members.{has, has_neither, no_member}
use Rattle.format.proofs.ListedLaws.{Fine, Listed, listed_as, bind_listed, then_listed, return_listed, sure_listed, test_listed, held_refusals, held_listed, read_listed, uint16_listed, repeat_listed, enclosed_listed, given_listed, marked_listed}
use Rattle.format.proofs.ListedEnds.{Opened, opening_listed, opening_gives, closing_listed, tables_listed, frames_listed, Without, opening_without, closing_without}
use Rattle.format.proofs.Frames.{frames_into_listed}
use Rattle.format.proofs.Messages.{cases}

-- an entry may be refused twice by 32
abbrev entry_refusals : End → List ℕ
entry_refusals e = held_refusals e ++ (held_refusals e ++ [])

entry_listed : (e : End) → Listed (entry_refusals e) (read_short_length_seq e)
unfolding read_short_length_seq
entry_listed e = then_listed (held_listed e 2) (bind_listed uint16_listed (λ n. then_listed (held_listed e n) (read_listed n)))

text_listed : (e : End) (k : ℕ) → Listed (entry_refusals e ++ (k ∷ [])) (read_text e k)
unfolding read_text
text_listed e k = bind_listed (entry_listed e) (λ p. then_listed (test_listed k _) (return_listed _))

-- the context section
pub pair_listed : (e : End) → Listed ((entry_refusals e ++ (10 ∷ [])) ++ ((entry_refusals e ++ (11 ∷ [])) ++ [])) (read_aad_pair e)
unfolding read_aad_pair
pair_listed e = bind_listed (text_listed e 10) (λ k. bind_listed (text_listed e 11) (λ v. return_listed _))

next_listed : (e : ℕ) (acc : List PairAt) → Listed (32 ∷ 10 ∷ 11 ∷ 12 ∷ []) (read_next_aad_pair (end_at e) acc)
unfolding read_next_aad_pair
next_listed e acc = listed_as (32 ∷ 10 ∷ 11 ∷ 12 ∷ []) refl (bind_listed (pair_listed (end_at e)) (λ p. then_listed (test_listed 12 _) (return_listed _)))

never_strict : (b : Bool) → not (b && false) ≡ true
never_strict true = refl
never_strict false = refl

-- before 14
abbrev aad_refusals : Mode → List ℕ
aad_refusals tolerant = 32 ∷ 8 ∷ 9 ∷ 10 ∷ 11 ∷ 12 ∷ []
aad_refusals strict = 32 ∷ 8 ∷ 21 ∷ 9 ∷ 10 ∷ 11 ∷ 12 ∷ []

aad_listed : (mode : Mode) (n e : ℕ) → Listed (aad_refusals mode) (read_aad mode n (end_at e))
unfolding read_aad read_aad_by
aad_listed tolerant n e =
    listed_as (aad_refusals tolerant) refl
    (then_listed (held_listed (end_at e) 2) (bind_listed uint16_listed (λ count. then_listed (test_listed 8 _) (then_listed (sure_listed 21 (never_strict (eqb n 2))) (then_listed (test_listed 9 _) (repeat_listed count (next_listed e) []))))))
aad_listed strict n e =
    listed_as (aad_refusals strict) refl
    (then_listed (held_listed (end_at e) 2) (bind_listed uint16_listed (λ count. then_listed (test_listed 8 _) (then_listed (test_listed 21 _) (then_listed (test_listed 9 _) (repeat_listed count (next_listed e) []))))))

of_listed : (mode : Mode) (b : Bool) (n : ℕ) → Listed (section_refusals mode) (read_aad_of mode b n)
unfolding read_aad_of return section_refusals
of_listed mode true n = record { fine = λ l s. refl }
of_listed tolerant false n = enclosed_listed n 14 (read_aad tolerant n) (aad_listed tolerant n)
of_listed strict false n = enclosed_listed n 14 (read_aad strict n) (aad_listed strict n)

pub section_listed : (mode : Mode) → Listed (section_refusals mode) (read_aad_section mode)
unfolding read_aad_section
section_listed mode = bind_listed uint16_listed (λ n. of_listed mode (eqb n 0) n)

section_into_listed : (mode : Mode) (room : ℕ) → Listed (section_refusals mode ++ (22 ∷ [])) (read_aad_section_into mode room)
unfolding read_aad_section_into
section_into_listed mode room = bind_listed (section_listed mode) (λ ps. then_listed (test_listed 22 _) (return_listed _))

pub look_listed : (k : List ℕ) (ps : List PairAt) → Listed (29 ∷ []) (look_up k ps)
unfolding look_up
look_listed k [] = record { fine = λ l s. mathlib.Core.List.Memᴰ.head refl }
look_listed k (p ∷ ps) = record { fine = λ l s. go l s (same_bytes k p.key.bytes) ((look_listed k ps).fine l s) }
  where
    go : (l : List ℕ) (s : ℕ) (b : Bool) → Fine (29 ∷ []) (s + length l) (look_up k ps l s)
        → Fine {A = Part} (29 ∷ []) (s + length l) (elim b as (λ x. ReadResult Part) [ true ↦ success p.value l s | false ↦ look_up k ps l s ])
    go l s true h = refl
    go l s false h = h

find_listed : (k : List ℕ) → Listed (section_refusals tolerant ++ (29 ∷ [])) (find_value k)
unfolding find_value
find_listed k = bind_listed (section_listed tolerant) (look_listed k)

only_authenticated_listed : (text required : List ℕ) (room : ℕ) → Listed (section_refusals tolerant ++ (31 ∷ 28 ∷ [])) (write_only_authenticated text required room)
unfolding write_only_authenticated fitting
only_authenticated_listed text required room = bind_listed (section_listed tolerant) (λ ps. then_listed (test_listed 31 _) (then_listed (test_listed 28 _) (return_listed _)))

-- the key section
key_listed : Listed (16 ∷ []) read_encrypted_data_key
unfolding read_encrypted_data_key
key_listed = bind_listed (text_listed no_end 16) (λ p. bind_listed (entry_listed no_end) (λ i. bind_listed (entry_listed no_end) (λ c. return_listed _)))

pub counted_listed : (max : Max) (count : ℕ) → Listed (15 ∷ 16 ∷ []) (read_encrypted_data_keys_of max count)
unfolding read_encrypted_data_keys_of
counted_listed max count = then_listed (test_listed 15 _) (repeat_listed count (λ acc. key_listed) [])

keys_listed : (max : Max) → Listed key_section_refusals (read_encrypted_data_keys_section max)
unfolding read_encrypted_data_keys_section key_section_refusals
keys_listed max = bind_listed uint16_listed (λ count. then_listed (test_listed 38 _) (counted_listed max count))

keys_into_listed : (max : Max) (room : ℕ) → Listed (key_section_refusals ++ (23 ∷ [])) (read_encrypted_data_keys_section_into max room)
unfolding read_encrypted_data_keys_section_into
keys_into_listed max room = bind_listed (keys_listed max) (λ ks. then_listed (test_listed 23 _) (return_listed _))

-- a body
-- by a version that what was opened is of; whatever was asked for, it is of either
pub after_keys_listed : (which : Which) (q : Request) (o : Opening) → Opened (some which) o.version → (x : ContextAt) (ks : List EncryptedDataKeyAt) → Listed (closing_refusals which q) (after_keys q o x ks)
unfolding after_keys closing_refusals
after_keys_listed which q o h x ks = bind_listed (closing_listed which o.version h) (λ c. frames_listed q.frames (frame_fits c.contentType c.frameLength) (tables_listed q.pairRoom q.keyRoom _ _ _))

-- a body, whatever its sections are read by
abbrev pub body_numbers : Request → List ℕ → List ℕ → List ℕ
body_numbers q ks js = opening_refusals q.which q.policy ++ numbers_behind (passing (lets_read q.policy 1) q.which) ks js q

opened_listed : (q : Request) {ks js : List ℕ} {section : Reader (List PairAt)} {keys : Reader (List EncryptedDataKeyAt)} → Listed ks section → Listed js keys
    → (p : Option Which) (o : Opening) → Opened p o.version → Listed (numbers_behind p ks js q) (with_mark section >>= λ x. keys >>= after_keys q o x)
unfolding numbers_behind
opened_listed q h k none o g = absurd g
opened_listed q h k (some which) o g = bind_listed (marked_listed h) (λ x. bind_listed k (after_keys_listed which q o g x))

pub body_listed_by : (q : Request) {ks js : List ℕ} {section : Reader (List PairAt)} {keys : Reader (List EncryptedDataKeyAt)} → Listed ks section → Listed js keys
    → Listed (body_numbers q ks js) (read_opening q.which q.policy >>= λ o. with_mark section >>= λ x. keys >>= after_keys q o x)
body_listed_by q h k = given_listed (opening_listed q.which q.policy) (opening_gives q.which q.policy) (opened_listed q h k _)

body_listed : (q : Request) → Listed (body_numbers q (section_refusals q.mode) key_section_refusals) (read_body q)
unfolding read_body after_opening after_context
body_listed q = body_listed_by q (section_listed q.mode) (keys_listed q.max)

-- a draft, which has no maximum
draft_keys_listed : Listed (38 ∷ 16 ∷ []) (read_encrypted_data_keys_section no_max)
unfolding read_encrypted_data_keys_section read_encrypted_data_keys_of
draft_keys_listed = bind_listed uint16_listed (λ count. then_listed (test_listed 38 _) (then_listed (sure_listed 15 refl) (repeat_listed count (λ acc. key_listed) [])))

draft_listed : (which : Which) → Listed (draft_refusals which) (read_body (without_tables which))
unfolding read_body after_opening after_context opening_refusals lead_refusals forbidden_refusals passing numbers_behind section_refusals closing_refusals reserved_refusals frame_refusals room_refusals draft_refusals
draft_listed either = listed_as (draft_refusals either) refl (body_listed_by (without_tables either) (section_listed tolerant) draft_keys_listed)
draft_listed v1_only = listed_as (draft_refusals v1_only) refl (body_listed_by (without_tables v1_only) (section_listed tolerant) draft_keys_listed)
draft_listed v2_only = listed_as (draft_refusals v2_only) refl (body_listed_by (without_tables v2_only) (section_listed tolerant) draft_keys_listed)

drop_listed : (id : List ℕ) → Listed (draft_refusals either ++ (40 ∷ [])) (drop_encrypted_data_keys id)
unfolding read_draft drop_encrypted_data_keys
drop_listed id = bind_listed (draft_listed either) (λ b. then_listed (test_listed 40 _) (return_listed _))

add_listed : (k : EncryptedDataKey) (room : ℕ) → Listed (draft_refusals either ++ (16 ∷ 27 ∷ 28 ∷ [])) (add_encrypted_data_key k room)
unfolding read_draft add_encrypted_data_key fitting
add_listed k room = bind_listed (draft_listed either) (λ b. then_listed (test_listed 16 _) (then_listed (test_listed 27 _) (then_listed (test_listed 28 _) (return_listed _))))

reissued_listed : (a : Reissue) → Listed (draft_refusals v1_only ++ (20 ∷ 6 ∷ 7 ∷ 24 ∷ 25 ∷ [])) (reissued_header_body a)
unfolding reissued_header_body
reissued_listed a =
    bind_listed (draft_listed v1_only) (λ b. then_listed (test_listed 20 _) (then_listed (test_listed 6 _) (then_listed (test_listed 7 _) (then_listed (test_listed 24 _) (then_listed (test_listed 25 _) (return_listed _))))))

reissue_listed : (a : Reissue) (room : ℕ) → Listed ((draft_refusals v1_only ++ (20 ∷ 6 ∷ 7 ∷ 24 ∷ 25 ∷ [])) ++ (28 ∷ [])) (reissue_header_body a room)
unfolding reissue_header_body fitting
reissue_listed a room = bind_listed (reissued_listed a) (λ image. then_listed (test_listed 28 _) (return_listed _))

draft_without_2 : (which : Which) → Without 2 (draft_refusals which)
unfolding lead_refusals section_refusals reserved_refusals frame_refusals draft_refusals
draft_without_2 either = refl
draft_without_2 v1_only = refl
draft_without_2 v2_only = refl

reissued_without_2 : Without 2 (draft_refusals v1_only ++ (20 ∷ 6 ∷ 7 ∷ 24 ∷ 25 ∷ []))
reissued_without_2 = has_neither (draft_refusals v1_only) (20 ∷ 6 ∷ 7 ∷ 24 ∷ 25 ∷ []) 2 (draft_without_2 v1_only) refl

-- an authentication record
auth_of_listed : (v1 : Bool) → Listed [] (read_header_auth_tag_of v1)
unfolding read_header_auth_tag_of
auth_of_listed true = bind_listed (read_listed _) (λ iv. bind_listed (read_listed _) (λ tag. return_listed _))
auth_of_listed false = bind_listed (read_listed _) (λ tag. return_listed _)

auth_listed : (suite : ℕ) → Listed (6 ∷ []) (read_header_auth_tag suite)
unfolding read_header_auth_tag
auth_listed suite = then_listed (test_listed 6 _) (auth_of_listed _)

-- as operations, which test 1
module _ {A : Type 0} (ks : List ℕ) (r : Reader A) (no_two : Memᴰ 2 ks → ⊥) (h : Listed ks r) where
  pub refuses : RefusesBy (1 ∷ 2 ∷ ks) r
  refuses m s k p e = cases r m s far near
    where
      far : operation r m s ≡ refused 1 0 → Refusal (1 ∷ 2 ∷ ks) m k p
      far q =
          let z : ◌≡◌ {A = Answer A} (refused 1 0) (refused k p) = sym q ∙ e in
          let k1 : 1 ≡ k = cc in
          let p0 : 0 ≡ p = cc in
          record { is_listed = mathlib.Core.List.Memᴰ.head (sym k1); wanted = λ w. absurd (omega arith); otherwise_0 = λ w. sym p0 }

      of : (x : ReadResult A) → Fine ks (s + length (drop s m)) x → answer x ≡ refused k p → Refusal (1 ∷ 2 ∷ ks) m k p
      of (success a l t) f q = let z : ◌≡◌ {A = ℕ} 0 1 = cc in absurd (omega arith)
      of (more_needed w) f q =
          let k2 : 2 ≡ k = cc in
          let pw : w ≡ p = cc in
          let d : length (drop s m) ≡ length m - s = length-drop s m in
          record { is_listed = mathlib.Core.List.Memᴰ.tail (mathlib.Core.List.Memᴰ.head (sym k2)); wanted = λ y. omega arith; otherwise_0 = λ y. absurd (y (sym k2)) }
      of (error j) f q =
          let kj : j ≡ k = cc in
          let p0 : 0 ≡ p = cc in
          let listed : Memᴰ k ks = rw kj at f in
          record { is_listed = mathlib.Core.List.Memᴰ.tail (mathlib.Core.List.Memᴰ.tail listed); wanted = λ y. absurd (no_two (rw y at listed)); otherwise_0 = λ y. sym p0 }

      near : length m ≤ 4294967295 → s ≤ 4294967295 → operation r m s ≡ answer (r (drop s m) s) → Refusal (1 ∷ 2 ∷ ks) m k p
      near a b q = of (r (drop s m) s) (h.fine (drop s m) s) (sym q ∙ e)

-- a number that is in no list is not answered
pub never_listed : {A : Type 0} (k : ℕ) (ks : List ℕ) → has (1 ∷ 2 ∷ ks) k ≡ false → (r : Reader A) → RefusesBy (1 ∷ 2 ∷ ks) r → (m : List ℕ) (s p : ℕ) → operation r m s ≡ refused k p → ⊥
never_listed k ks e r h m s p q = no_member (1 ∷ 2 ∷ ks) k e (h m s k p q).is_listed

-- a body's numbers with the sections' between them
module _ (q : Request) (ks js : List ℕ) where
  behind_without : (k : ℕ) (p : Option Which) → ((which : Which) → Without k (closing_refusals which q)) → Without k ks → Without k js → Without k (numbers_behind p ks js q)
  unfolding numbers_behind
  behind_without k none c e f = refl
  behind_without k (some which) c e f = has_neither ks (js ++ closing_refusals which q) k e (has_neither js (closing_refusals which q) k f (c which))

  neither : (k : ℕ) → Without k (opening_refusals q.which q.policy) → ((which : Which) → Without k (closing_refusals which q)) → Without k ks → Without k js → Without k (body_numbers q ks js)
  neither k o c e f =
      let passed = passing (lets_read q.policy 1) q.which in
      has_neither (opening_refusals q.which q.policy) (numbers_behind passed ks js q) k o (behind_without k passed c e f)

  pub body_without_2 : Without 2 ks → Without 2 js → Without 2 (body_numbers q ks js)
  body_without_2 = neither 2 (opening_without q.which q.policy).0 (λ which. (closing_without which q).0)

  pub body_without_13 : Without 13 ks → Without 13 js → Without 13 (body_numbers q ks js)
  body_without_13 = neither 13 (opening_without q.which q.policy).1 (λ which. (closing_without which q).1)

  pub body_without_32 : Without 32 ks → Without 32 js → Without 32 (body_numbers q ks js)
  body_without_32 = neither 32 (opening_without q.which q.policy).2 (λ which. (closing_without which q).2)

  pub body_without_38 : Without 38 ks → Without 38 js → Without 38 (body_numbers q ks js)
  body_without_38 = neither 38 (opening_without q.which q.policy).3 (λ which. (closing_without which q).3)

-- a section's, which have 32 among them
pub section_without : (mode : Mode) → Without 2 (section_refusals mode) × Without 13 (section_refusals mode) × Without 38 (section_refusals mode)
unfolding section_refusals
section_without tolerant = (refl, refl, refl)
section_without strict = (refl, refl, refl)

pub refusals : Refusals
unfolding context_refusals find_refusals only_authenticated_refusals key_section_refusals keys_refusals body_refusals drop_refusals add_refusals reissued_refusals reissue_refusals auth_refusals frames_refusals
refusals =
    record {
      of_context = λ mode room. refuses _ _ (no_member _ 2 (has_neither (section_refusals mode) (22 ∷ []) 2 (section_without mode).0 refl)) (section_into_listed mode room);
      of_find = λ k. refuses _ _ (no_member _ 2 (has_neither (section_refusals tolerant) (29 ∷ []) 2 (section_without tolerant).0 refl)) (find_listed k);
      of_only_authenticated = λ text required room. refuses _ _ (no_member _ 2 (has_neither (section_refusals tolerant) (31 ∷ 28 ∷ []) 2 (section_without tolerant).0 refl)) (only_authenticated_listed text required room);
      of_drop = λ id. refuses _ _ (no_member _ 2 (has_neither (draft_refusals either) (40 ∷ []) 2 (draft_without_2 either) refl)) (drop_listed id);
      of_add = λ k room. refuses _ _ (no_member _ 2 (has_neither (draft_refusals either) (16 ∷ 27 ∷ 28 ∷ []) 2 (draft_without_2 either) refl)) (add_listed k room);
      of_reissued = λ a. refuses _ _ (no_member _ 2 reissued_without_2) (reissued_listed a);
      of_reissue = λ a room. refuses _ _ (no_member _ 2 (has_neither (draft_refusals v1_only ++ (20 ∷ 6 ∷ 7 ∷ 24 ∷ 25 ∷ [])) (28 ∷ []) 2 reissued_without_2 refl)) (reissue_listed a room);
      of_keys = λ max room. refuses _ _ (no_member _ 2 refl) (keys_into_listed max room);
      of_body = λ q. refuses _ _ (no_member _ 2 (body_without_2 q (section_refusals q.mode) key_section_refusals (section_without q.mode).0 refl)) (body_listed q);
      of_auth = λ suite. refuses _ _ (no_member _ 2 refl) (auth_listed suite);
      of_frames = λ frame room. refuses _ _ (no_member _ 2 refl) (frames_into_listed frame room);
    }
