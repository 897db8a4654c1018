-- A body, find and an authentication record go by their lists; and an operation refuses by the first line that applies.
-- Assumes nothing.
use mathlib.Core.Path.{◌≡◌, refl, sym, ◌∙◌}
use mathlib.Core.Bool.{Bool, true, false, not, cond, ◌||◌}
use mathlib.Core.Option.{Option, none, some}
use mathlib.Core.List.{List, [], ◌∷◌, map}
use Prim.Native.Nat.{ℕ, ◌+◌}
use native.Mathlib.Omega.{arith}
use lib.Dec.{eqb}
use lib.ListN.{drop}
use Rattle.format.specs.Read.{ReadResult, success, Reader, ◌>>◌, return, test, Answer, accepted, refused, answer, at, addressable, operation}
use Rattle.format.specs.Serialize.{Part, same_bytes}
use Rattle.format.specs.Shared.{by, one_or_two, known, of_version, id_length, read_message_format_version, read_esdk_suite_id, read_content_type, suite_version}
use Rattle.format.specs.Fields.{EncryptedDataKey, PairAt, pair_of}
use Rattle.format.specs.Context.{tolerant, seen, look_up, find_value}
use Rattle.format.specs.OnlyAuthenticated.{only_authenticated, fitting, write_only_authenticated}
use Rattle.format.specs.Mending.{without_tables, read_draft, dropped_image, drop_encrypted_data_keys, added_image, add_encrypted_data_key}
use Rattle.format.specs.Reissuing.{Reissue, reissued_image, reissued_header_body, reissue_header_body}
use Rattle.format.specs.Policies.{Policy, lets_read}
use Rattle.format.specs.Body.{Which, either, v1_only, Lead, read_lead_of, read_lead, Opening, after_lead, read_opening, read_closing_of, read_closing, whole, Request, after_keys, after_context, after_opening, read_body}
use Rattle.format.specs.Auth.{read_header_auth_tag_of, read_header_auth_tag}
use Rattle.format.specs.Places.{number8, number16, part_of, entry_end, section_pairs, opening_here, closing_here, closing_end, body_here, body_end, value_of, value_here, auth_of_here, auth_here, auth_end}
use Rattle.format.specs.First.{Line, lacks, unless, NoneApplies, FirstApplies, operation_list, lead_list_of, lead_list, opening_list, closing_list_of, closing_list, frame_length_here, body_list, auth_list, find_list, only_authenticated_list, FirstRefusal}
use Rattle.format.specs.FirstRefusals.{drop_list, add_list, reissued_list, reissue_list, FirstRefusals}
use Rattle.format.specs.Pinned.{line_number}
use Rattle.format.proofs.Lines.{first_line, one_none, behind_list, none_applies, applies_none, first_applies, applies_first, Goes, goes_as, return_goes, bind_goes, test_goes, read_goes}
use Rattle.format.proofs.Messages.{refused_is_no_accepted}
use Rattle.format.proofs.First.{uint8_goes, uint16_goes, uint32_goes, context_goes, marked_goes, context_into_goes, keys_goes, keys_into_goes}
use Rattle.format.proofs.Ends.{version_is}
use Rattle.format.proofs.Frames.{frames_into_goes}

-- the leading fields behind the version byte at s, and where the ID starts; true: version 1
unfoldable pub lead_here : Bool → List ℕ → ℕ → Lead
lead_here true m s = record { version = 1; messageType = number8 m s; suite = number16 m (s + 1) }
lead_here false m s = record { version = 2; messageType = 0; suite = number16 m s }

unfoldable pub id_start : Bool → ℕ → ℕ
id_start true s = s + 1 + 2
id_start false s = s + 2

suite_goes : (version : ℕ) → Goes (read_esdk_suite_id version) (λ m s. lacks 2 m s ∷ unless 6 (known (number16 m s)) ∷ unless 7 (of_version version (number16 m s)) ∷ []) number16 (λ m s. s + 2)
unfolding read_esdk_suite_id
suite_goes version = bind_goes uint16_goes (λ x. test_goes _ _ (test_goes _ _ (return_goes x)))

lead_of_goes : (b : Bool) → Goes (read_lead_of b) (lead_list_of b) (lead_here b) (λ m s. id_start b s)
unfolding read_lead_of lead_list_of lead_here id_start
lead_of_goes true = bind_goes uint8_goes (λ t. test_goes _ _ (bind_goes (suite_goes 1) (λ x. return_goes _)))
lead_of_goes false = bind_goes (suite_goes 2) (λ x. return_goes _)

version_goes : Goes read_message_format_version (λ m s. lacks 1 m s ∷ unless 3 (one_or_two (number8 m s)) ∷ []) number8 (λ m s. s + 1)
unfolding read_message_format_version
version_goes = bind_goes uint8_goes (λ v. test_goes _ _ (return_goes v))

pub lead_goes : (which : Which) → Goes (read_lead which) (lead_list which) (λ m s. lead_here (eqb (number8 m s) 1) m (s + 1)) (λ m s. id_start (eqb (number8 m s) 1) (s + 1))
unfolding read_lead lead_list
lead_goes which = goes_as (bind_goes version_goes (λ v. test_goes _ _ (lead_of_goes (eqb v 1)))) (λ m s. refl) (λ m s e. (refl, refl))

-- where no line up to 7 applies, the version is one of the two
pub versioned : (which : Which) (m : List ℕ) (s : ℕ) → first_line (lead_list which m s) ≡ none → one_or_two (number8 m s) ≡ true
unfolding lead_list
versioned which m s e = passed (one_or_two (number8 m s)) (one_none _ _ (one_none _ _ e).1).0
  where
    passed : (b : Bool) → not b ≡ false → b ≡ true
    passed true e = refl
    passed false e = sym e

pub lead_version : (b : Bool) (m : List ℕ) (s : ℕ) → (lead_here b m s).version ≡ cond b 1 2
unfolding lead_here
lead_version true m s = refl
lead_version false m s = refl

-- 39 stands right after 7
pub policy_after_7 : (v1 : Bool) (which : Which) (policy : Policy) (m : List ℕ) (s : ℕ) → eqb (number8 m s) 1 ≡ v1
    → map line_number (opening_list which policy m s) ≡ cond v1 (2 ∷ 3 ∷ 4 ∷ 2 ∷ 5 ∷ 2 ∷ 6 ∷ 7 ∷ 39 ∷ 2 ∷ []) (2 ∷ 3 ∷ 4 ∷ 2 ∷ 6 ∷ 7 ∷ 39 ∷ 2 ∷ [])
unfolding opening_list lead_list lead_list_of
policy_after_7 true which policy m s e = rw e refl
policy_after_7 false which policy m s e = rw e refl

pub opening_goes : (which : Which) (policy : Policy) → Goes (read_opening which policy) (opening_list which policy)
    (λ m s. opening_here (eqb (number8 m s) 1) m (s + 1)) (λ m s. s + by (number8 m s) 20 35)
unfolding read_opening after_lead opening_list lead_here id_start opening_here
opening_goes which policy =
    goes_as (bind_goes (lead_goes which) (λ l. test_goes 39 (lets_read policy l.version) (bind_goes (read_goes (id_length l.version)) (λ id. return_goes _))))
    (λ m s. behind_list (lead_list which m s) _ _ (λ e. lines (number8 m s) m s (versioned which m s e)))
    (λ m s e. (here (eqb (number8 m s) 1) m (s + 1), ends (eqb (number8 m s) 1) m s))
  where
    starts : (b : Bool) (s : ℕ) → s + cond b 4 3 ≡ id_start b (s + 1)
    starts true s = omega arith
    starts false s = omega arith

    lines : (v : ℕ) (m : List ℕ) (s : ℕ) → one_or_two v ≡ true
        → let l = lead_here (eqb v 1) m (s + 1) in
        first_line (unless 39 (lets_read policy v) ∷ lacks (by v 16 32) m (s + by v 4 3) ∷ [])
        ≡ first_line (unless 39 (lets_read policy l.version) ∷ lacks (id_length l.version) m (id_start (eqb v 1) (s + 1)) ∷ [])
    lines v m s e = rw (lead_version (eqb v 1) m (s + 1), version_is v e, starts (eqb v 1) s) refl

    here : (b : Bool) (m : List ℕ) (s : ℕ) → let l = lead_here b m s in
        ◌≡◌ {A = Opening} (record { version = l.version; messageType = l.messageType; suite = l.suite; messageId = part_of m (id_start b s) (id_length l.version) }) (opening_here b m s)
    here true m s = refl
    here false m s = refl

    ends : (b : Bool) (m : List ℕ) (s : ℕ) → id_start b (s + 1) + id_length (lead_here b m (s + 1)).version ≡ s + cond b 20 35
    ends true m s = omega arith
    ends false m s = omega arith

content_goes : Goes read_content_type (λ m s. lacks 1 m s ∷ unless 17 (one_or_two (number8 m s)) ∷ []) number8 (λ m s. s + 1)
unfolding read_content_type
content_goes = bind_goes uint8_goes (λ v. test_goes _ _ (return_goes v))

closing_goes : (b : Bool) → Goes (read_closing b) (closing_list b) (closing_here b) (λ m s. closing_end b s)
unfolding read_closing read_closing_of closing_list closing_list_of closing_here closing_end
closing_goes true =
    bind_goes content_goes (λ c. bind_goes uint32_goes (λ r. test_goes _ _ (bind_goes uint8_goes (λ i. test_goes _ _ (bind_goes uint32_goes (λ f. return_goes _))))))
closing_goes false = bind_goes content_goes (λ c. bind_goes uint32_goes (λ f. bind_goes (read_goes 32) (λ x. return_goes _)))

-- a body: what its closing is like goes by the version that was read
is_v1 : (b : Bool) (m : List ℕ) (s : ℕ) → eqb (opening_here b m s).version 1 ≡ b
unfolding opening_here
is_v1 true m s = refl
is_v1 false m s = refl

frame_is : (b : Bool) (m : List ℕ) (s : ℕ) → (closing_here b m s).frameLength ≡ frame_length_here b m s
unfolding closing_here
frame_is true m s = refl
frame_is false m s = refl

content_is : (b : Bool) (m : List ℕ) (s : ℕ) → (closing_here b m s).contentType ≡ number8 m s
unfolding closing_here
content_is true m s = refl
content_is false m s = refl

module _ (q : Request) where
  body_goes : Goes (read_body q) (body_list q) body_here body_end
  unfolding read_body after_opening after_context after_keys body_list
  body_goes =
      goes_as
      (bind_goes (opening_goes q.which q.policy) (λ o. bind_goes (marked_goes q.mode) (λ x. bind_goes (keys_goes q.max) (λ ks. bind_goes (closing_goes (eqb o.version 1)) (λ c.
      test_goes _ _ (test_goes _ _ (test_goes _ _ (return_goes (whole o x ks c)))))))))
      (λ m s. rw (is_v1 (eqb (number8 m s) 1) m (s + 1), content_is, frame_is) refl)
      (λ m s e. (rw (is_v1 (eqb (number8 m s) 1) m (s + 1)) refl, rw (is_v1 (eqb (number8 m s) 1) m (s + 1)) refl))

-- a draft
drop_goes : (id : List ℕ) → Goes (drop_encrypted_data_keys id) (drop_list id) (λ m s. dropped_image id (body_here m s)) body_end
unfolding read_draft drop_encrypted_data_keys drop_list
drop_goes id = bind_goes (body_goes (without_tables either)) (λ b. test_goes _ _ (return_goes _))

add_goes : (k : EncryptedDataKey) (room : ℕ) → Goes (add_encrypted_data_key k room) (add_list k room) (λ m s. added_image k (body_here m s)) body_end
unfolding read_draft add_encrypted_data_key fitting add_list
add_goes k room = bind_goes (body_goes (without_tables either)) (λ b. test_goes _ _ (test_goes _ _ (test_goes _ _ (return_goes _))))

reissued_goes : (a : Reissue) → Goes (reissued_header_body a) (reissued_list a) (λ m s. reissued_image a (body_here m s)) body_end
unfolding reissued_header_body reissued_list
reissued_goes a = bind_goes (body_goes (without_tables v1_only)) (λ b. test_goes _ _ (test_goes _ _ (test_goes _ _ (test_goes _ _ (test_goes _ _ (return_goes _))))))

reissue_goes : (a : Reissue) (room : ℕ) → Goes (reissue_header_body a room) (reissue_list a room) (λ m s. reissued_image a (body_here m s)) body_end
unfolding reissue_header_body fitting reissue_list
reissue_goes a room = bind_goes (reissued_goes a) (λ image. test_goes _ _ (return_goes image))

-- find: the key has to be seen among the pairs
look_goes : (k : List ℕ) (ps : List PairAt) → Goes (look_up k ps) (λ m s. unless 29 (seen k (map pair_of ps)) ∷ []) (λ m s. value_of k ps) (λ m s. s)
unfolding look_up seen value_of test ◌>>◌ return
look_goes k [] = test_goes 29 false (return_goes (record { start = 0; bytes = [] }))
look_goes k (p ∷ ps) = here (same_bytes k p.key.bytes) (look_goes k ps)
  where
    here : (b : Bool) → Goes (look_up k ps) (λ m s. unless 29 (seen k (map pair_of ps)) ∷ []) (λ m s. value_of k ps) (λ m s. s)
        → Goes (λ l s. elim b as (λ x. ReadResult Part) [ true ↦ success p.value l s | false ↦ look_up k ps l s ]) (λ m s. unless 29 (b || seen k (map pair_of ps)) ∷ []) (λ m s. cond b p.value (value_of k ps)) (λ m s. s)
    here true h = test_goes 29 true (return_goes p.value)
    here false h = h

find_goes : (k : List ℕ) → Goes (find_value k) (find_list k) (value_here k) entry_end
unfolding find_value find_list
find_goes k = bind_goes (context_goes tolerant) (look_goes k)

-- the bytes that are only authenticated
only_authenticated_goes : (text required : List ℕ) (room : ℕ)
    → Goes (write_only_authenticated text required room) (only_authenticated_list text required room) (λ m s. only_authenticated text required (section_pairs m s)) entry_end
unfolding write_only_authenticated fitting only_authenticated_list
only_authenticated_goes text required room = bind_goes (context_goes tolerant) (λ ps. test_goes _ _ (test_goes _ _ (return_goes _)))

-- an authentication record; true: version 1
auth_of_goes : (b : Bool) → Goes (read_header_auth_tag_of b) (λ m s. cond b (lacks 12 m s ∷ lacks 16 m (s + 12) ∷ []) (lacks 16 m s ∷ [])) (auth_of_here b) (λ m s. cond b (s + 12 + 16) (s + 16))
unfolding read_header_auth_tag_of auth_of_here
auth_of_goes true = bind_goes (read_goes 12) (λ iv. bind_goes (read_goes 16) (λ tag. return_goes _))
auth_of_goes false = bind_goes (read_goes 16) (λ tag. return_goes _)

auth_goes : (suite : ℕ) → Goes (read_header_auth_tag suite) (auth_list suite) (auth_here suite) (auth_end suite)
unfolding read_header_auth_tag auth_list
auth_goes suite = test_goes _ _ (auth_of_goes (eqb (suite_version suite) 1))

-- an operation: 1, and then its list
module _ {A : Type 0} {r : Reader A} {list : List ℕ → ℕ → List Line} {value : List ℕ → ℕ → A} {end : List ℕ → ℕ → ℕ} (h : Goes r list value end) (m : List ℕ) (s : ℕ) where
  abbrev lines : List Line
  lines = operation_list list m s

  abbrev Says : Option Line → Answer A → Type 0
  Says none o = o ≡ accepted (value m s) (end m s)
  Says (some x) o = o ≡ refused x.number x.position

  says : (x : Option Line) → first_line lines ≡ x → Says x (operation r m s)
  unfolding operation at first_line
  says x e = by (addressable m s) x e
    where
      here : (x : Option Line) → first_line (list m s) ≡ x → Says x (answer (r (drop s m) s))
      here none e = rw (h.passes m s e) refl
      here (some x) e = h.stops m s x e

      by : (b : Bool) (x : Option Line) → first_line (unless 1 b ∷ list m s) ≡ x → Says x (elim b as (λ c. Answer A) [ true ↦ answer (r (drop s m) s) | false ↦ refused 1 0 ])
      by true x e = here x e
      by false none e = let z : ◌≡◌ {A = ℕ} 0 1 = cc in absurd (omega arith)
      by false (some x) e = let z : unless 1 false ≡ x = cc in rw (← z) refl

  pub first_refusal : FirstRefusal r list value end m s
  first_refusal =
      record {
        refuses = λ k p e. found k p e (first_line lines) refl;
        applies = λ k p f. let (w, e, n, q) = applies_first lines k p f in rw (n, q) at (says (some w) e);
        accepts = λ f. says none (applies_none lines f);
      }
    where
      found : (k p : ℕ) → operation r m s ≡ refused k p → (x : Option Line) → first_line lines ≡ x → FirstApplies lines k p
      found k p e none q = let z : ◌≡◌ {A = Answer A} (refused k p) (accepted (value m s) (end m s)) = sym e ∙ says none q in refused_is_no_accepted z
      found k p e (some x) q =
          let z : ◌≡◌ {A = Answer A} (refused x.number x.position) (refused k p) = sym (says (some x) q) ∙ e in
          let a : x.number ≡ k = cc in
          let b : x.position ≡ p = cc in
          rw (a, b) at (first_applies lines x q)

  -- and an operation that accepts had no line that applies
  pub none_applied : (a : A) (t : ℕ) → operation r m s ≡ accepted a t → NoneApplies lines × (end m s ≡ t)
  none_applied a t e = by (first_line lines) refl
    where
      by : (x : Option Line) → first_line lines ≡ x → NoneApplies lines × (end m s ≡ t)
      by none q =
          let z : ◌≡◌ {A = Answer A} (accepted (value m s) (end m s)) (accepted a t) = sym (says none q) ∙ e in
          let w : end m s ≡ t = cc in
          (none_applies lines q, w)
      by (some x) q = refused_is_no_accepted (sym (says (some x) q) ∙ e)

pub first_refusals : FirstRefusals
first_refusals =
    record {
      of_context = λ mode room. first_refusal (context_into_goes mode room);
      of_find = λ k. first_refusal (find_goes k);
      of_only_authenticated = λ text required room. first_refusal (only_authenticated_goes text required room);
      of_drop = λ id. first_refusal (drop_goes id);
      of_add = λ k room. first_refusal (add_goes k room);
      of_reissued = λ a. first_refusal (reissued_goes a);
      of_reissue = λ a room. first_refusal (reissue_goes a room);
      of_keys = λ max room. first_refusal (keys_into_goes max room);
      of_body = λ q. first_refusal (body_goes q);
      of_auth = λ suite. first_refusal (auth_goes suite);
      of_frames = λ frame room. first_refusal (frames_into_goes frame room);
    }
