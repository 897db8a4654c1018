-- Which refusals what stands before a body's sections and behind them can answer. Assumes nothing.
use mathlib.Core.Path.{◌≡◌, refl, sym, ap, ◌∙◌}
use mathlib.Core.Bool.{Bool, true, false, not, ◌||◌}
use mathlib.Core.Logic.{◌⊎◌, inl, inr}
use mathlib.Core.Option.{Option, none, some}
use mathlib.Core.List.{List, [], ◌∷◌, ◌++◌}
use Prim.Native.Nat.{ℕ}
use lib.Dec.{eqb}
use Rattle.format.specs.Read.{Reader, ◌>>◌, return, test}
use Rattle.format.specs.Shared.{read_message_format_version, read_esdk_suite_id, read_content_type}
use Rattle.format.specs.Keys.{Max, no_max, at_most, within}
use Rattle.format.specs.Policies.{Policy, no_policy, forbid_encrypt_allow_decrypt, require_encrypt_allow_decrypt, require_encrypt_require_decrypt, lets_read}
use Rattle.format.specs.Body.{Which, either, v1_only, v2_only, Lead, read_lead_of, read_lead, Opening, after_lead, read_opening, read_closing_of, read_closing, Request}
use Rattle.format.specs.Refusals.{lead_refusals, forbidden_refusals, opening_refusals, passing, reserved_refusals, frame_refusals, room_refusals, closing_refusals}
use Rattle.format.proofs.Tests.{never, is_eqb}
use Rattle.format.proofs.Members.{has, has_neither}
use Rattle.format.proofs.ListedLaws.{Listed, also, bind_listed, then_listed, behind_listed, return_listed, sure_listed, test_listed, read_listed, uint8_listed, uint16_listed, uint32_listed, Gives, return_gives, given_gives, bind_gives, passed_listed, passed_gives, given_listed}

suite_listed : (version : ℕ) → Listed (6 ∷ 7 ∷ []) (read_esdk_suite_id version)
unfolding read_esdk_suite_id
suite_listed version = bind_listed uint16_listed (λ x. then_listed (test_listed 6 _) (then_listed (test_listed 7 _) (return_listed _)))

-- after the version byte, in version 2 and in either
second_listed : Listed (6 ∷ 7 ∷ []) (read_lead_of false)
unfolding read_lead_of
second_listed = bind_listed (suite_listed 2) (λ x. return_listed _)

rest_listed : (v1 : Bool) → Listed (5 ∷ 6 ∷ 7 ∷ []) (read_lead_of v1)
unfolding read_lead_of
rest_listed true = bind_listed uint8_listed (λ t. then_listed (test_listed 5 _) (bind_listed (suite_listed 1) (λ x. return_listed _)))
rest_listed false = also 5 second_listed

version_listed : Listed (3 ∷ []) read_message_format_version
unfolding read_message_format_version
version_listed = bind_listed uint8_listed (λ v. then_listed (test_listed 3 _) (return_listed _))

not_one : (v : ℕ) → eqb v 2 ≡ true → eqb v 1 ≡ false
not_one v e = rw (is_eqb v 2 e) refl

lead_listed : (which : Which) → Listed (lead_refusals which) (read_lead which)
unfolding read_lead lead_refusals
lead_listed either = bind_listed version_listed (λ v. then_listed (sure_listed 4 refl) (rest_listed (eqb v 1)))
lead_listed v1_only = bind_listed version_listed (λ v. then_listed (test_listed 4 _) (rest_listed (eqb v 1)))
lead_listed v2_only = bind_listed version_listed (λ v. passed_listed 4 (eqb v 2) (λ e. rw (not_one v e) second_listed))

-- of which version the leading fields are
abbrev Led : Which → ℕ → Type 0
Led either version = (version ≡ 1) ⊎ (version ≡ 2)
Led v1_only version = version ≡ 1
Led v2_only version = version ≡ 2

first_gives : Gives (λ (l : Lead). l.version ≡ 1) (read_lead_of true)
unfolding read_lead_of
first_gives = bind_gives _ (λ t. passed_gives 5 _ (λ e. bind_gives _ (λ x. return_gives _ refl)))

second_gives : Gives (λ (l : Lead). l.version ≡ 2) (read_lead_of false)
unfolding read_lead_of
second_gives = bind_gives _ (λ x. return_gives _ refl)

rest_gives : (v1 : Bool) → Gives (λ (l : Lead). (l.version ≡ 1) ⊎ (l.version ≡ 2)) (read_lead_of v1)
rest_gives true = record { given = λ l s o l' t e. inl (first_gives.given l s o l' t e) }
rest_gives false = record { given = λ l s o l' t e. inr (second_gives.given l s o l' t e) }

lead_gives : (which : Which) → Gives (λ (l : Lead). Led which l.version) (read_lead which)
unfolding read_lead
lead_gives either = bind_gives _ (λ v. passed_gives 4 true (λ e. rest_gives (eqb v 1)))
lead_gives v1_only = bind_gives _ (λ v. passed_gives 4 (eqb v 1) (λ e. rw e first_gives))
lead_gives v2_only = bind_gives _ (λ v. passed_gives 4 (eqb v 2) (λ e. rw (not_one v e) second_gives))

-- version 2 is forbidden by no policy
pub two_read : (policy : Policy) → lets_read policy 2 ≡ true
two_read no_policy = refl
two_read forbid_encrypt_allow_decrypt = refl
two_read require_encrypt_allow_decrypt = refl
two_read require_encrypt_require_decrypt = refl

-- 39, by whether version 1 is let be read
module _ (policy : Policy) (version : ℕ) where
  first_let : lets_read policy 1 ≡ true → version ≡ 1 → lets_read policy version ≡ true
  first_let e h = ap (lets_read policy) h ∙ e

  second_let : version ≡ 2 → lets_read policy version ≡ true
  second_let h = ap (lets_read policy) h ∙ two_read policy

  forbidden_listed : (b : Bool) → lets_read policy 1 ≡ b → (which : Which) → Led which version → Listed (forbidden_refusals b which) (test 39 (lets_read policy version))
  unfolding forbidden_refusals
  forbidden_listed true e either (inl h) = sure_listed 39 (first_let e h)
  forbidden_listed true e either (inr h) = sure_listed 39 (second_let h)
  forbidden_listed true e v1_only h = sure_listed 39 (first_let e h)
  forbidden_listed true e v2_only h = sure_listed 39 (second_let h)
  forbidden_listed false e either h = test_listed 39 _
  forbidden_listed false e v1_only h = test_listed 39 _
  forbidden_listed false e v2_only h = sure_listed 39 (second_let h)

pub opening_listed : (which : Which) (policy : Policy) → Listed (opening_refusals which policy) (read_opening which policy)
unfolding read_opening after_lead opening_refusals
opening_listed which policy =
    given_listed (lead_listed which) (lead_gives which) (λ l g.
    behind_listed (forbidden_listed policy l.version (lets_read policy 1) refl which g) (bind_listed (read_listed _) (λ id. return_listed _)))

-- of which version what was opened is
abbrev pub Opened : Option Which → ℕ → Type 0
Opened none version = ⊥
Opened (some either) version = Unit {0}
Opened (some v1_only) version = Unit {0}
Opened (some v2_only) version = version ≡ 2

passes : (policy : Policy) (version : ℕ) → lets_read policy version ≡ true → (b : Bool) → lets_read policy 1 ≡ b → (which : Which) → Led which version → Opened (passing b which) version
unfolding passing
passes policy version let_it true e either h = tt
passes policy version let_it true e v1_only h = tt
passes policy version let_it true e v2_only h = h
passes policy version let_it false e either (inl h) = never (ap (lets_read policy) (sym h) ∙ let_it) e
passes policy version let_it false e either (inr h) = h
passes policy version let_it false e v1_only h = never (ap (lets_read policy) (sym h) ∙ let_it) e
passes policy version let_it false e v2_only h = h

pub opening_gives : (which : Which) (policy : Policy) → Gives (λ (o : Opening). Opened (passing (lets_read policy 1) which) o.version) (read_opening which policy)
unfolding read_opening after_lead
opening_gives which policy =
    given_gives (lead_gives which) (λ l g. passed_gives 39 _ (λ e. bind_gives _ (λ id. return_gives _ (passes policy l.version e (lets_read policy 1) refl which g))))

content_listed : Listed (17 ∷ []) read_content_type
unfolding read_content_type
content_listed = bind_listed uint8_listed (λ v. then_listed (test_listed 17 _) (return_listed _))

second_closing_listed : (content : ℕ) → Listed [] (read_closing_of false content)
unfolding read_closing_of
second_closing_listed content = bind_listed uint32_listed (λ f. bind_listed (read_listed _) (λ x. return_listed _))

closing_of_listed : (v1 : Bool) (content : ℕ) → Listed (18 ∷ 19 ∷ []) (read_closing_of v1 content)
unfolding read_closing_of
closing_of_listed true content =
    bind_listed uint32_listed (λ r. then_listed (test_listed 18 _) (bind_listed uint8_listed (λ i. then_listed (test_listed 19 _) (bind_listed uint32_listed (λ f. return_listed _)))))
closing_of_listed false content = also 18 (also 19 (second_closing_listed content))

pub closing_listed : (which : Which) (version : ℕ) → Opened (some which) version → Listed (17 ∷ reserved_refusals which) (read_closing (eqb version 1))
unfolding read_closing reserved_refusals
closing_listed either version h = bind_listed content_listed (closing_of_listed _)
closing_listed v1_only version h = bind_listed content_listed (closing_of_listed _)
closing_listed v2_only version h = rw h (bind_listed content_listed second_closing_listed)

room_listed : (k : ℕ) (max : Max) (n : ℕ) → Listed (room_refusals k max) (test k (within n max))
unfolding room_refusals
room_listed k no_max n = sure_listed k refl
room_listed k (at_most room) n = test_listed k _

pub tables_listed : (p k : Max) (n j : ℕ) {A : Type 0} (a : A) → Listed (room_refusals 22 p ++ room_refusals 23 k) (test 22 (within n p) >> (test 23 (within j k) >> return a))
tables_listed p k n j a = then_listed (room_listed 22 p n) (behind_listed (room_listed 23 k j) (return_listed a))

pub frames_listed : (frames fits : Bool) {A : Type 0} {ks : List ℕ} {r : Reader A} → Listed ks r → Listed (frame_refusals frames ++ ks) (test 20 (not frames || fits) >> r)
unfolding frame_refusals
frames_listed true fits h = then_listed (test_listed 20 _) h
frames_listed false fits h = then_listed (sure_listed 20 refl) h

-- What stands before a body's sections and behind them, by what was asked: 2 is listed by itself, 32 is a context section's, 38 a key section's, and
-- 13 only a writer's.
abbrev pub Without : ℕ → List ℕ → Type 0
Without k ks = has ks k ≡ false

abbrev pub WithoutThese : List ℕ → Type 0
WithoutThese ks = Without 2 ks × Without 13 ks × Without 32 ks × Without 38 ks

lead_without : (which : Which) → WithoutThese (lead_refusals which)
unfolding lead_refusals
lead_without either = (refl, refl, refl, refl)
lead_without v1_only = (refl, refl, refl, refl)
lead_without v2_only = (refl, refl, refl, refl)

forbidden_without : (b : Bool) (which : Which) → WithoutThese (forbidden_refusals b which)
unfolding forbidden_refusals
forbidden_without true which = (refl, refl, refl, refl)
forbidden_without false either = (refl, refl, refl, refl)
forbidden_without false v1_only = (refl, refl, refl, refl)
forbidden_without false v2_only = (refl, refl, refl, refl)

reserved_without : (which : Which) → WithoutThese (reserved_refusals which)
unfolding reserved_refusals
reserved_without either = (refl, refl, refl, refl)
reserved_without v1_only = (refl, refl, refl, refl)
reserved_without v2_only = (refl, refl, refl, refl)

frame_without : (frames : Bool) → WithoutThese (frame_refusals frames)
unfolding frame_refusals
frame_without true = (refl, refl, refl, refl)
frame_without false = (refl, refl, refl, refl)

room_without : (k : ℕ) → WithoutThese (k ∷ []) → (max : Max) → WithoutThese (room_refusals k max)
unfolding room_refusals
room_without k h no_max = (refl, refl, refl, refl)
room_without k h (at_most room) = h

joined : (ks js : List ℕ) → WithoutThese ks → WithoutThese js → WithoutThese (ks ++ js)
joined ks js (a, b, c, d) (e, f, g, h) = (has_neither ks js 2 a e, has_neither ks js 13 b f, has_neither ks js 32 c g, has_neither ks js 38 d h)

pub opening_without : (which : Which) (policy : Policy) → WithoutThese (opening_refusals which policy)
unfolding opening_refusals
opening_without which policy = joined (lead_refusals which) (forbidden_refusals (lets_read policy 1) which) (lead_without which) (forbidden_without (lets_read policy 1) which)

pub closing_without : (which : Which) (q : Request) → WithoutThese (closing_refusals which q)
unfolding closing_refusals
closing_without which q =
    let pairs = room_refusals 22 q.pairRoom in
    let keys = room_refusals 23 q.keyRoom in
    let frames = frame_refusals q.frames in
    joined (17 ∷ []) (reserved_refusals which ++ (frames ++ (pairs ++ keys))) (refl, refl, refl, refl)
    (joined (reserved_refusals which) (frames ++ (pairs ++ keys)) (reserved_without which)
    (joined frames (pairs ++ keys) (frame_without q.frames)
    (joined pairs keys (room_without 22 (refl, refl, refl, refl) q.pairRoom) (room_without 23 (refl, refl, refl, refl) q.keyRoom))))
