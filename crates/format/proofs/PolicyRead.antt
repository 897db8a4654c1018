-- With a policy a body reader answers as without one, except 39; and the images of the two writers. Assumes nothing.
use mathlib.Core.Path.{◌≡◌, refl, sym, ap, ◌∙◌}
use mathlib.Core.Bool.{Bool, true, false, not, cond}
use mathlib.Core.List.{List}
use Prim.Native.Nat.{ℕ, ◌+◌, ◌≤◌}
use native.Mathlib.Omega.{arith}
use lib.Dec.{eqb}
use lib.ListN.{length, drop}
use Rattle.format.specs.Read.{ReadResult, success, more_needed, error, go_on, ◌>>=◌, ◌>>◌, return, test, Answer, accepted, refused, answer, at, addressable, operation}
use Rattle.format.specs.Serialize.{Bytes, read}
use Rattle.format.specs.Shared.{id_length}
use Rattle.format.specs.Fields.{Fields, HeaderBody}
use Rattle.format.specs.Context.{Mode, tolerant, strict}
use Rattle.format.specs.Keys.{Max}
use Rattle.format.specs.Policies.{Policy, no_policy, lets_read}
use Rattle.format.specs.Body.{Which, either, v1_only, v2_only, tests_frames, Lead, read_lead, after_lead, read_opening, Request, request_under, request, after_keys, after_context, after_opening, read_body, read_header_body_under, read_header_body}
use Rattle.format.specs.Lent.{pair_table_after, key_table_after, pair_numbers, key_numbers}
use Rattle.format.specs.Places.{number8}
use Rattle.format.specs.First.{NoneApplies, operation_list, lead_list}
use Rattle.format.specs.Refusals.{section_refusals, key_section_refusals, lead_refusals, forbidden_refusals, passing, numbers_behind, opening_refusals, reserved_refusals, frame_refusals, room_refusals, closing_refusals, body_refusals}
use Rattle.format.specs.Demand3.{Writer, Stands}
use Rattle.format.specs.Lengths.{JustWhere}
use Rattle.format.specs.Pinned.{Decides}
use Rattle.format.specs.UnderPolicy.{forbids_of, forbids_reading, Reads, ReadsImages}
use Rattle.format.proofs.Members.{has}
use Rattle.format.proofs.Ends.{version_is}
use Rattle.format.proofs.Lines.{one_none, applies_none}
use Rattle.format.proofs.Messages.{refused_is_no_accepted}
use Rattle.format.proofs.FirstBody.{lead_here, id_start, lead_goes, lead_version, versioned, first_refusal, none_applied}
use Rattle.format.proofs.Listed.{never_listed, refusals}
use Rattle.format.proofs.Strict.{same_table}
use Rattle.format.proofs.Tests.{never}
use Rattle.format.proofs.Either as either_version

-- an answer of which one case is replaced
module _ {A : Type 0} where
  pub kept : (b : Bool) (k : ℕ) {x : Answer A} {a : A} {t : ℕ} → cond b (refused k 0) x ≡ accepted a t → (b ≡ false) × (x ≡ accepted a t)
  kept true k e = refused_is_no_accepted e
  kept false k e = (refl, e)

  pub replaced : (k : ℕ) (b : Bool) {x y : Answer A} → y ≡ cond b (refused k 0) x → ((p : ℕ) → x ≡ refused k p → ⊥) → JustWhere (y ≡ refused k 0) (b ≡ true)
  replaced k b {x} e never = record { onward = λ h. by b (sym e ∙ h); back = λ h. e ∙ rw h refl }
    where
      by : (b : Bool) → cond b (refused k 0) x ≡ refused k 0 → b ≡ true
      by true h = refl
      by false h = absurd (never 0 h)

pub not_let : (b : Bool) → not b ≡ true → b ≡ false
not_let true e = sym e
not_let false e = refl

-- what stands behind the leading fields, by whether the policy lets the version be read
module _ (policy : Policy) (which : Which) (mode : Mode) (max : Max) (pairRoom keyRoom : ℕ) (m : List ℕ) (s : ℕ) where
  abbrev asks : Policy → Request
  asks p = request_under p which mode (tests_frames which) max pairRoom keyRoom

  by_lead : (x : ReadResult Lead) → answer (go_on (go_on x (after_lead policy)) (after_opening (asks policy)))
      ≡ cond (forbids_of policy (answer x)) (refused 39 0) (answer (go_on (go_on x (after_lead no_policy)) (after_opening (asks no_policy))))
  unfolding after_lead after_opening after_context after_keys test ◌>>◌
  by_lead (success l r t) = go (lets_read policy l.version)
    where
      go : (b : Bool) → answer (go_on ((test 39 b >> (read (id_length l.version) >>= λ id. return (record { version = l.version; messageType = l.messageType; suite = l.suite; messageId = id }))) r t) (after_opening (asks policy)))
          ≡ cond (not b) (refused 39 0) (answer (go_on ((test 39 true >> (read (id_length l.version) >>= λ id. return (record { version = l.version; messageType = l.messageType; suite = l.suite; messageId = id }))) r t) (after_opening (asks no_policy))))
      go true = refl
      go false = refl
  by_lead (more_needed p) = refl
  by_lead (error k) = refl

  answers : operation (read_header_body_under policy which mode max pairRoom keyRoom) m s
      ≡ cond (forbids_reading policy which m s) (refused 39 0) (operation (read_header_body which mode max pairRoom keyRoom) m s)
  unfolding read_header_body_under read_body read_opening forbids_reading ◌>>=◌ operation at
  answers = go (addressable m s)
    where
      go : (b : Bool) → elim b as (λ x. Answer HeaderBody) [ true ↦ answer (read_body (asks policy) (drop s m) s) | false ↦ refused 1 0 ]
          ≡ cond {A = Answer HeaderBody} (forbids_of policy (elim b as (λ x. Answer Lead) [ true ↦ answer (read_lead which (drop s m) s) | false ↦ refused 1 0 ])) (refused 39 0)
          (elim b as (λ x. Answer HeaderBody) [ true ↦ answer (read_body (asks no_policy) (drop s m) s) | false ↦ refused 1 0 ])
      go true = by_lead (read_lead which (drop s m) s)
      go false = refl

  -- without a policy 39 is not listed
  never_39 : (p : ℕ) → operation (read_header_body which mode max pairRoom keyRoom) m s ≡ refused 39 p → ⊥
  unfolding read_header_body_under body_refusals opening_refusals lead_refusals forbidden_refusals passing numbers_behind section_refusals key_section_refusals closing_refusals reserved_refusals frame_refusals room_refusals
  never_39 p = never_listed 39 _ (unlisted which mode) (read_body (asks no_policy)) (refusals.of_body (asks no_policy)) m s p
    where
      unlisted : (which : Which) (mode : Mode) → has (body_refusals (request which mode (tests_frames which) max pairRoom keyRoom)) 39 ≡ false
      unlisted either tolerant = refl
      unlisted either strict = refl
      unlisted v1_only tolerant = refl
      unlisted v1_only strict = refl
      unlisted v2_only tolerant = refl
      unlisted v2_only strict = refl

  pub reads : Reads policy which mode max pairRoom keyRoom m s
  reads =
      record {
        answers = answers;
        pair_table = λ table. ap (λ a. pair_table_after a table) answers ∙ same_table (λ (b : HeaderBody). pair_numbers b.pairs) (forbids_reading policy which m s) 39 _ table;
        key_table = λ table. ap (λ a. key_table_after a table) answers ∙ same_table (λ (b : HeaderBody). key_numbers b.keys) (forbids_reading policy which m s) 39 _ table;
        just_there = replaced 39 (forbids_reading policy which m s) answers never_39;
        accepts_less = λ b t e. (kept (forbids_reading policy which m s) 39 (sym answers ∙ e)).1;
      }

-- the images
module _ (policy : Policy) (max : Max) (pairRoom keyRoom : ℕ) (m : List ℕ) (s : ℕ) (hb : Bytes m) where
  -- where it is forbidden, what would be accepted without a policy is refused
  forbidden : length m ≤ 4294967295 → (w : Writer) (f : Fields) → Stands max pairRoom keyRoom m s w f → lets_read policy f.version ≡ false
      → operation (read_header_body_under policy either tolerant max pairRoom keyRoom) m s ≡ refused 39 0
  forbidden fits w f h forbids_it = go (forbids_reading policy either m s) refl
    where
      go : (b : Bool) → forbids_reading policy either m s ≡ b → operation (read_header_body_under policy either tolerant max pairRoom keyRoom) m s ≡ refused 39 0
      go true e = answers policy either tolerant max pairRoom keyRoom m s ∙ rw e refl
      go false e =
          let (b, is, gives, form) = either_version.all no_policy max pairRoom keyRoom m s fits w f h refl in
          let under = answers policy either tolerant max pairRoom keyRoom m s ∙ ap (λ c. cond c (refused 39 0) (operation (read_header_body either tolerant max pairRoom keyRoom) m s)) e ∙ is in
          let (w', f', stands, lets, gives', mark, tail) = either_version.only policy max pairRoom keyRoom m s hb b _ under in
          let same : f ≡ f' = sym gives.fields ∙ gives'.fields in
          never (ap (λ (g : Fields). lets_read policy g.version) same ∙ lets) forbids_it

  pub images : ReadsImages policy max pairRoom keyRoom m s
  images =
      record {
        only = λ fits b t e. either_version.only policy max pairRoom keyRoom m s hb b t e;
        all = either_version.all policy max pairRoom keyRoom m s;
        forbidden = forbidden;
      }

-- good up to 7 and forbidden, by the list
module _ (policy : Policy) (which : Which) (m : List ℕ) (s : ℕ) where
  abbrev Forbids : Type 0
  Forbids = NoneApplies (operation_list (lead_list which) m s) × (lets_read policy (number8 m s) ≡ false)

  -- the version of the leading fields that stand there
  version_there : NoneApplies (operation_list (lead_list which) m s) → (lead_here (eqb (number8 m s) 1) m (s + 1)).version ≡ number8 m s
  version_there h = lead_version (eqb (number8 m s) 1) m (s + 1) ∙ version_is (number8 m s) (versioned which m s (one_none _ _ (applies_none _ h)).1)

  stands_there : NoneApplies (operation_list (lead_list which) m s) → operation (read_lead which) m s ≡ accepted (lead_here (eqb (number8 m s) 1) m (s + 1)) (id_start (eqb (number8 m s) 1) (s + 1))
  stands_there h = (first_refusal (lead_goes which) m s).accepts h

  then_forbids : (a : Answer Lead) → operation (read_lead which) m s ≡ a → forbids_of policy a ≡ true → Forbids
  then_forbids (accepted l t) q e =
      let n = (none_applied (lead_goes which) m s l t q).0 in
      let z = sym q ∙ stands_there n in
      let v : l ≡ lead_here (eqb (number8 m s) 1) m (s + 1) = cc in
      let same : l.version ≡ number8 m s = ap (λ (x : Lead). x.version) v ∙ version_there n in
      (n, not_let _ (rw same at e))
  then_forbids (refused k p) q e = let z : ◌≡◌ {A = ℕ} 0 1 = cc in absurd (omega arith)

  pub forbids : Decides (forbids_reading policy which m s) Forbids
  unfolding forbids_reading
  forbids = record { then_holds = then_forbids (operation (read_lead which) m s) refl; holds_then = λ h. rw (stands_there h.0, version_there h.0, h.1) refl }
