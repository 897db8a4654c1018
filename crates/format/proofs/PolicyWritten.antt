-- With a policy the body writer answers, leaves and tells as without one, except 39. Assumes nothing.
use mathlib.Core.Path.{◌≡◌, refl, sym, ◌∙◌}
use mathlib.Core.Bool.{Bool, true, false, not, cond}
use mathlib.Core.Option.{Option, none, some}
use mathlib.Core.List.{List, ◌∷◌, ◌++◌}
use Prim.Native.Nat.{ℕ}
use native.Mathlib.Omega.{arith}
use Rattle.format.specs.Read.{refused}
use Rattle.format.specs.Policies.{Policy, no_policy, lets_write}
use Rattle.format.specs.Checks.{Check, check, first, lead_checks, body_checks_under}
use Rattle.format.specs.Lent.{written_of, written, size_of, output_of, output_after, refusal_of, BodyToWrite, fields_to_write, writing_header_body_under, writing_header_body}
use Rattle.format.specs.Size.{size_refusals, writing_policy_refusals}
use Rattle.format.specs.Pinned.{Decides}
use Rattle.format.specs.UnderPolicy.{forbids_checked, forbids_writing, Writes}
use Rattle.format.proofs.Members.{no_member}
use Rattle.format.proofs.Firsts.{first_stop, first_none, first_some}
use Rattle.format.proofs.Size.{size_laws}
use Rattle.format.proofs.PolicyRead.{replaced, not_let}

-- the check of the policy among others
checked_first : (policy : Policy) (version : ℕ) (xs ys : List Check)
    → first (xs ++ (check 39 (lets_write policy version) ∷ ys)) ≡ cond (forbids_checked policy version (first xs)) (some 39) (first (xs ++ (check 39 true ∷ ys)))
checked_first policy version xs ys = go (first xs) refl
  where
    here : (b : Bool) → first (check 39 b ∷ ys) ≡ cond (not b) (some 39) (first (check 39 true ∷ ys))
    here true = refl
    here false = first_stop 39 false ys refl

    go : (o : Option ℕ) → first xs ≡ o → first (xs ++ (check 39 (lets_write policy version) ∷ ys)) ≡ cond (forbids_checked policy version o) (some 39) (first (xs ++ (check 39 true ∷ ys)))
    go none e = rw (first_none xs (check 39 (lets_write policy version) ∷ ys) e, first_none xs (check 39 true ∷ ys) e) (here (lets_write policy version))
    go (some k) e = first_some xs (check 39 (lets_write policy version) ∷ ys) k e ∙ sym (first_some xs (check 39 true ∷ ys) k e)

told : (b : Bool) (k : ℕ) (o : Option ℕ) (image : List ℕ) → written_of (cond b (some k) o) image ≡ cond b (refused k 0) (written_of o image)
told true k o image = refl
told false k o image = refl

left : (b : Bool) (k : ℕ) (o : Option ℕ) (image out : List ℕ) → output_of (cond b (some k) o) image out ≡ cond b out (output_of o image out)
left true k o image out = refl
left false k o image out = refl

module _ (policy : Policy) (b : BodyToWrite) where
  refusal : (out : List ℕ) → refusal_of (writing_header_body_under policy b) out ≡ cond (forbids_writing policy b) (some 39) (refusal_of (writing_header_body b) out)
  unfolding refusal_of writing_header_body_under body_checks_under fields_to_write forbids_writing
  refusal out = checked_first policy b.version (lead_checks b.version b.messageType b.suite) _

  found : first (writing_header_body_under policy b).checks ≡ cond (forbids_writing policy b) (some 39) (first (writing_header_body b).checks)
  unfolding writing_header_body_under body_checks_under fields_to_write forbids_writing
  found = checked_first policy b.version (lead_checks b.version b.messageType b.suite) _

  same_image : (writing_header_body_under policy b).image ≡ (writing_header_body b).image
  unfolding writing_header_body_under
  same_image = refl

  size : size_of (writing_header_body_under policy b) ≡ cond (forbids_writing policy b) (refused 39 0) (size_of (writing_header_body b))
  size = rw (found, same_image) (told (forbids_writing policy b) 39 (first (writing_header_body b).checks) (writing_header_body b).image)

  pub answer_of : (out : List ℕ) → written (writing_header_body_under policy b) out ≡ cond (forbids_writing policy b) (refused 39 0) (written (writing_header_body b) out)
  answer_of out = rw (refusal out, same_image) (told (forbids_writing policy b) 39 (refusal_of (writing_header_body b) out) (writing_header_body b).image)

  pub output : (out : List ℕ) → output_after (writing_header_body_under policy b) out ≡ cond (forbids_writing policy b) out (output_after (writing_header_body b) out)
  output out = rw (refusal out, same_image) (left (forbids_writing policy b) 39 (refusal_of (writing_header_body b) out) (writing_header_body b).image out)

  never_written : (p : ℕ) → size_of (writing_header_body b) ≡ refused 39 p → ⊥
  unfolding size_refusals writing_policy_refusals
  never_written p e = no_member (size_refusals no_policy) 39 refl (size_laws.of_body no_policy b 39 p e).0

  pub writes : Writes policy b
  writes = record { answer = answer_of; output = output; size = size; image = same_image; just_there = replaced 39 (forbids_writing policy b) size never_written }

  then_checked : (o : Option ℕ) → forbids_checked policy b.version o ≡ true → (o ≡ none) × (lets_write policy b.version ≡ false)
  then_checked none e = (refl, not_let _ e)
  then_checked (some k) e = let z : ◌≡◌ {A = ℕ} 0 1 = cc in absurd (omega arith)

  pub forbids_checks : Decides (forbids_writing policy b) ((first (lead_checks b.version b.messageType b.suite) ≡ none) × (lets_write policy b.version ≡ false))
  unfolding forbids_writing
  forbids_checks = record { then_holds = then_checked (first (lead_checks b.version b.messageType b.suite)); holds_then = λ h. rw (h.0, h.1) refl }
