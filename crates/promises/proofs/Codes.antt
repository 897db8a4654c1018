-- What the codes of answers keep: a refusal stands apart from what is accepted, and leaves what is lent. Assumes nothing.
use Prim.Native.Nat.{ℕ}
use mathlib.Core.Path.{◌≡◌, refl, sym, ◌∙◌}
use mathlib.Core.Bool.{Bool, true, false, cond}
use mathlib.Core.List.{List}
use lib.ListN.{length}
use Rattle.std.specs.Prelude.{Result, Ok, Err}
use Rattle.format.specs.Read.{Answer, accepted, refused}
use Rattle.wire.specs.Codes.{because, read_of}
use Rattle.wire.specs.declared.refusals.Refusal.{Refusal}
use Rattle.wire.proofs.Answers.{read_no}
use Rattle.entries.specs.Codes.{Reads}
use Rattle.context.specs.Codes.{found_of}
use Rattle.context.proofs.Answers.{found_no}
use Rattle.checks.specs.Answers.{write_answer_of, written_as}
use Rattle.checks.proofs.Writers.{refused_is}

pub record Keeps {A T : Type 0} (code : Answer A → Result T Refusal) : Type 0 where
  pub back : (o : Answer A) (q : Refusal) → code o ≡ Err q → o ≡ refused q.number q.position
  pub there : (k p : ℕ) → code (refused k p) ≡ Err (because k p)

pub as_read : {A T : Type 0} (f : A → T) → Keeps (read_of f)
as_read f = record { back = λ o q e. read_no f o (read_of f o) refl q e; there = λ k p. refl }

pub as_found : Keeps found_of
as_found = record { back = λ o q e. found_no o (found_of o) refl q e; there = λ k p. refl }

pub as_told : Keeps write_answer_of
as_told = record { back = λ o q e. refused_is (write_answer_of o) o refl q e; there = λ k p. refl }

pub as_written : Keeps written_as
as_written = record { back = back; there = λ k p. refl }
  where
    back : (o : Answer (List ℕ)) (q : Refusal) → written_as o ≡ Err q → o ≡ refused q.number q.position
    back (accepted image t) q e = cc
    back (refused k p) q e = let z : because k p ≡ q = cc in rw (← z) refl

-- what one that writes an image wrote
pub image_of : (o : Answer (List ℕ)) (n : ℕ) → written_as o ≡ Ok n → (image : List ℕ) × (t : ℕ) × (o ≡ accepted image t) × (n ≡ length image)
image_of (accepted image t) n e = (image, t, refl, cc)
image_of (refused k p) n e = cc

-- the contract of a call, by what the definition answers
pub answering : {A R : Type 0} {code : Answer A → R} {numbers : A → List ℕ} {o o' : Answer A} {before after : List ℕ} {r : R} → Reads code numbers o before after r → o ≡ o' → Reads code numbers o' before after r
answering call e = rw e at call

module _ {A T : Type 0} {code : Answer A → Result T Refusal} (keeps : Keeps code) where
  pub kept : (numbers : A → List ℕ) (o : Answer A) (before after : List ℕ) (r : Result T Refusal) → Reads code numbers o before after r → (q : Refusal) → r ≡ Err q → after ≡ before
  kept numbers o before after r call q e = (answering call (keeps.back o q (sym call.answer ∙ e))).table

  -- one answer or another, by a test
  pub by_test : (b : Bool) (k : ℕ) (o : Answer A) → code (cond b (refused k 0) o) ≡ cond b (Err (because k 0)) (code o)
  by_test true k o = keeps.there k 0
  by_test false k o = refl
