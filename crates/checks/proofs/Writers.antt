-- Laws of the ways out of a writer, and of stores one behind another. Assumes nothing.
use Prim.Native.Nat.{ℕ, ◌+◌, ◌≤◌, ◌<◌}
use native.Mathlib.Nat.{zero-add}
use mathlib.Core.Path.{◌≡◌, refl, sym, ap, ◌∙◌}
use mathlib.Core.Option.{none}
use mathlib.Core.List.{List, ◌++◌}
use lib.ListN.{length, take, drop}
use lib.Seq.{take-length}
use Rattle.format.specs.Read.{Answer, accepted, refused}
use Rattle.format.specs.Checks.{first}
use Rattle.format.specs.Lent.{Writing, size_of, filled}
use Rattle.format.proofs.Writers.{of_accepted, writer_law}
use Rattle.format.proofs.Size.{size_law}
use Rattle.std.specs.Result.{IsErrAnd}
use Rattle.std.proofs.lemmas.Result.{err_from_is_err_and}
use Rattle.wire.specs.Codes.{because}
use Rattle.wire.specs.Stored.{stored}
use Rattle.wire.specs.declared.refusals.Refusal.{Refusal}
use Rattle.wire.proofs.StoreLaws.{stored_more, length_stored}
use Rattle.checks.specs.Answers.{Checked, checked, write_answer_of, Writes}
use Rattle.checks.proofs.Stages.{stage_none, stage_some}
use Rattle.std.specs.Prelude.{Result, Ok, Err}

-- what was stored from the first byte on fills the output
pub stored_first : (out image : List ℕ) → stored out 0 image ≡ filled image out
unfolding stored
stored_first out image = rw zero-add

-- what the code's answer says of the definition's
pub written_is : (r : Result ℕ Refusal) (o : Answer (Unit {0})) → r ≡ write_answer_of o → (n : ℕ) → r ≡ Ok n → o ≡ accepted tt n
written_is r (accepted u m) e n f = let z : m ≡ n = cc in rw z refl
written_is r (refused k p) e n f = cc

pub refused_is : (r : Result ℕ Refusal) (o : Answer (Unit {0})) → r ≡ write_answer_of o → (q : Refusal) → r ≡ Err q → o ≡ refused q.number q.position
refused_is r (accepted u n) e q f = cc
refused_is r (refused k p) e q f = let z : because k p ≡ q = cc in rw (sym z) refl

-- what is told, by what the checks found
module _ (w : Writing) (c : Checked) (is : c ≡ checked (first w.checks)) where
  pub size_fails : (r : Refusal) → c ≡ Err r → ◌≡◌ {A = Result ℕ Refusal} (Err r) (write_answer_of (size_of w))
  size_fails r e = let (k, q, f) = stage_some w.checks c is r e in rw q (ap Err (cc))

  pub size_told : c ≡ Ok tt → (n : ℕ) → n ≡ length w.image → ◌≡◌ {A = Result ℕ Refusal} (Ok n) (write_answer_of (size_of w))
  size_told e n q = rw (stage_none w.checks c is e) (ap Ok q)

-- and what a length that was told says of them
pub told_none : (w : Writing) (s : Result ℕ Refusal) → s ≡ write_answer_of (size_of w) → (n : ℕ) → s ≡ Ok n → (first w.checks ≡ none) × (n ≡ length w.image)
told_none w s is n e = of_accepted w.image (first w.checks) n (written_is s (size_of w) is n e)

-- by the size that is told of what a writer is to write
module _ (w : Writing) (out : List ℕ) where
  pub told_refuses : (k p : ℕ) → size_of w ≡ refused k p → Writes w out out (Err (because k p))
  told_refuses k p e = let (a, o) = (size_law w).refuses k p e out in record { answer = rw a; output = sym o }

  module _ (n : ℕ) (told : size_of w ≡ accepted tt n) where
    pub told_28 : length out < n → (a : Result ℕ Refusal) → a ≡ Err (because 28 0) → Writes w out out a
    told_28 h a q =
        let b = ((size_law w).too_short n told out).back h in
        record { answer = q ∙ rw b; output = sym ((writer_law w out).keeps 28 0 b).1 }

    pub told_all : n ≤ length out → (after : List ℕ) → after ≡ stored out 0 w.image → Writes w out after (Ok n)
    told_all h after q =
        let a = (size_law w).reports n told out h in
        let (c, d, room, o) = (writer_law w out).only_then n a in
        record { answer = rw a; output = q ∙ stored_first out w.image ∙ sym o }

module _ (w : Writing) (s : Result ℕ Refusal) (is : s ≡ write_answer_of (size_of w)) (out : List ℕ) where
  pub sized_refuses : (r : Refusal) → s ≡ Err r → Writes w out out (Err r)
  sized_refuses r e = told_refuses w out r.number r.position (refused_is s (size_of w) is r e)

  module _ (n : ℕ) (e : s ≡ Ok n) where
    pub sized_28 : length out < n → (a : Result ℕ Refusal) → a ≡ Err (because 28 0) → Writes w out out a
    sized_28 = told_28 w out n (written_is s (size_of w) is n e)

    pub sized_all : n ≤ length out → (after : List ℕ) → after ≡ stored out 0 w.image → Writes w out after (Ok n)
    sized_all = told_all w out n (written_is s (size_of w) is n e)

-- by what the checks found, and the length of the image
module _ (w : Writing) (out : List ℕ) (c : Checked) (is : c ≡ checked (first w.checks)) where
  pub writes_fails : (r : Refusal) → c ≡ Err r → Writes w out out (Err r)
  writes_fails r e =
      let (k, q, f) = stage_some w.checks c is r e in
      let z : r ≡ because k 0 = cc in
      rw z (told_refuses w out k 0 (rw q))

  module _ (e : c ≡ Ok tt) (n : ℕ) (nIs : n ≡ length w.image) where
    told : size_of w ≡ accepted tt n
    told = rw (stage_none w.checks c is e, nIs)

    pub writes_28 : length out < n → (a : Result ℕ Refusal) → a ≡ Err (because 28 0) → Writes w out out a
    writes_28 = told_28 w out n told

    pub writes_all : n ≤ length out → (after : List ℕ) → after ≡ stored out 0 w.image → Writes w out after (Ok n)
    writes_all = told_all w out n told

-- a writer that leaves by a `?`, with the output as it was
pub writes_error : {Q : Refusal → Type 0} (w : Writing) (out : List ℕ) (r : Result ℕ Refusal) → IsErrAnd r Q → ((q : Refusal) → Q q → Writes w out out (Err q)) → Writes w out out r
writes_error w out r h e = let p = err_from_is_err_and r h in rw p.1 (e p.0 p.2)

-- all the bytes that are lent
pub whole_bytes : (bytes : List ℕ) → take (length bytes) (drop 0 bytes) ≡ bytes
whole_bytes bytes = take-length bytes

-- a store at the end of a store
pub chain : (d x y : List ℕ) (s t : ℕ) (a b : List ℕ) → x ≡ stored d s a → t ≡ s + length a → y ≡ stored x t b → s + length a ≤ length d → y ≡ stored d s (a ++ b)
chain d x y s t a b ex et ey h = ey ∙ ap (λ (o : List ℕ). stored o t b) ex ∙ stored_more d s a b t et h

pub still_long : (d x : List ℕ) (s : ℕ) (a : List ℕ) → x ≡ stored d s a → s + length a ≤ length d → length x ≡ length d
still_long d x s a e h = ap length e ∙ length_stored d s a h
