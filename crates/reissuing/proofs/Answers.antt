-- The ways out of the two operations, one law each. Assumes nothing.
use Prim.Native.Nat.{ℕ, ◌≤◌, ◌<◌}
use native.Mathlib.Omega.{arith}
use mathlib.Core.Path.{◌≡◌, refl, sym, ap, ◌∙◌}
use mathlib.Core.List.{List}
use lib.ListN.{length}
use Rattle.std.specs.Prelude.{Result, Ok, Err}
use Rattle.std.specs.Result.{IsErrAnd}
use Rattle.std.proofs.lemmas.Result.{err_from_is_err_and}
use Rattle.format.specs.Read.{Answer, operation}
use Rattle.format.specs.Lent.{filled}
use Rattle.format.specs.Reissuing.{Reissue, reissued_header_body, reissue_header_body}
use Rattle.format.proofs.ReissueOrder.{told}
use Rattle.wire.specs.Codes.{because}
use Rattle.wire.specs.Stored.{stored}
use Rattle.wire.specs.declared.refusals.Refusal.{Refusal}
use Rattle.entries.specs.Codes.{Reads}
use Rattle.entries.proofs.Tables.{refuses, accepts}
use Rattle.checks.specs.Answers.{written_as, whole}
use Rattle.checks.proofs.Writers.{stored_first}
use Rattle.reissuing.specs.Codes.{body_kept, body_size, Passed, Tested, CanStore}
use Rattle.reissuing.specs.declared.storing.Draft.{Draft}
use Rattle.reissuing.proofs.Stores.{size_of}

module _ (a : Reissue) (m : List ℕ) (s : ℕ) (x : Result Draft Refusal) (x_is : Tested a m s x) where
  abbrev told_is : Answer (List ℕ)
  told_is = operation (reissued_header_body a) m s

  pub told_not : (q : Refusal) → x ≡ Err q → ◌≡◌ {A = Result ℕ Refusal} (Err q) (written_as told_is)
  told_not q e = sym (ap written_as (x_is.refuses q e))

  module _ (d : Draft) (e : x ≡ Ok d) where
    passed : Passed a m s d
    passed = x_is.accepts d e

    long : length passed.image ≡ body_size d
    long = ap length passed.kept ∙ size_of a d passed.id passed.suiteData

    pub told_so : (n : ℕ) → n ≡ body_size d → ◌≡◌ {A = Result ℕ Refusal} (Ok n) (written_as told_is)
    told_so n f = rw (f, ← long) (sym (ap written_as passed.reads))

  -- with an output
  module _ (out : List ℕ) where
    abbrev answer : Answer (List ℕ)
    answer = operation (reissue_header_body a (length out)) m s

    pub writes_not : (q : Refusal) → x ≡ Err q → Reads written_as whole answer out out (Err q)
    writes_not q e = refuses written_as whole _ out (Err q) q.number q.position ((told a m s).refuses q.number q.position (x_is.refuses q e) (length out)) refl

    module _ (d : Draft) (e : x ≡ Ok d) (n : ℕ) (n_is : n ≡ body_size d) where
      pub writes_28 : length out < n → (r : Result ℕ Refusal) → r ≡ Err (because 28 0) → Reads written_as whole answer out out r
      writes_28 h r f =
          let l = long d e in
          refuses written_as whole _ out r 28 0 (((told a m s).too_short (passed d e).image (passed d e).tail (passed d e).reads (length out)).back (omega arith)) f

      pub can_store : n ≤ length out → CanStore a d (length out)
      can_store h =
          let p = passed d e in
          record { suite = p.suite; id = p.id; suiteData = p.suiteData; narrow = p.narrow; fits = omega arith }

      pub writes_so : n ≤ length out → (after : List ℕ) → after ≡ stored out 0 (body_kept a d) → Reads written_as whole answer out after (Ok n)
      writes_so h after f =
          let l = long d e in
          let p = passed d e in
          let same : n ≡ length p.image = n_is ∙ sym l in
          accepts written_as whole _ out (Ok n) p.image p.tail
          ((told a m s).reports p.image p.tail p.reads (length out) (omega arith))
          (ap Ok same) after (f ∙ stored_first out (body_kept a d) ∙ ap (λ i. filled i out) (sym p.kept))

-- by a `?`, with the output as it was
pub writes_error : {Q : Refusal → Type 0} (answer : Answer (List ℕ)) (out : List ℕ) (r : Result ℕ Refusal) → IsErrAnd r Q → ((q : Refusal) → Q q → Reads written_as whole answer out out (Err q))
    → Reads written_as whole answer out out r
writes_error answer out r h e = let p = err_from_is_err_and r h in rw p.1 (e p.0 p.2)
