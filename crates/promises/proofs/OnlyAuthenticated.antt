-- Every call of `write_only_authenticated` keeps the promise, by its contract and the law of the definition. Assumes nothing.
use Prim.Native.Nat.{ℕ}
use mathlib.Core.Path.{◌≡◌, sym, ap, ◌∙◌}
use mathlib.Core.List.{List}
use lib.ListN.{length}
use Rattle.format.specs.Read.{Answer, operation}
use Rattle.format.specs.Serialize.{Bytes}
use Rattle.format.specs.Lent.{filled}
use Rattle.format.specs.OnlyAuthenticated.{write_only_authenticated}
use Rattle.format.specs.Selection.{OnlyAuthenticatedLaw}
use Rattle.format.proofs.Selection.{selection}
use Rattle.checks.specs.Answers.{whole}
use Rattle.promises.specs.OnlyAuthenticated.{Call, Meets, Promise, OnlyAuthenticatedPromises}
use Rattle.promises.proofs.Codes.{as_written, image_of, answering, kept}

module _ (c : Call) (bytes : Bytes c.message) (meets : Meets c) where
  abbrev said : Answer (List ℕ)
  said = operation (write_only_authenticated c.text c.required (length c.before)) c.message c.start

  law : OnlyAuthenticatedLaw c.text c.required (length c.before) c.message c.start
  law = selection.operation_law c.text c.required (length c.before) c.message c.start bytes

  promise : Promise c
  promise =
      record {
        refuses = λ k p e. (answering meets (law.refuses k p e)).answer;
        writes = λ ps t e f chosen s h.
            let z = answering meets (law.writes ps t e f chosen s h) in
            (z.answer, z.table);
        only_then = λ n e.
            let (image, t, is, long) = image_of said n (sym meets.answer ∙ e) in
            let (ps, read, f, chosen, s, im, h) = law.only_then image t is in
            let out : c.after ≡ filled image c.before = (answering meets is).table in
            (ps, t, read, f, chosen, s, long ∙ ap length im, rw long h, out ∙ ap (λ (l : List ℕ). filled l c.before) im);
        keeps = λ q e. kept as_written whole said c.before c.after c.answer meets q e;
      }

pub only_authenticated_promises : OnlyAuthenticatedPromises
only_authenticated_promises = record { every_call = promise }
