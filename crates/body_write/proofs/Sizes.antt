-- Laws of the size that is told, and what it gives the writer's stores. Assumes nothing.
use Prim.Native.Nat.{ℕ, ◌≤◌}
use mathlib.Core.Path.{◌≡◌, sym, ◌∙◌}
use lib.ListN.{length}
use Rattle.std.specs.Prelude.{Result, Ok}
use Rattle.format.specs.Policies.{Policy}
use Rattle.format.specs.Checks.{first}
use Rattle.format.specs.Lent.{size_of}
use Rattle.wire.specs.declared.refusals.Refusal.{Refusal}
use Rattle.checks.specs.Answers.{Checked, checked, write_answer_of}
use Rattle.checks.proofs.Stages.{stage_none}
use Rattle.checks.proofs.Writers.{told_none}
use Rattle.body_write.specs.Ready.{writing, body_size, Small, BodyReady}
use Rattle.body_write.specs.declared.body.Body.{Body}
use Rattle.body_write.proofs.BodyChecks.{tables_small}
use Rattle.body_write.proofs.BodyStores.{body_length, body_ready}

-- what the size asks, and what it comes to
module _ (policy : Policy) (body : Body) (c : Checked) (is : c ≡ checked (first (writing policy body).checks)) (e : c ≡ Ok tt) where
  pub size_small : Small body
  size_small = tables_small policy body (stage_none _ c is e)

  pub size_long : (s : ℕ) → s ≡ body_size body → s ≡ length (writing policy body).image
  size_long s q = q ∙ sym (body_length policy body (stage_none _ c is e))

-- what a length that was told gives the stores
pub sized_ready : (policy : Policy) (body : Body) (s : Result ℕ Refusal) → s ≡ write_answer_of (size_of (writing policy body)) → (size : ℕ) → s ≡ Ok size → (room : ℕ) → size ≤ room
    → BodyReady body size room
sized_ready policy body s is size e room h = let (p, d) = told_none (writing policy body) s is size e in body_ready policy body p size room d h
