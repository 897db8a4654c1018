-- The ways on and out of a `?`, as laws that a search applies. Assumes nothing.
use mathlib.Core.Path.{◌≡◌, sym, ap, ◌∙◌}
use Rattle.std.proofs.Common.{Result, Ok, Err, ControlFlow, Continue, Break}
use Rattle.std.specs.Result.{IsErrAnd, result_from_control_flow}
use Rattle.std.proofs.lemmas.Result.{err_from_is_err_and}

-- it goes on with what was answered, or breaks off
module _ {T E : Type 0} (x : Result T E) (y : ControlFlow _ T) (e : x ≡ result_from_control_flow {T = T} {E = E} y) where
  pub went_on : (v : T) → y ≡ Continue v → x ≡ Ok v
  went_on v f = e ∙ ap result_from_control_flow f

  pub broke_off : (f : _) → y ≡ Break f → (q : E) → q ≡ f.0 → x ≡ Err q
  broke_off f g q h = e ∙ ap result_from_control_flow g ∙ ap Err (sym h)

-- what it then returns is an error of which Q holds: what `From` gives
pub same_error : {T E : Type 0} {Q : E → Type 0} (r x : Result T E) → IsErrAnd r Q → ((q : E) → Q q → ◌≡◌ {A = Result T E} (Err q) x) → r ≡ x
same_error r x h e = let p = err_from_is_err_and r h in p.1 ∙ e p.0 p.2

-- the ways on and out of a `?`, for a search
pub ruleset exits = (went_on, broke_off, same_error)
