-- A reader whose bytes have to be there as a whole, at a place. Assumes nothing.
use mathlib.Core.Path.{◌≡◌, refl, sym, ◌∙◌}
use mathlib.Core.Bool.{Bool, true, false, cond}
use mathlib.Core.List.{List}
use Prim.Native.Nat.{ℕ, ◌+◌, ◌≤◌, ◌<◌}
use native.Mathlib.Omega.{arith}
use lib.Dec.{leb, eqb}
use lib.ListN.{length, drop, length-drop}
use Rattle.format.specs.Read.{ReadResult, success, more_needed, error, Reader, go_on, ◌>>=◌, return, test, End, end_at, enclosed, Answer, accepted, refused, answer, at}
use Rattle.format.proofs.Tests.{is_leb, is_nleb, eqb_is, neqb_is}
use Rattle.format.proofs.Exact.{enclosed_fits, enclosed_short}
use Rattle.steps.proofs.Steps.{refused_is_none, onward, onward_accepted}

module _ {A : Type 0} (n k : ℕ) (r : End → Reader A) (m : List ℕ) (s : ℕ) (h : s ≤ length m) where
  -- the end that is due
  abbrev ends : A → ℕ → Answer A
  ends a t = cond (eqb t (s + n)) (accepted a t) (refused k 0)

  pub enclosed_lacks : length m < s + n → at (enclosed n k r) m s ≡ refused 2 (s + n)
  unfolding at
  enclosed_lacks g = rw (enclosed_short n k r (drop s m) s (simp length-drop (omega arith)))

  enclosed_there : s + n ≤ length m → at (enclosed n k r) m s ≡ onward (at (r (end_at (s + n))) m s) ends
  unfolding at ◌>>=◌ test return
  enclosed_there g = rw (enclosed_fits n k r (drop s m) s (simp length-drop (omega arith))) (mid (r (end_at (s + n)) (drop s m) s))
    where
      end : (b : Bool) (a : A) (l : List ℕ) (t : ℕ) → answer (go_on (test k b l t) (λ u. return a)) ≡ cond b (accepted a t) (refused k 0)
      end true a l t = refl
      end false a l t = refl

      mid : (x : ReadResult A) → answer (go_on x (λ a l' t. go_on (test k (eqb t (s + n)) l' t) (λ u. return a))) ≡ onward (answer x) ends
      mid (success a l t) = end (eqb t (s + n)) a l t
      mid (more_needed p) = refl
      mid (error j) = refl

  module _ (g : s + n ≤ length m) where
    pub enclosed_stops : (j p : ℕ) → at (r (end_at (s + n))) m s ≡ refused j p → at (enclosed n k r) m s ≡ refused j p
    enclosed_stops j p e = enclosed_there g ∙ rw e

    module _ (a : A) (t : ℕ) (e : at (r (end_at (s + n))) m s ≡ accepted a t) where
      pub enclosed_ends : t ≡ s + n → at (enclosed n k r) m s ≡ accepted a t
      enclosed_ends q = enclosed_there g ∙ rw (e, eqb_is t (s + n) q)

      pub enclosed_differs : (t ≡ s + n → ⊥) → at (enclosed n k r) m s ≡ refused k 0
      enclosed_differs q = enclosed_there g ∙ rw (e, neqb_is t (s + n) q)

  pub un_enclosed : (a : A) (t : ℕ) → at (enclosed n k r) m s ≡ accepted a t → at (r (end_at (s + n))) m s ≡ accepted a t
  un_enclosed a t e = by (leb (s + n) (length m)) refl
    where
      same : (b : Bool) (x : A) (y : ℕ) → at (r (end_at (s + n))) m s ≡ accepted x y → cond b (accepted x y) (refused k 0) ≡ accepted a t → at (r (end_at (s + n))) m s ≡ accepted a t
      same true x y p q = p ∙ q
      same false x y p q = refused_is_none q

      by : (b : Bool) → leb (s + n) (length m) ≡ b → at (r (end_at (s + n))) m s ≡ accepted a t
      by true q =
          let w = onward_accepted (at (r (end_at (s + n))) m s) ends a t (sym (enclosed_there (is_leb _ _ q)) ∙ e) in
          same (eqb w.1 (s + n)) w.0 w.1 w.2 w.3
      by false q = refused_is_none (sym (enclosed_lacks (is_nleb _ _ q)) ∙ e)
