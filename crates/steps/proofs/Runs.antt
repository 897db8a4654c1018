-- A run of items, at a place: it goes from item to item, and no bound is in sight. Assumes nothing.
use mathlib.Core.Path.{◌≡◌, sym, ap, ◌∙◌}
use mathlib.Core.List.{List, [], ◌∷◌, ◌++◌}
use Prim.Native.Nat.{ℕ, zero, suc, ◌≤◌}
use lib.ListN.{length, drop}
use Rattle.format.specs.Read.{Reader, ◌>>=◌, Item, followed, last, behind, until, run, accepted, refused, answer, at}
use Rattle.format.specs.FrameLaws.{Unbounded}
use Rattle.format.proofs.Exact.{more_is_no_success}
use Rattle.steps.proofs.Tidy.{Tidy, bind_tidy, return_tidy}
use Rattle.steps.proofs.Steps.{go, stop, gives, un_bind, inside}

module _ {A : Type 0} (step : List A → Reader (Item A)) (hs : (acc : List A) → Tidy (step acc)) where
  until_tidy : (n : ℕ) (acc : List A) → Tidy (until n step acc)
  unfolding until
  until_tidy zero acc = record { later = λ l s a l' t e. more_is_no_success e }
  until_tidy (suc n) acc = record { later = (bind_tidy (hs acc) (next (until_tidy n))).later }
    where
      next : ((acc : List A) → Tidy (until n step acc)) → (x : Item A) → Tidy (behind (until n step) acc x)
      next rest (followed a) = rest (acc ++ (a ∷ []))
      next rest (last a) = return_tidy (acc ++ (a ∷ []))

  pub run_tidy : (acc : List A) → Tidy (run step acc)
  unfolding run
  run_tidy acc = record { later = λ l s a l' t e. (until_tidy (suc (length l)) acc).later l s a l' t e }

  module _ (unbounded : Unbounded step) (m : List ℕ) (acc : List A) (s : ℕ) where
    unrolled : at (run step acc) m s ≡ at (step acc >>= behind (run step) acc) m s
    unfolding at
    unrolled = ap answer (unbounded.unrolled acc (drop s m) s)

    pub run_more : (a : A) (t : ℕ) → at (step acc) m s ≡ accepted (followed a) t → at (run step acc) m s ≡ at (run step (acc ++ (a ∷ []))) m t
    run_more a t e = unrolled ∙ go (behind (run step) acc) (hs acc) m s (followed a) t e

    pub run_ends : (a : A) (t : ℕ) → at (step acc) m s ≡ accepted (last a) t → at (run step acc) m s ≡ accepted (acc ++ (a ∷ [])) t
    run_ends a t e = unrolled ∙ go (behind (run step) acc) (hs acc) m s (last a) t e ∙ gives (acc ++ (a ∷ [])) m t

    pub run_stops : (k p : ℕ) → at (step acc) m s ≡ refused k p → at (run step acc) m s ≡ refused k p
    run_stops k p e = unrolled ∙ stop (behind (run step) acc) (hs acc) m s k p e

    -- where its first item ends within the message, so does the run
    pub run_inside : ((x : Item A) (t : ℕ) → at (step acc) m s ≡ accepted x t → t ≤ length m) → (out : List A) (u : ℕ) → at (run step acc) m s ≡ accepted out u → u ≤ length m
    run_inside first out u e =
        let (x, t, p, q) = un_bind (behind (run step) acc) (hs acc) m s out u (sym unrolled ∙ e) in
        inside (rest x) m t (first x t p) out u q
      where
        rest : (x : Item A) → Tidy (behind (run step) acc x)
        rest (followed a) = run_tidy (acc ++ (a ∷ []))
        rest (last a) = return_tidy (acc ++ (a ∷ []))
