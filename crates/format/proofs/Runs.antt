-- A run of items, in each judgement that readers have: its list, its refusals, what it wants; and that its bound never cuts it short.
-- Assumes nothing.
use mathlib.Core.Path.{◌≡◌, refl, sym, ◌∙◌}
use mathlib.Core.Bool.{true}
use mathlib.Core.Option.{some}
use mathlib.Core.List.{List, [], ◌∷◌, ◌++◌, append_assoc}
use Prim.Native.Nat.{ℕ, zero, suc, ◌+◌, ◌-◌, ◌<◌}
use native.Mathlib.Omega.{arith}
use lib.ListN.{length, drop, length-drop}
use Rattle.format.specs.Read.{ReadResult, success, more_needed, error, Reader, go_on, ◌>>=◌, return, Item, followed, last, behind, until, run, Answer, refused}
use Rattle.format.specs.Places.{with_item, run_here, behind_item, run_end, run_bound}
use Rattle.format.specs.First.{Line, lacks, lines_behind, run_list}
use Rattle.format.specs.FrameLaws.{Unbounded}
use Rattle.format.proofs.Tests.{never, leb_is}
use Rattle.format.proofs.Lines.{first_line, one_none, Goes, goes_as, return_goes, bind_goes}
use Rattle.format.proofs.ListedLaws.{Listed, once, bind_listed}
use Rattle.format.proofs.Takes.{Takes}
use Rattle.format.proofs.WantedLaws.{Any, Wants, return_wants, bind_wants}

-- by its list
module _ {A : Type 0} {step : List A → Reader (Item A)} {list : List A → List ℕ → ℕ → List Line} {here : List ℕ → ℕ → Item A} {end : List ℕ → ℕ → ℕ}
    (h : (acc : List A) → Goes (step acc) (list acc) here end) where
  behind_goes : (rest : List A → Reader (List A)) (lines : List A → List ℕ → ℕ → List Line) (items : List ℕ → ℕ → List A) (ends : List ℕ → ℕ → ℕ)
      → ((acc : List A) → Goes (rest acc) (lines acc) (λ m s. acc ++ items m s) ends) → (acc : List A) (x : Item A)
      → Goes (behind rest acc x) (λ m s. lines_behind x (λ a. lines (acc ++ (a ∷ [])) m s)) (λ m s. acc ++ with_item x (items m s)) (λ m s. behind_item x s (ends m s))
  behind_goes rest lines items ends g acc (followed a) = goes_as (g (acc ++ (a ∷ []))) (λ m s. refl) (λ m s e. (append_assoc acc (a ∷ []) (items m s), refl))
  behind_goes rest lines items ends g acc (last a) = return_goes (acc ++ (a ∷ []))

  until_goes : (n : ℕ) (acc : List A) → Goes (until n step acc) (run_list list here end n acc) (λ m s. acc ++ run_here here end m n s) (λ m s. run_end here end m n s)
  unfolding until run_list run_here run_end first_line
  until_goes zero acc = record { passes = λ m s e. never (short m s) (one_none (lacks (run_bound m s) m s) [] e).0; stops = λ m s x e. cut m s x e }
    where
      short : (m : List ℕ) (s : ℕ) → (lacks (run_bound m s) m s).applies ≡ true
      short m s = leb_is (suc (length m - s)) (suc (length m - s)) (omega arith)

      cut : (m : List ℕ) (s : ℕ) (x : Line) → first_line (lacks (run_bound m s) m s ∷ []) ≡ some x → ◌≡◌ {A = Answer (List A)} (refused 2 (s + suc (length (drop s m)))) (refused x.number x.position)
      cut m s x e = let z : some (lacks (run_bound m s) m s) ≡ some x = sym (rw (short m s) refl) ∙ e in let y : lacks (run_bound m s) m s ≡ x = cc in rw (← y, length-drop) refl
  until_goes (suc n) acc =
      bind_goes (h acc) (behind_goes (until n step) (λ acc. run_list list here end n acc) (λ m s. run_here here end m n s) (λ m s. run_end here end m n s) (until_goes n) acc)

  pub run_goes : (acc : List A)
      → Goes (run step acc) (λ m s. run_list list here end (run_bound m s) acc m s) (λ m s. acc ++ run_here here end m (run_bound m s) s) (λ m s. run_end here end m (run_bound m s) s)
  unfolding run
  run_goes acc =
      record { passes = λ m s e. rw (length-drop s m) ((until_goes (run_bound m s) acc).passes m s e); stops = λ m s x e. rw (length-drop s m) ((until_goes (run_bound m s) acc).stops m s x e) }

-- by its refusals
module _ {A : Type 0} {ks : List ℕ} {step : List A → Reader (Item A)} (h : (acc : List A) → Listed ks (step acc)) where
  until_listed : (n : ℕ) (acc : List A) → Listed ks (until n step acc)
  unfolding until return
  until_listed zero acc = record { fine = λ l s. omega arith }
  until_listed (suc n) acc = record { fine = λ l s. once ks (s + length l) (until (suc n) step acc l s) ((bind_listed (h acc) (next (until_listed n))).fine l s) }
    where
      next : ((acc : List A) → Listed ks (until n step acc)) → (x : Item A) → Listed ks (behind (until n step) acc x)
      next rest (followed a) = rest (acc ++ (a ∷ []))
      next rest (last a) = record { fine = λ l s. refl }

  pub run_listed : (acc : List A) → Listed ks (run step acc)
  unfolding run
  run_listed acc = record { fine = λ l s. (until_listed (suc (length l)) acc).fine l s }

-- by what it wants: one byte more is near
module _ {A : Type 0} {b : ℕ} (some : 1 < b) {step : List A → Reader (Item A)} (h : (acc : List A) → Wants b Any (step acc)) where
  until_wants : (n : ℕ) (acc : List A) → Wants b Any (until n step acc)
  unfolding until
  until_wants zero acc = record { near = λ l s hb. omega arith }
  until_wants (suc n) acc = record { near = λ l s hb. (bind_wants (h acc) (next (until_wants n))).near l s hb }
    where
      next : ((acc : List A) → Wants b Any (until n step acc)) → (x : Item A) → Any x → Wants b Any (behind (until n step) acc x)
      next rest (followed a) g = rest (acc ++ (a ∷ []))
      next rest (last a) g = return_wants (acc ++ (a ∷ []))

  pub run_wants : (acc : List A) → Wants b Any (run step acc)
  unfolding run
  run_wants acc = record { near = λ l s hb. (until_wants (suc (length l)) acc).near l s hb }

-- where each item takes a byte at least, fewer are left behind it
module _ {A : Type 0} {ks : List ℕ} {step : List A → Reader (Item A)} (takes : (acc : List A) → Takes 1 (step acc)) (h : (acc : List A) → Listed ks (step acc)) where
  fewer : (acc : List A) (l : List ℕ) (s : ℕ) (x : Item A) (l' : List ℕ) (t : ℕ) → step acc l s ≡ success x l' t → length l' < length l
  fewer acc l s x l' t e =
      let p : s < t = rw e at ((takes acc).past s l s (omega arith)) in
      let q : t + length l' ≡ s + length l = rw e at ((h acc).fine l s) in
      omega arith

  enough : (n k : ℕ) (acc : List A) (l : List ℕ) (s : ℕ) → length l < n → length l < k → until n step acc l s ≡ until k step acc l s
  unfolding until ◌>>=◌
  enough zero k acc l s a b = absurd (omega arith)
  enough (suc n) zero acc l s a b = absurd (omega arith)
  enough (suc n) (suc k) acc l s a b = by (enough n k) (step acc l s) refl
    where
      Rest : Type 0
      Rest = (acc : List A) (l : List ℕ) (s : ℕ) → length l < n → length l < k → until n step acc l s ≡ until k step acc l s

      next : Rest → (x : Item A) (l' : List ℕ) (t : ℕ) → length l' < length l → behind (until n step) acc x l' t ≡ behind (until k step) acc x l' t
      next rest (followed c) l' t f = rest (acc ++ (c ∷ [])) l' t (omega arith) (omega arith)
      next rest (last c) l' t f = refl

      by : Rest → (x : ReadResult (Item A)) → step acc l s ≡ x → go_on x (behind (until n step) acc) ≡ go_on x (behind (until k step) acc)
      by rest (success x l' t) e = next rest x l' t (fewer acc l s x l' t e)
      by rest (more_needed p) e = refl
      by rest (error j) e = refl

  pub run_unbounded : Unbounded step
  unfolding run until ◌>>=◌
  run_unbounded = record { unrolled = λ acc l s. by acc l s (step acc l s) refl; any_bound = λ n acc l s g. enough n (suc (length l)) acc l s g (omega arith) }
    where
      next : (acc : List A) (n : ℕ) (x : Item A) (l' : List ℕ) (t : ℕ) → length l' < n → behind (until n step) acc x l' t ≡ behind (run step) acc x l' t
      next acc n (followed c) l' t f = enough n (suc (length l')) (acc ++ (c ∷ [])) l' t f (omega arith)
      next acc n (last c) l' t f = refl

      by : (acc : List A) (l : List ℕ) (s : ℕ) (x : ReadResult (Item A)) → step acc l s ≡ x → go_on x (behind (until (length l) step) acc) ≡ go_on x (behind (run step) acc)
      by acc l s (success x l' t) e = next acc (length l) x l' t (fewer acc l s x l' t e)
      by acc l s (more_needed p) e = refl
      by acc l s (error j) e = refl
