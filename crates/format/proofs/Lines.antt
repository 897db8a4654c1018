-- A reader goes by a list of lines: where none applies it gives what stands there, and otherwise it refuses by the first that does.
-- The judgement composes as readers do: sequence, test, counted repetition, an enclosed section. Assumes nothing.
use mathlib.Core.Path.{◌≡◌, refl, sym, ap, ◌∙◌}
use mathlib.Core.Bool.{Bool, true, false, not, false≢true}
use mathlib.Core.Logic.{◌⊎◌, inl, inr, ⊎_elim}
use mathlib.Core.Option.{Option, none, some}
use mathlib.Core.List.{List, [], ◌∷◌, ◌++◌, append_assoc, append-nil}
use Prim.Native.Nat.{ℕ, zero, suc, ◌+◌, ◌-◌, ◌≤◌, ◌<◌}
use native.Mathlib.Omega.{arith}
use lib.Dec.{ltb, eqb}
use lib.ListN.{length, drop, length-drop}
use lib.Seq.{drop-drop}
use Rattle.format.specs.Read.{ReadResult, success, more_needed, error, Reader, go_on, ◌>>=◌, ◌>>◌, return, test, End, no_end, end_at, held, repeat, enclosed, Answer, accepted, refused, answer, at}
use Rattle.format.specs.Serialize.{read, every}
use Rattle.format.specs.Places.{part_of, items_here, items_end}
use Rattle.format.specs.First.{Line, lacks, when, unless, held_list, NoneApplies, FirstApplies, each_list}
use Rattle.format.proofs.Tests.{is_leb, is_nleb, is_eqb}
use Rattle.format.proofs.Exact.{enclosed_fits, enclosed_short}
use Rattle.format.proofs.Serialize.{read_fits, read_short}
use Rattle.format.proofs.Firsts.{both, and}

-- the first line that applies
abbrev by_applies : Bool → Line → Option Line → Option Line
by_applies true x rest = some x
by_applies false x rest = rest

unfoldable pub first_line : List Line → Option Line
first_line [] = none
first_line (x ∷ xs) = by_applies x.applies x (first_line xs)

some_is_not_none : {C : Type 0} {x : Line} → some x ≡ none → C
some_is_not_none e = let z : ◌≡◌ {A = ℕ} 0 1 = cc in absurd (omega arith)

pub join_none : (xs ys : List Line) → first_line (xs ++ ys) ≡ none → (first_line xs ≡ none) × (first_line ys ≡ none)
unfolding first_line
join_none [] ys e = (refl, e)
join_none (x ∷ xs) ys e = go x.applies e (join_none xs ys)
  where
    go : (b : Bool) → by_applies b x (first_line (xs ++ ys)) ≡ none → (first_line (xs ++ ys) ≡ none → (first_line xs ≡ none) × (first_line ys ≡ none))
        → (by_applies b x (first_line xs) ≡ none) × (first_line ys ≡ none)
    go true e ih = some_is_not_none e
    go false e ih = ih e

pub none_join : (xs ys : List Line) → first_line xs ≡ none → first_line ys ≡ none → first_line (xs ++ ys) ≡ none
unfolding first_line
none_join [] ys e f = f
none_join (x ∷ xs) ys e f = go x.applies e (λ k. none_join xs ys k f)
  where
    go : (b : Bool) → by_applies b x (first_line xs) ≡ none → (first_line xs ≡ none → first_line (xs ++ ys) ≡ none) → by_applies b x (first_line (xs ++ ys)) ≡ none
    go true e ih = some_is_not_none e
    go false e ih = ih e

pub join_some : (xs ys : List Line) (w : Line) → first_line (xs ++ ys) ≡ some w → (first_line xs ≡ some w) ⊎ ((first_line xs ≡ none) × (first_line ys ≡ some w))
unfolding first_line
join_some [] ys w e = inr (refl, e)
join_some (x ∷ xs) ys w e = go x.applies e (join_some xs ys w)
  where
    go : (b : Bool) → by_applies b x (first_line (xs ++ ys)) ≡ some w
        → (first_line (xs ++ ys) ≡ some w → (first_line xs ≡ some w) ⊎ ((first_line xs ≡ none) × (first_line ys ≡ some w)))
        → (by_applies b x (first_line xs) ≡ some w) ⊎ ((by_applies b x (first_line xs) ≡ none) × (first_line ys ≡ some w))
    go true e ih = inl e
    go false e ih = ih e

pub one_none : (x : Line) (xs : List Line) → first_line (x ∷ xs) ≡ none → (x.applies ≡ false) × (first_line xs ≡ none)
unfolding first_line
one_none x xs e = go x.applies refl e
  where
    go : (b : Bool) → x.applies ≡ b → by_applies b x (first_line xs) ≡ none → (x.applies ≡ false) × (first_line xs ≡ none)
    go true h e = some_is_not_none e
    go false h e = (h, e)

-- lists whose ends say the same where no line before them applies
pub behind_line : (x : Line) (xs ys : List Line) → (x.applies ≡ false → first_line xs ≡ first_line ys) → first_line (x ∷ xs) ≡ first_line (x ∷ ys)
unfolding first_line
behind_line x xs ys h = go x.applies refl
  where
    go : (b : Bool) → x.applies ≡ b → by_applies b x (first_line xs) ≡ by_applies b x (first_line ys)
    go true e = refl
    go false e = h e

pub behind_list : (xs ys zs : List Line) → (first_line xs ≡ none → first_line ys ≡ first_line zs) → first_line (xs ++ ys) ≡ first_line (xs ++ zs)
unfolding first_line
behind_list [] ys zs h = h refl
behind_list (x ∷ xs) ys zs h = behind_line x (xs ++ ys) (xs ++ zs) (λ e. behind_list xs ys zs (λ k. h (rw e k)))

-- `first_line` as the statements have it
pub none_applies : (xs : List Line) → first_line xs ≡ none → NoneApplies xs
unfolding first_line every
none_applies [] e = refl
none_applies (x ∷ xs) e = let z = one_none x xs e in rw (z.0, none_applies xs z.1) refl

pub applies_none : (xs : List Line) → NoneApplies xs → first_line xs ≡ none
unfolding first_line every
applies_none [] h = refl
applies_none (x ∷ xs) h = let z = both (not x.applies) _ h in go x.applies z.0 (applies_none xs z.1)
  where
    go : (b : Bool) → not b ≡ true → first_line xs ≡ none → by_applies b x (first_line xs) ≡ none
    go true e k = absurd (false≢true e)
    go false e k = k

pub first_applies : (xs : List Line) (w : Line) → first_line xs ≡ some w → FirstApplies xs w.number w.position
unfolding first_line every
first_applies [] w e = some_is_not_none (sym e)
first_applies (x ∷ xs) w e = go x.applies refl e (first_applies xs w)
  where
    go : (b : Bool) → x.applies ≡ b → by_applies b x (first_line xs) ≡ some w → (first_line xs ≡ some w → FirstApplies xs w.number w.position) → FirstApplies (x ∷ xs) w.number w.position
    go true h e ih =
        let q : x ≡ w = cc in
        record { before = []; line = x; behind = xs; listed = refl; none_before = refl; line_applies = h; its_number = ap (λ (y : Line). y.number) q; its_position = ap (λ (y : Line). y.position) q }
    go false h e ih =
        let z = ih e in
        record {
          before = x ∷ z.before;
          line = z.line;
          behind = z.behind;
          listed = ap (λ (ys : List Line). x ∷ ys) z.listed;
          none_before = and (ap not h) z.none_before;
          line_applies = z.line_applies;
          its_number = z.its_number;
          its_position = z.its_position;
        }

pub applies_first : (xs : List Line) (k p : ℕ) → FirstApplies xs k p → (w : Line) × (first_line xs ≡ some w) × (w.number ≡ k) × (w.position ≡ p)
unfolding first_line
applies_first xs k p h = (h.line, ap first_line h.listed ∙ skip h.before (applies_none h.before h.none_before), h.its_number, h.its_position)
  where
    skip : (ys : List Line) → first_line ys ≡ none → first_line (ys ++ (h.line ∷ h.behind)) ≡ some h.line
    skip [] e = rw h.line_applies refl
    skip (y ∷ ys) e = let z = one_none y ys e in rw z.0 (skip ys z.1)

-- THE JUDGEMENT. `value` and `end` are what the reader gives where no line applies
pub record Goes {A : Type 0} (r : Reader A) (list : List ℕ → ℕ → List Line) (value : List ℕ → ℕ → A) (end : List ℕ → ℕ → ℕ) : Type 0 where
  pub passes : (m : List ℕ) (s : ℕ) → first_line (list m s) ≡ none → r (drop s m) s ≡ success (value m s) (drop (end m s) m) (end m s)
  pub stops : (m : List ℕ) (s : ℕ) (x : Line) → first_line (list m s) ≡ some x → answer (r (drop s m) s) ≡ refused x.number x.position

-- where a reader accepts, it gives that value and that end
module _ {A : Type 0} {r : Reader A} {list : List ℕ → ℕ → List Line} {value : List ℕ → ℕ → A} {end : List ℕ → ℕ → ℕ} (h : Goes r list value end) (m : List ℕ) (s : ℕ) (a : A) (t : ℕ) (e : at r m s ≡ accepted a t) where
  goes_there : ◌≡◌ {A = Answer A} (accepted (value m s) (end m s)) (accepted a t)
  unfolding at
  goes_there = by (first_line (list m s)) refl
    where
      by : (x : Option Line) → first_line (list m s) ≡ x → ◌≡◌ {A = Answer A} (accepted (value m s) (end m s)) (accepted a t)
      by none q = sym (ap answer (h.passes m s q)) ∙ e
      by (some x) q = let z : ◌≡◌ {A = Answer A} (refused x.number x.position) (accepted a t) = sym (h.stops m s x q) ∙ e in let w : ◌≡◌ {A = ℕ} 0 1 = cc in absurd (omega arith)

  pub goes_accepted : a ≡ value m s
  goes_accepted = let z = goes_there in cc

  pub goes_ended : t ≡ end m s
  goes_ended = let z = goes_there in cc

module _ {A : Type 0} where
  -- by another list with the same first line, and other words for the value and the end
  pub goes_as : {r : Reader A} {list list' : List ℕ → ℕ → List Line} {value value' : List ℕ → ℕ → A} {end end' : List ℕ → ℕ → ℕ} → Goes r list value end
      → ((m : List ℕ) (s : ℕ) → first_line (list' m s) ≡ first_line (list m s))
      → ((m : List ℕ) (s : ℕ) → first_line (list m s) ≡ none → (value m s ≡ value' m s) × (end m s ≡ end' m s)) → Goes r list' value' end'
  goes_as {r} {list} {list'} {value} {value'} {end} {end'} h same means =
      record {
        passes = λ m s e. let n = sym (same m s) ∙ e in let (v, t) = means m s n in rw (← v, ← t) (h.passes m s n);
        stops = λ m s x e. h.stops m s x (sym (same m s) ∙ e);
      }

  pub return_goes : (a : A) → Goes (return a) (λ m s. []) (λ m s. a) (λ m s. s)
  unfolding return first_line
  return_goes a = record { passes = λ m s e. refl; stops = λ m s x e. some_is_not_none (sym e) }

-- a refusal leaves at once
module _ {A B : Type 0} (f : A → Reader B) (k p : ℕ) where
  pub stopped : (x : ReadResult A) → answer x ≡ refused k p → answer (go_on x f) ≡ refused k p
  stopped (success a l t) e = let z : ◌≡◌ {A = ℕ} 0 1 = cc in absurd (omega arith)
  stopped (more_needed w) e = cc
  stopped (error j) e = cc

module _ {A B : Type 0} where
  pub bind_goes : {r : Reader A} {f : A → Reader B} {list : List ℕ → ℕ → List Line} {value : List ℕ → ℕ → A} {end : List ℕ → ℕ → ℕ}
      {list₂ : A → List ℕ → ℕ → List Line} {value₂ : A → List ℕ → ℕ → B} {end₂ : A → List ℕ → ℕ → ℕ} → Goes r list value end → ((a : A) → Goes (f a) (list₂ a) (value₂ a) (end₂ a))
      → Goes (r >>= f) (λ m s. list m s ++ list₂ (value m s) m (end m s)) (λ m s. value₂ (value m s) m (end m s)) (λ m s. end₂ (value m s) m (end m s))
  unfolding ◌>>=◌
  bind_goes {r} {f} {list} {value} {end} {list₂} {value₂} {end₂} hr hf =
      record {
        passes = λ m s e. let (e₁, e₂) = join_none (list m s) (list₂ (value m s) m (end m s)) e in rw (hr.passes m s e₁) ((hf (value m s)).passes m (end m s) e₂);
        stops = λ m s x e. ⊎_elim (λ e₁. stopped f x.number x.position (r (drop s m) s) (hr.stops m s x e₁))
            (λ e₁. rw (hr.passes m s e₁.0) ((hf (value m s)).stops m (end m s) x e₁.1)) (join_some (list m s) (list₂ (value m s) m (end m s)) x e);
      }

module _ {A : Type 0} where
  -- a test with its refusal, and what follows it
  pub test_goes : (k : ℕ) (b : Bool) {r : Reader A} {list : List ℕ → ℕ → List Line} {value : List ℕ → ℕ → A} {end : List ℕ → ℕ → ℕ} → Goes r list value end
      → Goes (test k b >> r) (λ m s. unless k b ∷ list m s) value end
  unfolding test ◌>>◌ first_line
  test_goes k true h = record { passes = h.passes; stops = h.stops }
  test_goes k false h = record { passes = λ m s e. some_is_not_none e; stops = λ m s x e. let z : unless k false ≡ x = cc in rw (← z) refl }

  pub not_goes : (k : ℕ) (b : Bool) {r : Reader A} {list : List ℕ → ℕ → List Line} {value : List ℕ → ℕ → A} {end : List ℕ → ℕ → ℕ} → Goes r list value end
      → Goes (test k (not b) >> r) (λ m s. when k b ∷ list m s) value end
  not_goes k true h = test_goes k false h
  not_goes k false h = test_goes k true h

  -- the test of an end
  pub held_goes : (e : End) (n : ℕ) {r : Reader A} {list : List ℕ → ℕ → List Line} {value : List ℕ → ℕ → A} {end : List ℕ → ℕ → ℕ} → Goes r list value end
      → Goes (held e n >> r) (λ m s. held_list e n s ++ list m s) value end
  unfolding held test ◌>>◌
  held_goes no_end n h = record { passes = h.passes; stops = h.stops }
  held_goes (end_at e) n h = record { passes = λ m s. (not_goes 32 (ltb e (s + n)) h).passes m s; stops = λ m s. (not_goes 32 (ltb e (s + n)) h).stops m s }

-- n bytes
pub read_goes : (n : ℕ) → Goes (read n) (λ m s. lacks n m s ∷ []) (λ m s. part_of m s n) (λ m s. s + n)
unfolding first_line
read_goes n = record { passes = λ m s e. there m s (is_nleb _ _ (one_none (lacks n m s) [] e).0); stops = λ m s x e. cut m s x (ltb (length m - s) n) refl e }
  where
    there : (m : List ℕ) (s : ℕ) → n < suc (length m - s) → read n (drop s m) s ≡ success (part_of m s n) (drop (s + n) m) (s + n)
    there m s h = read_fits n (drop s m) s (simp length-drop (omega arith)) ∙ ap (λ l. success (part_of m s n) l (s + n)) (drop-drop n s m)

    cut : (m : List ℕ) (s : ℕ) (x : Line) (b : Bool) → ltb (length m - s) n ≡ b → by_applies b (lacks n m s) none ≡ some x → answer (read n (drop s m) s) ≡ refused x.number x.position
    cut m s x true h e =
        let k : length m - s < n = is_leb _ _ h in
        let q : lacks n m s ≡ x = cc in
        rw (read_short n (drop s m) s (simp length-drop (omega arith)), ← q) refl
    cut m s x false h e = some_is_not_none (sym e)

module _ {A : Type 0} where
  -- a counted repetition
  pub repeat_goes : {step : List A → Reader A} {list : List A → List ℕ → ℕ → List Line} {here : List ℕ → ℕ → A} {end : List ℕ → ℕ → ℕ} → ((acc : List A) → Goes (step acc) (list acc) here end)
      → (n : ℕ) (acc : List A) → Goes (repeat n step acc) (each_list list here end n acc) (λ m s. acc ++ items_here here end m n s) (λ m s. items_end end m n s)
  unfolding repeat each_list items_here items_end
  repeat_goes h zero acc = goes_as (return_goes acc) (λ m s. refl) (λ m s e. (sym (append-nil acc), refl))
  repeat_goes {here = here} {end = end} h (suc n) acc =
      goes_as (bind_goes (h acc) (λ a. repeat_goes h n (acc ++ (a ∷ [])))) (λ m s. refl) (λ m s e. (append_assoc acc (here m s ∷ []) (items_here here end m n (end m s)), refl))

  enclosed_inside : (n k : ℕ) (r : End → Reader A) {list : ℕ → List ℕ → ℕ → List Line} {value : List ℕ → ℕ → A} {end : List ℕ → ℕ → ℕ} → ((e : ℕ) → Goes (r (end_at e)) (list e) value end)
      → Goes (enclosed n k r) (λ m s. lacks n m s ∷ (list (s + n) m s ++ (unless k (eqb (end m s) (s + n)) ∷ []))) value end
  unfolding first_line test return ◌>>=◌
  enclosed_inside n k r {list} {value} {end} h =
      record {
        passes = λ m s e.
            let last = unless k (eqb (end m s) (s + n)) in
            let (f, e') = one_none (lacks n m s) (list (s + n) m s ++ (last ∷ [])) e in
            let (e₁, e₂) = join_none (list (s + n) m s) (last ∷ []) e' in
            rw (enclosed_fits n k r (drop s m) s (fits m s (is_nleb _ _ f)), (h (s + n)).passes m s e₁) (ended m s (eqb (end m s) (s + n)) (one_none last [] e₂).0);
        stops = λ m s x e. by m s x (ltb (length m - s) n) refl e;
      }
    where
      fits : (m : List ℕ) (s : ℕ) → n < suc (length m - s) → n ≤ length (drop s m)
      fits m s f = simp length-drop (omega arith)

      ended : (m : List ℕ) (s : ℕ) (b : Bool) → not b ≡ false
          → go_on (test k b (drop (end m s) m) (end m s)) (λ u. return (value m s)) ≡ success (value m s) (drop (end m s) m) (end m s)
      ended m s true q = refl
      ended m s false q = absurd (false≢true (sym q))

      wrong : (m : List ℕ) (s : ℕ) (x : Line) (b : Bool) → by_applies (not b) (unless k b) none ≡ some x
          → answer (go_on (test k b (drop (end m s) m) (end m s)) (λ u. return (value m s))) ≡ refused x.number x.position
      wrong m s x true q = some_is_not_none (sym q)
      wrong m s x false q = let z : unless k false ≡ x = cc in rw (← z) refl

      inside : (m : List ℕ) (s : ℕ) (x : Line) → n ≤ length (drop s m) → first_line (list (s + n) m s ++ (unless k (eqb (end m s) (s + n)) ∷ [])) ≡ some x
          → answer (enclosed n k r (drop s m) s) ≡ refused x.number x.position
      inside m s x f e = rw (enclosed_fits n k r (drop s m) s f)
          (⊎_elim (λ e₁. stopped _ x.number x.position (r (end_at (s + n)) (drop s m) s) ((h (s + n)).stops m s x e₁))
          (λ e₁. rw ((h (s + n)).passes m s e₁.0) (wrong m s x (eqb (end m s) (s + n)) e₁.1)) (join_some (list (s + n) m s) _ x e))

      by : (m : List ℕ) (s : ℕ) (x : Line) (b : Bool) → ltb (length m - s) n ≡ b → by_applies b (lacks n m s) (first_line (list (s + n) m s ++ (unless k (eqb (end m s) (s + n)) ∷ []))) ≡ some x
          → answer (enclosed n k r (drop s m) s) ≡ refused x.number x.position
      by m s x true q e =
          let g : length m - s < n = is_leb _ _ q in
          let z : lacks n m s ≡ x = cc in
          rw (enclosed_short n k r (drop s m) s (simp length-drop (omega arith)), ← z) refl
      by m s x false q e = inside m s x (fits m s (is_nleb _ _ q)) e

  -- bytes that have to be there as a whole, and a reader that ends where they do
  pub enclosed_goes : (n k : ℕ) (r : End → Reader A) {list : ℕ → List ℕ → ℕ → List Line} {value : List ℕ → ℕ → A} {end : List ℕ → ℕ → ℕ} → ((e : ℕ) → Goes (r (end_at e)) (list e) value end)
      → Goes (enclosed n k r) (λ m s. lacks n m s ∷ (list (s + n) m s ++ (unless k (eqb (end m s) (s + n)) ∷ []))) value (λ m s. s + n)
  enclosed_goes n k r {list = list} {end = end} h =
      goes_as (enclosed_inside n k r h) (λ m s. refl)
      (λ m s e.
      let last = unless k (eqb (end m s) (s + n)) in
      let (e₁, e₂) = join_none (list (s + n) m s) (last ∷ []) (one_none (lacks n m s) (list (s + n) m s ++ (last ∷ [])) e).1 in
      (refl, is_eqb _ _ (not_false (eqb (end m s) (s + n)) (one_none last [] e₂).0)))
    where
      not_false : (b : Bool) → not b ≡ false → b ≡ true
      not_false true q = refl
      not_false false q = absurd (false≢true (sym q))
