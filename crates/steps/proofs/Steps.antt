-- What a reader answers at a place of a message, step by step, as code goes from a place to the next. Assumes nothing.
use mathlib.Core.Path.{◌≡◌, refl, sym, ap, ◌∙◌}
use mathlib.Core.Bool.{Bool, true, false}
use mathlib.Core.List.{List, [], ◌∷◌, ◌++◌}
use Prim.Native.Nat.{ℕ, suc, ◌+◌, ◌-◌, ◌≤◌}
use native.Mathlib.Omega.{arith}
use lib.ListN.{length, drop, length-drop}
use Rattle.format.specs.Read.{ReadResult, success, more_needed, error, Reader, go_on, ◌>>=◌, ◌>>◌, return, test, End, past, held, repeat, Answer, accepted, refused, answer, at}
use Rattle.steps.proofs.Tidy.{Tidy, left_is}

module _ {A : Type 0} where
  -- a refusal accepts nothing
  pub refused_is_none : {C : Type 0} {k p : ℕ} {a : A} {t : ℕ} → ◌≡◌ {A = Answer A} (refused k p) (accepted a t) → C
  refused_is_none e = let z : ◌≡◌ {A = ℕ} 0 1 = cc in absurd (omega arith)

module _ {A B : Type 0} where
  -- what an answer is followed by
  abbrev pub onward : Answer A → (A → ℕ → Answer B) → Answer B
  onward (accepted a t) f = f a t
  onward (refused k p) f = refused k p

  pub onward_accepted : (o : Answer A) (f : A → ℕ → Answer B) (c : B) (u : ℕ) → onward o f ≡ accepted c u → (a : A) × (t : ℕ) × (o ≡ accepted a t) × (f a t ≡ accepted c u)
  onward_accepted (accepted a t) f c u e = (a, t, refl, e)
  onward_accepted (refused k p) f c u e = refused_is_none e

  at_bind : {r : Reader A} (f : A → Reader B) → Tidy r → (m : List ℕ) (s : ℕ) → at (r >>= f) m s ≡ onward (at r m s) (λ a t. at (f a) m t)
  unfolding ◌>>=◌ at
  at_bind {r} f hr m s = go (r (drop s m) s) refl
    where
      go : (x : ReadResult A) → r (drop s m) s ≡ x → answer (go_on x f) ≡ onward (answer x) (λ a t. at (f a) m t)
      go (success a l t) e = ap (λ y. answer (f a y t)) (left_is m s l t (hr.later (drop s m) s a l t e))
      go (more_needed p) e = refl
      go (error k) e = refl

  -- one thing and then another
  module _ {r : Reader A} (f : A → Reader B) (hr : Tidy r) (m : List ℕ) (s : ℕ) where
    pub go : (a : A) (t : ℕ) → at r m s ≡ accepted a t → at (r >>= f) m s ≡ at (f a) m t
    go a t e = rw (at_bind f hr m s, e)

    pub stop : (k p : ℕ) → at r m s ≡ refused k p → at (r >>= f) m s ≡ refused k p
    stop k p e = rw (at_bind f hr m s, e)

    pub un_bind : (c : B) (u : ℕ) → at (r >>= f) m s ≡ accepted c u → (a : A) × (t : ℕ) × (at r m s ≡ accepted a t) × (at (f a) m t ≡ accepted c u)
    un_bind c u e = onward_accepted (at r m s) (λ a t. at (f a) m t) c u (sym (at_bind f hr m s) ∙ e)

module _ {A : Type 0} where
  pub gives : (a : A) (m : List ℕ) (s : ℕ) → at (return a) m s ≡ accepted a s
  unfolding at return
  gives a m s = refl

  pub un_return : (x : A) (m : List ℕ) (s : ℕ) (a : A) (t : ℕ) → at (return x) m s ≡ accepted a t → (a ≡ x) × (t ≡ s)
  unfolding at return
  un_return x m s a t e = (cc, cc)

  -- a test
  module _ (k : ℕ) (b : Bool) (q : Reader A) (m : List ℕ) (s : ℕ) where
    pub pass : b ≡ true → at (test k b >> q) m s ≡ at q m s
    unfolding at test ◌>>◌
    pass e = rw e

    pub fail : b ≡ false → at (test k b >> q) m s ≡ refused k 0
    unfolding at test ◌>>◌
    fail e = rw e

  pub un_test : (k : ℕ) (b : Bool) (q : Reader A) (m : List ℕ) (s : ℕ) (a : A) (t : ℕ) → at (test k b >> q) m s ≡ accepted a t → (b ≡ true) × (at q m s ≡ accepted a t)
  unfolding at test ◌>>◌
  un_test k true q m s a t e = (refl, e)
  un_test k false q m s a t e = refused_is_none e

  -- the test of an end
  module _ (e : End) (n : ℕ) (q : Reader A) (m : List ℕ) (s : ℕ) where
    pub held_pass : past e (s + n) ≡ false → at (held e n >> q) m s ≡ at q m s
    unfolding at held test ◌>>◌
    held_pass h = rw h

    pub held_fail : past e (s + n) ≡ true → at (held e n >> q) m s ≡ refused 32 0
    unfolding at held test ◌>>◌
    held_fail h = rw h

    pub un_held : (a : A) (t : ℕ) → at (held e n >> q) m s ≡ accepted a t → (past e (s + n) ≡ false) × (at q m s ≡ accepted a t)
    un_held a t h = by (past e (s + n)) refl
      where
        by : (b : Bool) → past e (s + n) ≡ b → (past e (s + n) ≡ false) × (at q m s ≡ accepted a t)
        by true k = refused_is_none (sym (held_fail k) ∙ h)
        by false k = (k, sym (held_pass k) ∙ h)

  -- a tail lies at the start or behind it
  pub forward : {r : Reader A} → Tidy r → (m : List ℕ) (s : ℕ) (a : A) (t : ℕ) → at r m s ≡ accepted a t → s ≤ t
  unfolding at
  forward {r} hr m s a t e = by (r (drop s m) s) refl e
    where
      by : (x : ReadResult A) → r (drop s m) s ≡ x → answer x ≡ accepted a t → s ≤ t
      by (success b l u) q e' =
          let p : u ≡ t = cc in
          let d : u ≡ s + (hr.later (drop s m) s b l u q).bytes = (hr.later (drop s m) s b l u q).tail in
          omega arith
      by (more_needed p) q e' = refused_is_none e'
      by (error k) q e' = refused_is_none e'

  -- a tail lies within the message
  pub inside : {r : Reader A} → Tidy r → (m : List ℕ) (s : ℕ) → s ≤ length m → (a : A) (t : ℕ) → at r m s ≡ accepted a t → t ≤ length m
  unfolding at
  inside {r} hr m s h a t e = by (r (drop s m) s) refl e
    where
      by : (x : ReadResult A) → r (drop s m) s ≡ x → answer x ≡ accepted a t → t ≤ length m
      by (success b l u) q e' =
          let z = hr.later (drop s m) s b l u q in
          let p : u ≡ t = cc in
          let d : u ≡ s + z.bytes = z.tail in
          let k : z.bytes ≤ length m - s = rw (length-drop s m) at z.there in
          omega arith
      by (more_needed p) q e' = refused_is_none e'
      by (error k) q e' = refused_is_none e'

-- a counted repetition
module _ {A : Type 0} (step : List A → Reader A) (hs : (acc : List A) → Tidy (step acc)) (m : List ℕ) where
  pub all_read : (acc : List A) (s : ℕ) → at (repeat 0 step acc) m s ≡ accepted acc s
  unfolding repeat
  all_read acc s = gives acc m s

  module _ (n : ℕ) (acc : List A) (s : ℕ) where
    pub one_more : (a : A) (t : ℕ) → at (step acc) m s ≡ accepted a t → at (repeat (suc n) step acc) m s ≡ at (repeat n step (acc ++ (a ∷ []))) m t
    unfolding repeat
    one_more a t e = go (λ a. repeat n step (acc ++ (a ∷ []))) (hs acc) m s a t e

    pub one_stops : (k p : ℕ) → at (step acc) m s ≡ refused k p → at (repeat (suc n) step acc) m s ≡ refused k p
    unfolding repeat
    one_stops k p e = stop (λ a. repeat n step (acc ++ (a ∷ []))) (hs acc) m s k p e

    pub un_repeat : (out : List A) (u : ℕ) → at (repeat (suc n) step acc) m s ≡ accepted out u
        → (a : A) × (t : ℕ) × (at (step acc) m s ≡ accepted a t) × (at (repeat n step (acc ++ (a ∷ []))) m t ≡ accepted out u)
    unfolding repeat
    un_repeat out u e = un_bind (λ a. repeat n step (acc ++ (a ∷ []))) (hs acc) m s out u e
