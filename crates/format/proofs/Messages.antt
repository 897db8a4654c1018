-- A message read at a start: what refusal 1 leaves, and what was read of it. Assumes nothing.
use mathlib.Core.Path.{◌≡◌, refl, sym, ap, ◌∙◌}
use mathlib.Core.Bool.{Bool, true, false, ◌&&◌}
use mathlib.Core.List.{List, [], ◌∷◌, ◌++◌}
use Prim.Native.Nat.{ℕ, zero, suc, ◌+◌, ◌≤◌, ◌<◌}
use native.Mathlib.Omega.{arith}
use lib.Dec.{leb}
use lib.ListN.{length, drop}
use lib.Seq.{drop-drop, drop-append_seam}
use Rattle.format.specs.Read.{ReadResult, success, more_needed, error, Reader, go_on, ◌>>=◌, Answer, accepted, refused, answer, at, addressable, operation}
use Rattle.format.specs.Serialize.{Bytes}
use Rattle.format.proofs.Tests.{leb_is, nleb_is, is_leb, is_nleb}
use Rattle.format.proofs.Exact.{Took, Exact}

pub bytes_drop : (s : ℕ) (m : List ℕ) → Bytes m → Bytes (drop s m)
bytes_drop zero m h = h
bytes_drop (suc s) [] h = h
bytes_drop (suc s) (x ∷ m) (a, h) = bytes_drop s m h

module _ {A : Type 0} (r : Reader A) (m : List ℕ) (s : ℕ) where
  pub operation_long : 4294967295 < length m → operation r m s ≡ refused 1 0
  unfolding operation
  operation_long h = rw (nleb_is (length m) 4294967295 h, operation)

  pub operation_far : 4294967295 < s → operation r m s ≡ refused 1 0
  unfolding operation
  operation_far k = by (leb (length m) 4294967295)
    where
      by : (b : Bool) → ◌≡◌ {A = Answer A} (elim (b && leb s 4294967295) as (λ x. Answer A) [ true ↦ at r m s | false ↦ refused 1 0 ]) (refused 1 0)
      by true = rw (nleb_is s 4294967295 k) refl
      by false = refl

  pub operation_here : length m ≤ 4294967295 → s ≤ 4294967295 → operation r m s ≡ answer (r (drop s m) s)
  unfolding operation at
  operation_here h k = rw (leb_is (length m) 4294967295 h, leb_is s 4294967295 k, operation)

  -- the cases of an operation
  pub cases : {C : Type 0} → (operation r m s ≡ refused 1 0 → C) → (length m ≤ 4294967295 → s ≤ 4294967295 → operation r m s ≡ answer (r (drop s m) s) → C) → C
  cases {C} f g = by (leb (length m) 4294967295) refl (leb s 4294967295) refl
    where
      by : (b : Bool) → leb (length m) 4294967295 ≡ b → (c : Bool) → leb s 4294967295 ≡ c → C
      by true p true q = g (is_leb _ _ p) (is_leb _ _ q) (operation_here (is_leb _ _ p) (is_leb _ _ q))
      by true p false q = f (operation_far (is_nleb _ _ q))
      by false p c q = f (operation_long (is_nleb _ _ p))

module _ {A : Type 0} where
  pub refused_is_no_accepted : {C : Type 0} {k p : ℕ} {a : A} {t : ℕ} → ◌≡◌ {A = Answer A} (refused k p) (accepted a t) → C
  refused_is_no_accepted e = let z : ◌≡◌ {A = ℕ} 0 1 = cc in absurd (omega arith)

  opened : (x : ReadResult A) (a : A) (t : ℕ) → answer x ≡ accepted a t → (l : List ℕ) × (x ≡ success a l t)
  opened (success b l u) a t e = (l, cc)
  opened (more_needed p) a t e = refused_is_no_accepted e
  opened (error k) a t e = refused_is_no_accepted e

  -- what an exact reader took at a place
  pub at_took : {W : Type 0} {r : Reader A} {ok : W → Type 0} {img : W → List ℕ} {put : ℕ → W → A} → Exact r ok img put → (m : List ℕ) (s : ℕ) → Bytes m → (a : A) (t : ℕ)
      → at r m s ≡ accepted a t → (l : List ℕ) × Took ok img put (drop s m) s a l t
  unfolding at
  at_took {r = r} h m s hb a t e = let (l, q) = opened (r (drop s m) s) a t e in (l, h.sound (drop s m) s a l t (bytes_drop s m hb) q)

  -- an accepted operation read at its start
  pub accepted_inside : (r : Reader A) (m : List ℕ) (s : ℕ) (a : A) (t : ℕ) → operation r m s ≡ accepted a t → (l : List ℕ) × (r (drop s m) s ≡ success a l t)
  accepted_inside r m s a t e = cases r m s (λ no. refused_is_no_accepted (sym no ∙ e)) (λ h k is. opened (r (drop s m) s) a t (sym is ∙ e))

  -- what an exact reader took of a message
  pub accepted_took : {W : Type 0} {r : Reader A} {ok : W → Type 0} {img : W → List ℕ} {put : ℕ → W → A} → Exact r ok img put → (m : List ℕ) (s : ℕ) → Bytes m → (a : A) (t : ℕ)
      → operation r m s ≡ accepted a t → (l : List ℕ) × Took ok img put (drop s m) s a l t
  accepted_took {r = r} h m s hb a t e = let (l, q) = accepted_inside r m s a t e in (l, h.sound (drop s m) s a l t (bytes_drop s m hb) q)

-- an operation that goes on
module _ {A B : Type 0} (r : Reader A) (f : A → Reader B) (m : List ℕ) (s : ℕ) where
  pub refused_stays : (k p : ℕ) → operation r m s ≡ refused k p → operation (r >>= f) m s ≡ refused k p
  unfolding operation at ◌>>=◌
  refused_stays k p e = go (addressable m s) e
    where
      inner : (x : ReadResult A) → answer x ≡ refused k p → answer (go_on x f) ≡ refused k p
      inner (success a l t) e = let z : ◌≡◌ {A = ℕ} 0 1 = cc in absurd (omega arith)
      inner (more_needed w) e = cc
      inner (error j) e = cc

      go : (b : Bool) → ◌≡◌ {A = Answer A} (elim b as (λ x. Answer A) [ true ↦ answer (r (drop s m) s) | false ↦ refused 1 0 ]) (refused k p)
          → ◌≡◌ {A = Answer B} (elim b as (λ x. Answer B) [ true ↦ answer (go_on (r (drop s m) s) f) | false ↦ refused 1 0 ]) (refused k p)
      go true e = inner (r (drop s m) s) e
      go false e = cc

  pub accepted_goes_on : (a : A) (t : ℕ) → operation r m s ≡ accepted a t → (l : List ℕ) × (operation (r >>= f) m s ≡ answer (f a l t))
  unfolding ◌>>=◌
  accepted_goes_on a t e =
      cases r m s (λ no. refused_is_no_accepted (sym no ∙ e)) (λ h k is.
      let (l, q) = opened (r (drop s m) s) a t (sym is ∙ e) in
      (l, operation_here (r >>= f) m s h k ∙ ap (λ x. answer (go_on x f)) q))

-- the bytes behind what was taken are those from the tail on
pub rest_is : (m : List ℕ) (s : ℕ) (l b : List ℕ) (t : ℕ) → drop s m ≡ b ++ l → t ≡ s + length b → l ≡ drop t m
rest_is m s l b t e d = sym (ap (λ k. drop k m) d ∙ sym (drop-drop (length b) s m) ∙ ap (drop (length b)) e ∙ drop-append_seam b l)
