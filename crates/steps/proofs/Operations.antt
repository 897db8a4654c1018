-- Refusal 1, and what an operation answers where it does not apply. Assumes nothing.
use mathlib.Core.Path.{◌≡◌, refl, sym, ◌∙◌}
use mathlib.Core.Bool.{Bool, true, false, ◌&&◌, false≢true}
use mathlib.Core.List.{List}
use Prim.Native.Nat.{ℕ, ◌≤◌, ◌<◌}
use lib.Dec.{leb}
use lib.ListN.{length}
use Rattle.format.specs.Read.{Reader, accepted, refused, at, addressable, operation}
use Rattle.format.proofs.Tests.{leb_is, nleb_is, is_leb}
use Rattle.steps.proofs.Steps.{refused_is_none}

module _ (m : List ℕ) (s : ℕ) where
  pub too_long : 4294967295 < length m → addressable m s ≡ false
  too_long h = rw (nleb_is (length m) 4294967295 h)

  pub too_far : 4294967295 < s → addressable m s ≡ false
  too_far h = rw (nleb_is s 4294967295 h) (none (leb (length m) 4294967295))
    where
      none : (b : Bool) → b && false ≡ false
      none true = refl
      none false = refl

  pub in_reach : length m ≤ 4294967295 → s ≤ 4294967295 → addressable m s ≡ true
  in_reach h k = rw (leb_is (length m) 4294967295 h, leb_is s 4294967295 k)

  pub reach : addressable m s ≡ true → (length m ≤ 4294967295) × (s ≤ 4294967295)
  reach e = by (leb (length m) 4294967295) refl (leb s 4294967295) refl e
    where
      by : (b : Bool) → leb (length m) 4294967295 ≡ b → (c : Bool) → leb s 4294967295 ≡ c → b && c ≡ true → (length m ≤ 4294967295) × (s ≤ 4294967295)
      by true p true q e = (is_leb _ _ p, is_leb _ _ q)
      by true p false q e = absurd (false≢true e)
      by false p c q e = absurd (false≢true e)

module _ {A : Type 0} (r : Reader A) (m : List ℕ) (s : ℕ) where
  -- by the guard's answer
  pub operation_guarded : addressable m s ≡ false → operation r m s ≡ refused 1 0
  unfolding operation
  operation_guarded e = rw (e, operation)

  pub operation_reached : addressable m s ≡ true → operation r m s ≡ at r m s
  unfolding operation
  operation_reached e = rw (e, operation)

  pub operation_long : 4294967295 < length m → operation r m s ≡ refused 1 0
  operation_long h = operation_guarded (too_long m s h)

  pub operation_far : 4294967295 < s → operation r m s ≡ refused 1 0
  operation_far h = operation_guarded (too_far m s h)

  pub operation_here : length m ≤ 4294967295 → s ≤ 4294967295 → operation r m s ≡ at r m s
  operation_here h k = operation_reached (in_reach m s h k)

  pub un_operation : (a : A) (t : ℕ) → operation r m s ≡ accepted a t → (length m ≤ 4294967295) × (s ≤ 4294967295) × (at r m s ≡ accepted a t)
  un_operation a t e = by (addressable m s) refl
    where
      by : (b : Bool) → addressable m s ≡ b → (length m ≤ 4294967295) × (s ≤ 4294967295) × (at r m s ≡ accepted a t)
      by true q = let z = reach m s q in (z.0, z.1, sym (operation_reached q) ∙ e)
      by false q = refused_is_none (sym (operation_guarded q) ∙ e)
