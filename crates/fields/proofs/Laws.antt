-- The ways out of the test of a frame length, one law each. Assumes nothing.
use Prim.Native.Nat.{ℕ}
use mathlib.Core.Path.{◌≡◌, refl}
use mathlib.Core.Bool.{Bool, true, false, ◌||◌, not}
use lib.Dec.{eqb}
use borrow.Author.Tests.{ne_eqb}
use Rattle.format.specs.Shared.{frame_fits}

module _ (content frame : ℕ) where
  pub non_framed : content ≡ 1 → eqb frame 0 ≡ frame_fits content frame
  unfolding frame_fits
  non_framed e = rw e (or_false (eqb frame 0))
    where
      or_false : (t : Bool) → t ≡ t || false
      or_false true = refl
      or_false false = refl

  pub framed : content ≡ 2 → not (eqb frame 0) ≡ frame_fits content frame
  unfolding frame_fits
  framed e = rw e

  pub neither : (content ≡ 1 → ⊥) → (content ≡ 2 → ⊥) → false ≡ frame_fits content frame
  unfolding frame_fits
  neither h k = rw (ne_eqb _ _ h, ne_eqb _ _ k)
