-- The loop that copies an index. Assumes nothing.
use Prim.Native.Nat.{ℕ, ◌+◌, ◌<◌, ◌≤◌}
use native.Mathlib.Omega.{arith}
use mathlib.Core.Path.{◌≡◌, refl, ◌∙◌}
use mathlib.Core.List.{List}
use lib.ListN.{length, get_or, set, length-set}
use lib.Seq.{get_or-set_same, get_or-set_other}
use Rattle.comparing.proofs.Ordered.{Way, under, same, over, way}
use Rattle.index.specs.Index.{Copied}

-- the first i numbers of s stand in t, which was t₀
pub record Copying (s t₀ t : List ℕ) (i : ℕ) : Type 0 where
  pub room : length s ≤ length t
  pub long : length t ≡ length t₀
  pub same : (r : ℕ) → r < i → get_or t r 0 ≡ get_or s r 0

pub copying_start : (s t : List ℕ) → length s ≤ length t → Copying s t t 0
copying_start s t h = record { room = h; long = refl; same = λ r a. absurd (omega arith) }

module _ (s t₀ t : List ℕ) (i : ℕ) (inv : Copying s t₀ t i) where
  pub copying_more : i < length s → Copying s t₀ (set t i (get_or s i 0)) (i + 1)
  copying_more h = record { room = simp length-set inv.room; long = simp length-set inv.long; same = λ r a. go r a (way r i) }
    where
      go : (r : ℕ) → r < i + 1 → Way r i → get_or (set t i (get_or s i 0)) r 0 ≡ get_or s r 0
      go r a (under w) = get_or-set_other t i r (get_or s i 0) 0 (λ e. omega arith) ∙ inv.same r w
      go r a (same w) = rw w (get_or-set_same t i (get_or s i 0) 0 (omega (arith, inv.room)))
      go r a (over w) = absurd (omega arith)

  pub copying_end : length s ≤ i → Copied s t
  copying_end h = record { longer = inv.room; same = λ r a. inv.same r (omega arith) }
