-- The loops: of a text some is put, and the rest follows behind it; and texts for places that lie apart. Assumes nothing.
use mathlib.Core.Path.{◌≡◌}
use mathlib.Core.List.{List, [], ◌∷◌, ◌++◌}
use Prim.Native.Nat.{ℕ, zero, suc, ◌+◌, ◌-◌, ◌*◌, ◌≤◌, ◌<◌}
use native.Mathlib.Nat.{sub-zero, mul-zero, mul-suc, add-zero}
use native.Mathlib.Omega.{arith}
use Rattle.format.specs.Serialize.{images}
use Rattle.format.specs.Lent.{items, here}
use Rattle.format.specs.Demand3.{Each}
use Rattle.text.specs.declared.Text.{Text}
use Rattle.text.specs.Put.{Room, Put, All, texts}
use Rattle.text.proofs.Puts.{room_first, room_next, put_then, put_nothing}

pub record Going (whole rest : List ℕ) (t u : Text) : Type 0 where
  pub room : Room u rest
  pub ends : (v : Text) → Put rest u v → Put whole t v

module _ (whole : List ℕ) (t : Text) where
  pub going_start : Room t whole → Going whole whole t t
  going_start h = record { room = h; ends = λ v p. p }

  module _ (u : Text) where
    pub going_end : Going whole [] t u → Put whole t u
    going_end w = w.ends u (put_nothing u (omega (arith, w.room.fits)))

    module _ (a b : List ℕ) (w : Going whole (a ++ b) t u) where
      pub going_here : Room u a
      going_here = room_first a b u w.room

      pub going_more : (v : Text) → Put a u v → Going whole b t v
      going_more v p = record { room = room_next a b u v p w.room; ends = λ x q. w.ends x (put_then a b u v p x q) }

-- the places that are left after i of n
pub items_step : (k n i j next : ℕ) → i < n → j + k ≡ next → items here k (n - i) j ≡ j ∷ items here k (n - (i + 1)) next
unfolding items
items_step k n i j next h e = let f : n - i ≡ suc (n - (i + 1)) = omega arith in rw (f, e)

pub items_none : (k n i j : ℕ) → n ≤ i → items here k (n - i) j ≡ []
unfolding items
items_none k n i j h = let e : n - i ≡ 0 = omega arith in rw e

-- what holds at all the places holds at each
each_at : (P : ℕ → Type 0) (k n j : ℕ) → Each P (items here k n j) → (i : ℕ) → i < n → P (j + k * i)
unfolding items
each_at P k zero j h i l = absurd (omega arith)
each_at P k (suc n) j h zero l = rw (mul-zero, add-zero) h.0
each_at P k (suc n) j h (suc i) l =
    let e : j + k + k * i ≡ j + k * suc i = rw mul-suc (omega arith) in
    rw e at (each_at P k n (j + k) h.1 i (omega arith))

pub all_at : (P : ℕ → Type 0) (k n j : ℕ) → All P k n j → (i : ℕ) → i < n → P (j + k * i)
all_at P k n j a = each_at P k n j a.each

-- the invariant: a text is put for each of the first i places
pub record Row (g : ℕ → List ℕ) (k n first : ℕ) (t u : Text) (i : ℕ) : Type 0 where
  pub going : Going (texts g k n first) (texts g k (n - i) (first + k * i)) t u

module _ (g : ℕ → List ℕ) (k n first : ℕ) (t : Text) where
  pub row_start : Room t (texts g k n first) → Row g k n first t t 0
  row_start h = record { going = rw (sub-zero, mul-zero, add-zero) (going_start (texts g k n first) t h) }

  module _ (u : Text) (i : ℕ) (w : Row g k n first t u i) where
    pub row_end : n ≤ i → Put (texts g k n first) t u
    unfolding images
    row_end h = going_end (texts g k n first) t u (rw (items_none k n i (first + k * i) h) at w.going)

    module _ (h : i < n) where
      rest : Going (texts g k n first) (g (first + k * i) ++ texts g k (n - (i + 1)) (first + k * (i + 1))) t u
      unfolding images
      rest = rw (items_step k n i (first + k * i) (first + k * (i + 1)) h (omega arith)) at w.going

      pub row_here : Room u (g (first + k * i))
      row_here = going_here (texts g k n first) t u (g (first + k * i)) (texts g k (n - (i + 1)) (first + k * (i + 1))) rest

      pub row_more : (v : Text) → Put (g (first + k * i)) u v → Row g k n first t v (i + 1)
      row_more v p = record { going = going_more (texts g k n first) t u (g (first + k * i)) (texts g k (n - (i + 1)) (first + k * (i + 1))) rest v p }
