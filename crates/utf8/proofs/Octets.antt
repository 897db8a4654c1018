-- One byte more of a sequence of octets. Assumes nothing.
use Prim.Native.Nat.{ℕ, ◌+◌, ◌≤◌, ◌<◌}
use mathlib.Core.Path.{◌≡◌, refl, ap, ◌∙◌}
use mathlib.Core.Bool.{Bool, true, false, ◌&&◌, and-false}
use mathlib.Core.List.{List, [], ◌∷◌}
use native.Mathlib.Omega.{arith}
use native.Mathlib.Numerals.{add-one}
use lib.ListN.{length, get_or, drop, drop_of_length-le}
use lib.Seq.{drop-cons}
use Rattle.format.specs.Utf8.{Range, has, rows, Due, due, first_byte, octets, valid_utf8_seq}

-- one byte more of a sequence
next : (m : List ℕ) (i : ℕ) → i < length m → drop i m ≡ get_or m i 0 ∷ drop (i + 1) m
next m i h = rw (add-one, drop-cons m i 0 h)

pub opens : (m : List ℕ) (i : ℕ) (d : Due) → i < length m → first_byte rows (get_or m i 0) ≡ d → valid_utf8_seq (drop i m) ≡ octets (drop (i + 1) m) d
unfolding octets
opens m i d h e = ap (λ (l : List ℕ). octets l (due [])) (next m i h) ∙ ap (octets (drop (i + 1) m)) e

pub follows : (m : List ℕ) (i : ℕ) (r : Range) (ds : List Range) (t : Bool) → i < length m → has r (get_or m i 0) ≡ t
    → octets (drop i m) (due (r ∷ ds)) ≡ t && octets (drop (i + 1) m) (due ds)
unfolding octets
follows m i r ds t h e = ap (λ (l : List ℕ). octets l (due (r ∷ ds))) (next m i h) ∙ ap (λ (u : Bool). u && octets (drop (i + 1) m) (due ds)) e

-- fewer bytes than are due
pub too_few : (l : List ℕ) (ds : List Range) → length l < length ds → octets l (due ds) ≡ false
unfolding octets
too_few [] [] h = absurd (omega arith)
too_few [] (r ∷ ds) h = refl
too_few (b ∷ l) [] h = absurd (omega arith)
too_few (b ∷ l) (r ∷ ds) h = ap (λ (t : Bool). has r b && t) (too_few l ds (omega arith)) ∙ and-false (has r b)

-- nothing is left
pub valid_end : (m : List ℕ) (i : ℕ) → length m ≤ i → valid_utf8_seq (drop i m) ≡ true
unfolding octets
valid_end m i h = ap (λ (l : List ℕ). octets l (due [])) (drop_of_length-le m h)
