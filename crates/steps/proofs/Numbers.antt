-- Bytes and numbers at a place: one law over the width, and the numbers of 1, 2 and 4 bytes. Assumes nothing.
use mathlib.Core.Path.{◌≡◌, refl, sym, ap, ◌∙◌}
use mathlib.Core.Bool.{Bool, true, false}
use mathlib.Core.List.{List}
use Prim.Native.Nat.{ℕ, ◌+◌, ◌-◌, ◌≤◌, ◌<◌}
use native.Mathlib.Omega.{arith}
use lib.Dec.{leb}
use lib.ListN.{length, take, drop, length-drop}
use lib.Seq.{length-take-le}
use Rattle.format.specs.Read.{accepted, refused, at}
use Rattle.format.specs.Serialize.{Part, read, read_uint, read_uint8, read_uint16, read_uint32}
use Rattle.format.proofs.Tests.{is_leb, is_nleb}
use Rattle.format.proofs.Serialize.{read_fits, read_short}
use Rattle.format.proofs.First.{is_number8, is_number16, is_number32}
use Rattle.format.specs.Places.{number_here, number8, number16, number32, part_of}
use Rattle.steps.proofs.Tidy.{read_tidy}
use Rattle.steps.proofs.Steps.{refused_is_none, go, stop, gives}

pub length_part : (m : List ℕ) (s n : ℕ) → s + n ≤ length m → length (take n (drop s m)) ≡ n
length_part m s n h = length-take-le n (drop s m) (simp length-drop (omega arith))

-- n bytes
module _ (m : List ℕ) (s n : ℕ) where
  pub read_got : s + n ≤ length m → at (read n) m s ≡ accepted (part_of m s n) (s + n)
  unfolding at
  read_got h = rw (read_fits n (drop s m) s (simp length-drop (omega arith)))

  pub read_lacks : length m - s < n → at (read n) m s ≡ refused 2 (s + n)
  unfolding at
  read_lacks h = rw (read_short n (drop s m) s (simp length-drop (omega arith)))

  -- a reader sees only the bytes left: past the end it finds no bytes that are none
  pub read_no : s ≤ length m → length m < s + n → at (read n) m s ≡ refused 2 (s + n)
  read_no k h = read_lacks (omega arith)

pub record There (m : List ℕ) (s n : ℕ) (p : Part) (t : ℕ) : Type 0 where
  pub is : p ≡ part_of m s n
  pub tail : t ≡ s + n
  pub there : s + n ≤ length m

pub read_known : (m : List ℕ) (s n : ℕ) → s ≤ length m → (p : Part) (t : ℕ) → at (read n) m s ≡ accepted p t → There m s n p t
read_known m s n k p t e = by (leb (s + n) (length m)) refl
  where
    by : (b : Bool) → leb (s + n) (length m) ≡ b → There m s n p t
    by true q = let h = is_leb _ _ q in let z = sym (read_got m s n h) ∙ e in record { is = cc; tail = cc; there = h }
    by false q = refused_is_none (sym (read_no m s n k (is_nleb _ _ q)) ∙ e)

-- a number of some bytes
pub record Number (width : ℕ) (m : List ℕ) (s v t : ℕ) : Type 0 where
  pub is : v ≡ number_here width m s
  pub tail : t ≡ s + width
  pub there : s + width ≤ length m

module _ (width : ℕ) (m : List ℕ) (s : ℕ) where
  pub uint_got : s + width ≤ length m → at (read_uint width) m s ≡ accepted (number_here width m s) (s + width)
  unfolding read_uint
  uint_got h = go _ (read_tidy width) m s _ _ (read_got m s width h) ∙ gives _ m (s + width)

  module _ (some : 0 < width) where
    pub uint_no : length m < s + width → at (read_uint width) m s ≡ refused 2 (s + width)
    unfolding read_uint
    uint_no h = stop _ (read_tidy width) m s _ _ (read_lacks m s width (omega arith))

    pub uint_known : (v t : ℕ) → at (read_uint width) m s ≡ accepted v t → Number width m s v t
    uint_known v t e = by (leb (s + width) (length m)) refl
      where
        by : (b : Bool) → leb (s + width) (length m) ≡ b → Number width m s v t
        by true q = let h = is_leb _ _ q in let z = sym (uint_got h) ∙ e in record { is = cc; tail = cc; there = h }
        by false q = refused_is_none (sym (uint_no (is_nleb _ _ q)) ∙ e)

-- the numbers at the three widths, byte by byte
module _ (m : List ℕ) (s : ℕ) where
  pub uint8_got : s + 1 ≤ length m → at read_uint8 m s ≡ accepted (number8 m s) (s + 1)
  unfolding read_uint8
  uint8_got h = uint_got 1 m s h ∙ ap (λ v. accepted v (s + 1)) (is_number8 m s h)

  pub uint16_got : s + 2 ≤ length m → at read_uint16 m s ≡ accepted (number16 m s) (s + 2)
  unfolding read_uint16
  uint16_got h = uint_got 2 m s h ∙ ap (λ v. accepted v (s + 2)) (is_number16 m s h)

  pub uint32_got : s + 4 ≤ length m → at read_uint32 m s ≡ accepted (number32 m s) (s + 4)
  unfolding read_uint32
  uint32_got h = uint_got 4 m s h ∙ ap (λ v. accepted v (s + 4)) (is_number32 m s h)

  pub uint8_no : length m < s + 1 → at read_uint8 m s ≡ refused 2 (s + 1)
  unfolding read_uint8
  uint8_no h = uint_no 1 m s (omega arith) h

  pub uint16_no : length m < s + 2 → at read_uint16 m s ≡ refused 2 (s + 2)
  unfolding read_uint16
  uint16_no h = uint_no 2 m s (omega arith) h

  pub uint32_no : length m < s + 4 → at read_uint32 m s ≡ refused 2 (s + 4)
  unfolding read_uint32
  uint32_no h = uint_no 4 m s (omega arith) h

  pub uint8_known : (v t : ℕ) → at read_uint8 m s ≡ accepted v t → Number 1 m s v t
  unfolding read_uint8
  uint8_known v t e = uint_known 1 m s (omega arith) v t e

  pub uint16_known : (v t : ℕ) → at read_uint16 m s ≡ accepted v t → Number 2 m s v t
  unfolding read_uint16
  uint16_known v t e = uint_known 2 m s (omega arith) v t e

  pub uint32_known : (v t : ℕ) → at read_uint32 m s ≡ accepted v t → Number 4 m s v t
  unfolding read_uint32
  uint32_known v t e = uint_known 4 m s (omega arith) v t e
