-- Laws of storing the two ends of a body, before the context section and behind the key section. Assumes nothing.
use Prim.Native.Nat.{ℕ, ◌+◌, ◌≤◌}
use native.Mathlib.Omega.{arith}
use mathlib.Core.Path.{◌≡◌, refl, ◌∙◌}
use mathlib.Core.Bool.{Bool, true, false, cond}
use mathlib.Core.List.{List, [], ◌∷◌, ◌++◌}
use lib.Dec.{eqb}
use lib.ListN.{length, take, drop}
use borrow.Author.Tests.{eq-eqb, ne_eqb}
use Rattle.format.specs.Serialize.{write_uint16, write_uint32}
use Rattle.format.specs.Body.{write_opening_of, write_closing_of}
use Rattle.format.proofs.Serialize.{length_uint16, length_uint32}
use Rattle.format.proofs.Ends.{top_long, end_long}
use Rattle.wire.specs.Stored.{stored}
use Rattle.checks.proofs.Writers.{chain, still_long, whole_bytes}
use Rattle.ends_write.specs.Ends.{write_opening, write_closing}

-- three stores, and four
three : (d x y z : List ℕ) (t u : ℕ) (a b c : List ℕ) → x ≡ stored d 0 a → y ≡ stored x t b → z ≡ stored y u c → t ≡ length a → u ≡ t + length b → u + length c ≤ length d
    → z ≡ stored d 0 (a ++ (b ++ c))
three d x y z t u a b c ex ey ez et eu h =
    let l = still_long d x 0 a ex (omega arith) in
    chain d x z 0 t a (b ++ c) ex (omega arith) (chain x y z t u b c ey eu ez (omega arith)) (omega arith)

four : (d x y z w : List ℕ) (t u v : ℕ) (a b c e : List ℕ) → x ≡ stored d 0 a → y ≡ stored x t b → z ≡ stored y u c → w ≡ stored z v e
    → t ≡ length a → u ≡ t + length b → v ≡ u + length c → v + length e ≤ length d → w ≡ stored d 0 (a ++ (b ++ (c ++ e)))
four d x y z w t u v a b c e ex ey ez ew et eu ev h =
    let l = still_long d x 0 a ex (omega arith) in
    let m = still_long x y t b ey (omega arith) in
    chain d x w 0 t a (b ++ (c ++ e)) ex (omega arith) (chain x y w t u b (c ++ e) ey eu (chain y z w u v c e ez ev ew (omega arith)) (omega arith)) (omega arith)

module _ (d x y z : List ℕ) where
  pub opening_one : (w : List ℕ) (version kind suite : ℕ) (id : List ℕ) → x ≡ stored d 0 (version ∷ []) → y ≡ stored x 1 (kind ∷ []) → z ≡ stored y 2 (write_uint16 suite)
      → w ≡ stored z 4 (take (length id) (drop 0 id)) → 4 + length id ≤ length d → w ≡ stored d 0 (write_opening true version kind suite id)
  unfolding write_opening write_opening_of
  opening_one w version kind suite id ex ey ez ew h =
      let l = length_uint16 suite in
      four d x y z w 1 2 4 (version ∷ []) (kind ∷ []) (write_uint16 suite) id ex ey ez (rw (whole_bytes id) at ew) refl refl (omega arith) h

  pub opening_two : (version suite : ℕ) (id : List ℕ) → x ≡ stored d 0 (version ∷ []) → y ≡ stored x 1 (write_uint16 suite)
      → z ≡ stored y 3 (take (length id) (drop 0 id)) → 3 + length id ≤ length d → z ≡ stored d 0 (write_opening false version 0 suite id)
  unfolding write_opening write_opening_of
  opening_two version suite id ex ey ez h =
      let l = length_uint16 suite in
      three d x y z 1 3 (version ∷ []) (write_uint16 suite) id ex ey (rw (whole_bytes id) at ez) refl (omega arith) h

  pub closing_one : (w : List ℕ) (content iv frame : ℕ) → x ≡ stored d 0 (content ∷ []) → y ≡ stored x 1 (write_uint32 0) → z ≡ stored y 5 (iv ∷ [])
      → w ≡ stored z 6 (write_uint32 frame) → 10 ≤ length d → w ≡ stored d 0 (write_closing true content iv frame [])
  unfolding write_closing write_closing_of
  closing_one w content iv frame ex ey ez ew h =
      let l = length_uint32 0 in
      let m = length_uint32 frame in
      four d x y z w 1 5 6 (content ∷ []) (write_uint32 0) (iv ∷ []) (write_uint32 frame) ex ey ez ew refl (omega arith) refl (omega arith)

  pub closing_two : (content frame : ℕ) (suiteData : List ℕ) → x ≡ stored d 0 (content ∷ []) → y ≡ stored x 1 (write_uint32 frame)
      → z ≡ stored y 5 (take (length suiteData) (drop 0 suiteData)) → 5 + length suiteData ≤ length d → z ≡ stored d 0 (write_closing false content 0 frame suiteData)
  unfolding write_closing write_closing_of
  closing_two content frame suiteData ex ey ez h =
      let l = length_uint32 frame in
      three d x y z 1 5 (content ∷ []) (write_uint32 frame) suiteData ex ey (rw (whole_bytes suiteData) at ez) refl (omega arith) h

-- by version
module _ (d o : List ℕ) (version : ℕ) where
  pub opening_first : (kind suite : ℕ) (id : List ℕ) → version ≡ 1 → o ≡ stored d 0 (write_opening true version kind suite id)
      → o ≡ stored d 0 (write_opening (eqb version 1) version kind suite id)
  opening_first kind suite id h e = e ∙ rw (eq-eqb _ _ h)

  pub opening_second : (kind suite : ℕ) (id : List ℕ) → (version ≡ 1 → ⊥) → o ≡ stored d 0 (write_opening false version 0 suite id)
      → o ≡ stored d 0 (write_opening (eqb version 1) version kind suite id)
  unfolding write_opening write_opening_of
  opening_second kind suite id h e = e ∙ rw (ne_eqb _ _ h)

  pub closing_first : (content iv frame : ℕ) (suiteData : List ℕ) → version ≡ 1 → o ≡ stored d 0 (write_closing true content iv frame [])
      → o ≡ stored d 0 (write_closing (eqb version 1) content iv frame suiteData)
  unfolding write_closing write_closing_of
  closing_first content iv frame suiteData h e = e ∙ rw (eq-eqb _ _ h)

  pub closing_second : (content iv frame : ℕ) (suiteData : List ℕ) → (version ≡ 1 → ⊥) → o ≡ stored d 0 (write_closing false content 0 frame suiteData)
      → o ≡ stored d 0 (write_closing (eqb version 1) content iv frame suiteData)
  unfolding write_closing write_closing_of
  closing_second content iv frame suiteData h e = e ∙ rw (ne_eqb _ _ h)

-- how long they are
pub opening_long : (t : Bool) (version kind suite : ℕ) (id : List ℕ) → length id ≡ cond t 16 32 → length (write_opening t version kind suite id) ≡ cond t 20 35
unfolding write_opening
opening_long = top_long

pub closing_long : (t : Bool) (content iv frame : ℕ) (suiteData : List ℕ) → length suiteData ≡ cond t 0 32 → length (write_closing t content iv frame suiteData) ≡ cond t 10 37
unfolding write_closing
closing_long = end_long

pub ends_fit : (t : Bool) (a b : ℕ) → a ≡ cond t 16 32 → b ≡ cond t 0 32 → (4 + a ≤ cond t 20 35 + 10) × (10 ≤ cond t 10 37) × (5 + b ≤ cond t 10 37)
ends_fit true a b e f = (omega arith, omega arith, omega arith)
ends_fit false a b e f = (omega arith, omega arith, omega arith)
