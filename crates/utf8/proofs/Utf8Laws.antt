-- The ways out of the functions that `is_utf8` is made of, one law each. Assumes nothing.
use Prim.Native.Nat.{ℕ, zero, suc, ◌+◌, ◌-◌, ◌≤◌, ◌<◌}
use mathlib.Core.Path.{◌≡◌, refl, sym, ap, subst, ◌∙◌}
use Rattle.std.specs.Prelude.{Option, Some, None}
use mathlib.Core.Bool.{Bool, true, false, cond, ◌&&◌, true≢false, false≢true}
use mathlib.Core.List.{List, [], ◌∷◌}
use native.Mathlib.Omega.{arith}
use native.Mathlib.Nat.{add-zero, zero-add, add-sub_cancel_left}
use borrow.Author.Count.{below_more}
use borrow.Author.Tests.{le-leb, lt-leb, leb-false}
use lib.ListN.{length, get_or, take, drop, length-drop}
use lib.Dec.{leb}
use Rattle.std.specs.List.{list_all, range_with_len}
use Rattle.std.proofs.lemmas.Bool.Decides.{nat_tests}
use Rattle.format.specs.Utf8.{Range, ◌‥◌, has, tail, rows, never, due, first_byte, octets, valid_utf8_seq}
use Rattle.format.proofs.Grammar.{never_any}
use Rattle.utf8.specs.Scan.{Low, tails, Tails, Scan, Two, Passed, Advanced}
use Rattle.utf8.proofs.Octets.{opens, follows, too_few, valid_end}

-- bytes below 128
pub passed_none : (m : List ℕ) (i : ℕ) → i ≤ length m → Passed m i i
passed_none m i h = record { after = omega arith; fits = h; goes = refl }

pub passed_on : (m : List ℕ) (i j k : ℕ) → Passed m i j → Passed m j k → Passed m i k
passed_on m i j k x y = record { after = omega arith; fits = y.fits; goes = x.goes ∙ y.goes }

pub passed_byte : (m : List ℕ) (i : ℕ) → i < length m → get_or m i 0 < 128 → Passed m i (i + 1)
unfolding rows first_byte
passed_byte m i h k = record { after = omega arith; fits = omega arith; goes = opens m i (due []) h (grind (arith, nat_tests)) }

pub passed_block : (m : List ℕ) (i n : ℕ) → i + n ≤ length m → ((k : ℕ) → k < n → get_or m (i + k) 0 < 128) → Passed m i (i + n)
passed_block m i zero h all = rw (add-zero i) (passed_none m i (omega arith))
passed_block m i (suc n) h all =
    let e : i + suc n ≡ i + n + 1 = omega arith in
    rw e (passed_on m i (i + n) (i + n + 1) (passed_block m i n (omega arith) (λ k p. all k (omega arith))) (passed_byte m (i + n) (omega arith) (all n (omega arith))))

-- a byte more, or a block more, of what was passed
pub byte_more : (m : List ℕ) (from i : ℕ) → Passed m from i → i < length m → get_or m i 0 < 128 → Passed m from (i + 1)
byte_more m from i x h k = passed_on m from i (i + 1) x (passed_byte m i h k)

pub block_more : (m : List ℕ) (from i n : ℕ) (high : Bool) → Passed m from i → n ≤ length m - i
    → Low m i n high → high ≡ false → Passed m from (i + n)
block_more m from i n high x h all e = passed_on m from i (i + n) x (passed_block m i n (omega (arith, x.fits)) (all.low e))

-- a block, byte by byte
pub high_is : (b : ℕ) (was : Bool) → 128 ≤ b → true ≡ cond (leb 128 b) true was
high_is b was h = sym (rw (le-leb 128 b h))

pub high_was : (b : ℕ) (was : Bool) → b < 128 → was ≡ cond (leb 128 b) true was
high_was b was h = sym (rw (lt-leb 128 b h))

pub low_none : (m : List ℕ) (i : ℕ) (high : Bool) → Low m i 0 high
low_none m i high = record { low = λ e k h. absurd (omega arith) }

pub low_more : (m : List ℕ) (i k : ℕ) (was is : Bool) → Low m i k was → is ≡ cond (leb 128 (get_or m (i + k) 0)) true was → Low m i (k + 1) is
low_more m i k was is x e = record { low = λ f. by (leb 128 (get_or m (i + k) 0)) refl (sym e ∙ f) }
  where
    by : (b : Bool) → leb 128 (get_or m (i + k) 0) ≡ b → cond b true was ≡ false → (j : ℕ) → j < k + 1 → get_or m (i + j) 0 < 128
    by true q f = absurd (true≢false f)
    by false q f = below_more _ _ (x.low f) (leb-false _ _ q)

pub low_all : (m : List ℕ) (i n k : ℕ) (is : Bool) → Low m i k is → n ≤ k → Low m i n is
low_all m i n k is x h = record { low = λ e j p. x.low e j (omega arith) }

-- the way of `ascii_end` that goes byte by byte, and that in blocks
module _ (m : List ℕ) (from : ℕ) (h : from < length m) (k : get_or m from 0 < 128) where
  pub ascii_bytes : (r : ℕ) → Passed m (from + 1) r → Advanced m from r
  ascii_bytes r x = record { passed = passed_on m from (from + 1) r (passed_byte m from h k) x; some = omega (arith, x.after) }

  pub ascii_alone : Advanced m from (from + 1)
  ascii_alone = record { passed = passed_byte m from h k; some = omega arith }

pub ascii_blocks : (m : List ℕ) (from wide narrow r : ℕ) (high : Bool) → 16 ≤ length m - from
    → Low m from 16 high → high ≡ false → from < length m
    → Passed m (from + 16) wide → Passed m wide narrow → Passed m narrow r → Advanced m from r
ascii_blocks m from wide narrow r high h all e q x y z =
    record {
      passed =
          passed_on m from (from + 16) r (passed_block m from 16 (omega arith) (all.low e)) (passed_on m (from + 16) wide r x (passed_on m wide narrow r y z));
      some = omega (arith, x.after, y.after, z.after);
    }

-- a byte in a range
pub range_below : (low high b : ℕ) → b < low → false ≡ has (low ‥ high) b
range_below low high b h = sym (rw (lt-leb low b h))

pub range_within : (low high b : ℕ) → low ≤ b → leb b high ≡ has (low ‥ high) b
range_within low high b h = sym (rw (le-leb low b h))

-- a test more, before what goes on where the others hold
both_ways : (t u v : Bool) → (t && cond u v false) ≡ cond (t && u) v false
both_ways true u v = refl
both_ways false u v = refl

-- the n bytes behind a character's second byte, from the a-th of them on
tails_from : (m : List ℕ) (i n a : ℕ) → i + a + n ≤ length m
    → octets (drop (i + a) m) (due (tails n)) ≡ cond (list_all (λ k. has tail (get_or m (i + k) 0)) (range_with_len a n)) (valid_utf8_seq (drop (i + (a + n)) m)) false
unfolding tails
tails_from m i zero a h = rw (add-zero a) refl
tails_from m i (suc n) a h =
    let t = has tail (get_or m (i + a) 0) in
    let u = list_all (λ k. has tail (get_or m (i + k) 0)) (range_with_len (a + 1) n) in
    let e : i + a + 1 ≡ i + (a + 1) = omega arith in
    let f : a + 1 + n ≡ a + suc n = omega arith in
    follows m (i + a) tail (tails n) t (omega arith) refl
    ∙ rw (e, ← f) (ap (λ (v : Bool). t && v) (tails_from m i n (a + 1) (omega arith)) ∙ both_ways t u _)

pub tails_all : (m : List ℕ) (i n : ℕ) (r : Bool) → i + n ≤ length m
    → r ≡ list_all (λ k. has tail (get_or m (i + k) 0)) (range_with_len 0 n) → Tails m i n r
tails_all m i n r h e =
    let x = tails_from m i n 0 (omega arith) in
    record { goes = rw e (rw (add-zero i, zero-add n) at x) }

length_tails : (n : ℕ) → length (tails n) ≡ n
unfolding tails
length_tails zero = refl
length_tails (suc n) = ap suc (length_tails n)

-- a character behind its first byte: its second byte, and n more
module _ (m : List ℕ) (i : ℕ) (r : Range) (n : ℕ) where
  pub longer_short : i < length m → length m - i < n + 2 → Scan m (i + 1) (r ∷ tails n) i None
  longer_short h k =
      let e : length (tails n) ≡ n = length_tails n in
      record { fits = tt; goes = too_few (drop (i + 1) m) (r ∷ tails n) (simp length-drop (omega arith)) }

  module _ (t : Bool) (h : n + 2 ≤ length m - i) (is : t ≡ has r (get_or m (i + 1) 0)) where
    pub longer_first : t ≡ false → Scan m (i + 1) (r ∷ tails n) i None
    longer_first e = record { fits = tt; goes = follows m (i + 1) r (tails n) false (omega arith) (sym is ∙ e) }

    second : t ≡ true → (u : Bool) → Tails m (i + 2) n u → octets (drop (i + 1) m) (due (r ∷ tails n)) ≡ cond u (valid_utf8_seq (drop (i + 2 + n) m)) false
    second e u x =
        let f : i + 1 + 1 ≡ i + 2 = omega arith in
        follows m (i + 1) r (tails n) true (omega arith) (sym is ∙ e) ∙ rw f x.goes

    pub longer_not : t ≡ true → (u : Bool) → Tails m (i + 2) n u → u ≡ false → Scan m (i + 1) (r ∷ tails n) i None
    longer_not e u x f = record { fits = tt; goes = second e u x ∙ rw f refl }

    pub longer_all : t ≡ true → (u : Bool) → Tails m (i + 2) n u → u ≡ true → Scan m (i + 1) (r ∷ tails n) i (Some (n + 2))
    longer_all e u x f =
        let g : i + 2 + n ≡ i + (n + 2) = omega arith in
        record { fits = (omega arith, omega arith); goes = second e u x ∙ rw (f, g) refl }

-- a character from its first byte on
module _ (m : List ℕ) (i : ℕ) (h : i < length m) where
  pub lead : (ds : List Range) (r : Option ℕ) → Scan m (i + 1) ds i r → first_byte rows (get_or m i 0) ≡ due ds → Scan m i [] i r
  lead ds r s e = record { fits = s.fits; goes = opens m i (due ds) h e ∙ s.goes }

  pub lead_none : first_byte rows (get_or m i 0) ≡ never → Scan m i [] i None
  lead_none e = record { fits = tt; goes = opens m i never h e ∙ never_any (drop (i + 1) m) }

-- a character of two bytes
pub two_not : (m : List ℕ) (i : ℕ) → Two m i false
two_not m i = record { stands = λ e. absurd (false≢true e) }

pub two_is : (m : List ℕ) (i : ℕ) (t : Bool) → i + 2 ≤ length m → 0xC2 ≤ get_or m i 0 → get_or m i 0 < 0xE0 → t ≡ has tail (get_or m (i + 1) 0) → Two m i t
unfolding rows first_byte
two_is m i t h p q is = record { stands = passed }
  where
    passed : t ≡ true → Passed m i (i + 2)
    passed e =
        let f : i + 1 + 1 ≡ i + 2 = omega arith in
        record {
          after = omega arith;
          fits = h;
          goes =
              opens m i (due (tail ∷ [])) (omega arith) (grind (arith, nat_tests))
              ∙ follows m (i + 1) tail [] true (omega arith) (sym is ∙ e)
              ∙ ap (λ (j : ℕ). valid_utf8_seq (drop j m)) f;
        }

pub two_more : (m : List ℕ) (from i : ℕ) (t : Bool) → Passed m from i → Two m i t → t ≡ true → Passed m from (i + 2)
two_more m from i t x y e = passed_on m from i (i + 2) x (y.stands e)

-- the loop of `is_utf8`
module _ (m : List ℕ) (i : ℕ) (x : Passed m 0 i) where
  pub char_none : (o : Option ℕ) → Scan m i [] i o → o ≡ None → false ≡ valid_utf8_seq m
  char_none o s e = sym (x.goes ∙ s.goes ∙ rw e refl)

  pub char_some : (o : Option ℕ) (n : ℕ) → Scan m i [] i o → o ≡ Some n → Passed m 0 (i + n)
  char_some o n s e =
      let t = subst (Scan m i [] i) e s in
      let f : (0 < n) × (i + n ≤ length m) = t.fits in
      record { after = omega arith; fits = f.1; goes = x.goes ∙ t.goes }

  pub all_passed : length m ≤ i → true ≡ valid_utf8_seq m
  all_passed h = sym (x.goes ∙ valid_end m i h)

-- a part, lent as a slice of its own
pub valid_part : (m : List ℕ) (s n : ℕ) (r : Bool) → r ≡ valid_utf8_seq (take (s + n - s) (drop s m)) → r ≡ valid_utf8_seq (take n (drop s m))
valid_part m s n r e = rw (add-sub_cancel_left s n) at e
