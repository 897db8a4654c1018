-- `valid_utf8_seq` is the grammar of RFC 3629: bytes are valid exactly where they are characters, one after the other, each of which
-- matches a row byte by byte. Assumes nothing.
use Prim.Native.Nat.{ℕ, suc, ◌≤◌, ◌<◌}
use mathlib.Core.Path.{◌≡◌, refl, sym, ap, ◌∙◌, subst}
use mathlib.Core.Bool.{Bool, true, false, cond, ◌&&◌, false≢true}
use mathlib.Core.Logic.{◌⊎◌, inl, inr, ⊎_elim}
use mathlib.Core.List.{List, [], ◌∷◌, ◌++◌}
use native.Mathlib.Omega.{arith}
use lib.Dec.{leb}
use borrow.Author.Tests.{leb-true, lt-leb}
use Rattle.format.specs.Utf8.{Range, ◌‥◌, has, rows, never, due, first_byte, octets, valid_utf8_seq}
use Rattle.format.specs.Pinned.{Match, done, byte, In, here, there, Octets, none, char}
use Rattle.format.proofs.Firsts.{both}

and_false : (t : Bool) → t && false ≡ false
and_false true = refl
and_false false = refl

pub above : (lo hi b : ℕ) → hi < b → leb lo b && leb b hi ≡ false
above lo hi b h = rw (lt-leb b hi h) (and_false (leb lo b))

pub never_any : (l : List ℕ) → octets l never ≡ false
unfolding octets
never_any [] = refl
never_any (b ∷ l) = refl

-- what is due matches, and whole characters follow
pub record Parsed (ds : List Range) (l : List ℕ) : Type 0 where
  pub now : List ℕ
  pub later : List ℕ
  pub split : l ≡ now ++ later
  pub fits : Match ds now
  pub rest : Octets later

pub record Begun (rs : List (List Range)) (b : ℕ) : Type 0 where
  pub range : Range
  pub ranges : List Range
  pub row : In (range ∷ ranges) rs
  pub holds : has range b ≡ true
  pub gives : first_byte rs b ≡ due ranges

begun : (rs : List (List Range)) (b : ℕ) → (first_byte rs b ≡ never) ⊎ Begun rs b
unfolding first_byte
begun [] b = inl refl
begun ([] ∷ rs) b = ⊎_elim (λ e. inl e) (λ g. inr (record { range = g.range; ranges = g.ranges; row = there g.row; holds = g.holds; gives = g.gives })) (begun rs b)
begun ((r ∷ ranges) ∷ rs) b = go (has r b) refl (begun rs b)
  where
    go : (t : Bool) → has r b ≡ t → (first_byte rs b ≡ never) ⊎ Begun rs b → (cond (has r b) (due ranges) (first_byte rs b) ≡ never) ⊎ Begun ((r ∷ ranges) ∷ rs) b
    go true e ih = inr (record { range = r; ranges = ranges; row = here; holds = e; gives = rw e refl })
    go false e ih = ⊎_elim (λ n. inl (rw e n)) (λ g. inr (record { range = g.range; ranges = g.ranges; row = there g.row; holds = g.holds; gives = rw e g.gives })) ih

parse : (l : List ℕ) (ds : List Range) → octets l (due ds) ≡ true → Parsed ds l
unfolding octets
parse [] [] e = record { now = []; later = []; split = refl; fits = done; rest = none }
parse [] (r ∷ ds) e = absurd (false≢true e)
parse (b ∷ l) [] e = ⊎_elim (λ n. absurd (false≢true (sym (ap (octets l) n ∙ never_any l) ∙ e))) (λ g. go g (parse l g.ranges (sym (ap (octets l) g.gives) ∙ e))) (begun rows b)
  where
    go : (g : Begun rows b) → Parsed g.ranges l → Parsed [] (b ∷ l)
    go g p = record { now = []; later = b ∷ l; split = refl; fits = done; rest = subst (λ (q : List ℕ). Octets (b ∷ q)) (sym p.split) (char g.row (byte g.holds p.fits) p.rest) }
parse (b ∷ l) (r ∷ ds) e =
    let h = both (has r b) (octets l (due ds)) e in
    let p = parse l ds h.1 in
    record { now = b ∷ p.now; later = p.later; split = ap (λ (q : List ℕ). b ∷ q) p.split; fits = byte h.0 p.fits; rest = p.rest }

-- valid bytes are characters
pub valid_octets : (l : List ℕ) → valid_utf8_seq l ≡ true → Octets l
valid_octets l e = go (parse l [] e)
  where
    whole : {ds : List Range} {c : List ℕ} → Match ds c → ds ≡ [] → (s : List ℕ) → c ++ s ≡ s
    whole done q s = refl
    whole (byte h m) q s = let z : ◌≡◌ {A = ℕ} 0 1 = cc in absurd (omega arith)

    go : Parsed [] l → Octets l
    go p = subst Octets (sym (p.split ∙ whole p.fits refl p.later)) p.rest

-- the rows' first ranges lie one above the other, so that no two rows begin with the same byte
ascending : ℕ → List (List Range) → Bool
ascending n [] = true
ascending n ([] ∷ rs) = false
ascending n ((lo ‥ hi ∷ ds) ∷ rs) = leb n lo && (leb lo hi && ascending (suc hi) rs)

rows_ascending : ascending 0 rows ≡ true
unfolding ascending rows
rows_ascending = refl

start : List Range → ℕ
start [] = 0
start (lo ‥ hi ∷ ds) = lo

start_le : (r : Range) (ds : List Range) (b : ℕ) → has r b ≡ true → start (r ∷ ds) ≤ b
unfolding start
start_le (lo ‥ hi) ds b e = leb-true lo b (both (leb lo b) (leb b hi) e).0

lowest : {row : List Range} {rs : List (List Range)} → In row rs → (n : ℕ) → ascending n rs ≡ true → n ≤ start row
unfolding ascending start
lowest (here {row = row} {rs = rs}) n e = go row e
  where
    go : (row : List Range) → ascending n (row ∷ rs) ≡ true → n ≤ start row
    go [] q = absurd (false≢true q)
    go (lo ‥ hi ∷ ds) q = leb-true n lo (both (leb n lo) (leb lo hi && ascending (suc hi) rs) q).0
lowest (there {row = row} {other = other} {rs = rs} i) n e = go other e (lowest i)
  where
    go : (other : List Range) → ascending n (other ∷ rs) ≡ true → ((k : ℕ) → ascending k rs ≡ true → k ≤ start row) → n ≤ start row
    go [] q ih = absurd (false≢true q)
    go (lo ‥ hi ∷ ds) q ih =
        let h = both (leb n lo) (leb lo hi && ascending (suc hi) rs) q in
        let g = both (leb lo hi) (ascending (suc hi) rs) h.1 in
        omega (arith, leb-true n lo h.0, leb-true lo hi g.0, ih (suc hi) g.1)

-- a row above does not begin with it
skip : (other : List Range) (rs : List (List Range)) (row : List Range) (n : ℕ) (r : Range) (ds : List Range) (b : ℕ) → ascending n (other ∷ rs) ≡ true → row ≡ r ∷ ds → has r b ≡ true
    → ((k : ℕ) → ascending k rs ≡ true → k ≤ start row)
    → ((k : ℕ) → ascending k rs ≡ true → (r : Range) (ds : List Range) (b : ℕ) → row ≡ r ∷ ds → has r b ≡ true → first_byte rs b ≡ due ds)
    → first_byte (other ∷ rs) b ≡ due ds
unfolding ascending first_byte
skip [] rs row n r ds b e q h low ih = absurd (false≢true e)
skip (lo ‥ hi ∷ os) rs row n r ds b e q h low ih =
    let g = both (leb lo hi) (ascending (suc hi) rs) (both (leb n lo) (leb lo hi && ascending (suc hi) rs) e).1 in
    let f : hi < b = omega (arith, low (suc hi) g.1, ap start q, start_le r ds b h) in
    rw (above lo hi b f) (ih (suc hi) g.1 r ds b q h)

-- the row that begins with a byte is the one that `first_byte` finds
finds : {row : List Range} {rs : List (List Range)} → In row rs → (n : ℕ) → ascending n rs ≡ true → (r : Range) (ds : List Range) (b : ℕ) → row ≡ r ∷ ds → has r b ≡ true → first_byte rs b ≡ due ds
unfolding first_byte
finds (here {row = row} {rs = rs}) n e r ds b q h = ap (λ (w : List Range). first_byte (w ∷ rs) b) q ∙ rw h refl
finds (there {row = row} {other = other} {rs = rs} i) n e r ds b q h = skip other rs row n r ds b e q h (lowest i) (finds i)

-- valid characters, one after the other
goes : {ds : List Range} {c : List ℕ} → Match ds c → (s : List ℕ) → octets (c ++ s) (due ds) ≡ octets s (due [])
unfolding octets
goes done s = refl
goes (byte h m) s = rw h (goes m s)

step : {row : List Range} {c : List ℕ} → In row rows → Match row c → (s : List ℕ) → valid_utf8_seq s ≡ true → valid_utf8_seq (c ++ s) ≡ true
unfolding octets
step i done s e = e
step i (byte {r = r} {rs = rs} {b = b} {bs = bs} h m) s e = ap (octets (bs ++ s)) (finds i 0 rows_ascending r rs b refl h) ∙ goes m s ∙ e

pub octets_valid : {l : List ℕ} → Octets l → valid_utf8_seq l ≡ true
unfolding octets
octets_valid none = refl
octets_valid (char {s = s} i m o) = step i m s (octets_valid o)
