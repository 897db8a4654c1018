-- The search in an index, by halves. Assumes nothing.
use Prim.Native.Nat.{ℕ, ◌-◌, ◌<◌, ◌≤◌}
use native.Mathlib.Omega.{arith}
use mathlib.Core.Path.{◌≡◌, sym, ap, subst, ◌∙◌}
use mathlib.Core.List.{List}
use lib.ListN.{length, get_or, take}
use lib.Seq.{get_or-take, length-take-le}
use Rattle.std.specs.Prelude.{Result, Ok, Err}
use Rattle.std.specs.declared.cmp.Ordering.{Ordering}
use Rattle.std.specs.declared.cmp.Ordering.TheVariants.{Less, Equal, Greater}
use Rattle.std.specs.Ordering.{ordering_reverse}
use Rattle.format.specs.Fields.{Pair}
use Rattle.comparing.specs.Order.{compare_bytes}
use Rattle.comparing.proofs.Ordered.{Way, under, same, over, way, compare_equal, compare_flip, compare_trans}
use Rattle.index.specs.Index.{Index, Sought, Placed, Hit, Gap}

-- what is left of the search, and the place that is compared next
pub record Halved (is : ℕ → Ordering → Type 0) (s : List ℕ) (lo hi mid : ℕ) : Type 0 where
  pub gap : Gap is s lo hi
  pub left : lo ≤ mid
  pub right : lo < hi → mid < hi

-- A key that is compared with those of the first n numbers of s: since they ascend, what the neighbours of a place say, all say.
module _ (key : ℕ → List ℕ) (Good : ℕ → Type 0) (done : List Pair) (n : ℕ) (s k : List ℕ) (ix : Index key Good done n s) (room : n ≤ length s)
    (is : ℕ → Ordering → Type 0) (says : (x : ℕ) (o : Ordering) → Good x → is x o → o ≡ compare_bytes (key x) k) where
  abbrev first : List ℕ
  first = take n s

  at : (r : ℕ) → r < n → get_or first r 0 ≡ get_or s r 0
  at r h = get_or-take n s r 0 h

  said : (r : ℕ) (o : Ordering) → r < n → is (get_or first r 0) o → compare_bytes (key (get_or s r 0)) k ≡ o
  said r o h w = sym (says (get_or s r 0) o (ix.good r h) (subst (λ (x : ℕ). is x o) (at r h) w))

  hit_stands : (p : ℕ) → Hit is first p → Sought key n s k (Ok p)
  hit_stands p h =
      let l : length first ≡ n = length-take-le n s room in
      let w : p < n = omega (arith, h.within) in
      record { finds = record { within = w; is = compare_equal (key (get_or s p 0)) k (said p Equal w h.here) } }

  gap_between : (p : ℕ) → Gap is first p p → Sought key n s k (Err p)
  gap_between p g = record { finds = record { within = omega (arith, l, g.within); below = λ r h. low r h (way r (p - 1)); above = λ r h b. high r h b (way p r) } }
    where
      l : length first ≡ n
      l = length-take-le n s room

      before : 0 < p → compare_bytes (key (get_or s (p - 1) 0)) k ≡ Less
      before h = said (p - 1) Less (omega (arith, l, g.within)) (g.before h)

      behind : p < n → compare_bytes (key (get_or s p 0)) k ≡ Greater
      behind h = said p Greater h (g.behind (omega (arith, l)))

      low : (r : ℕ) → r < p → Way r (p - 1) → compare_bytes (key (get_or s r 0)) k ≡ Less
      low r h (under w) = compare_trans (key (get_or s r 0)) (key (get_or s (p - 1) 0)) k (ix.ascends r (p - 1) w (omega (arith, l, g.within))) (before (omega arith))
      low r h (same w) = rw w (before (omega arith))
      low r h (over w) = absurd (omega arith)

      high : (r : ℕ) → p ≤ r → r < n → Way p r → compare_bytes (key (get_or s r 0)) k ≡ Greater
      high r h b (under w) =
          let x : compare_bytes k (key (get_or s p 0)) ≡ Less = compare_flip (key (get_or s p 0)) k ∙ ap ordering_reverse (behind (omega arith)) in
          let y : compare_bytes k (key (get_or s r 0)) ≡ Less = compare_trans k (key (get_or s p 0)) (key (get_or s r 0)) x (ix.ascends p r w b) in
          compare_flip k (key (get_or s r 0)) ∙ ap ordering_reverse y
      high r h b (same w) = rw (sym w) (behind (omega arith))
      high r h b (over w) = absurd (omega arith)

  pub placed_sought : (w : Result ℕ ℕ) → Placed is first w → Sought key n s k w
  placed_sought (Ok p) h = hit_stands p h
  placed_sought (Err p) g = gap_between p g
