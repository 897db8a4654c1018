-- Laws of marking: a key that the index has marks its place, and in the end just the places of required keys are marked.
-- Assumes nothing.
use Prim.Native.Nat.{ℕ, zero, suc, ◌+◌, ◌*◌, ◌-◌, ◌≤◌, ◌<◌}
use native.Mathlib.Numerals.{add-one}
use native.Mathlib.Omega.{arith}
use mathlib.Core.Path.{◌≡◌, refl, sym, ap, ◌∙◌}
use mathlib.Core.Bool.{Bool, true, false, cond, ◌||◌}
use mathlib.Core.List.{List, ◌∷◌, ◌++◌}
use lib.ListN.{length, get_or, set}
use lib.Seq.{get_or-set_same, get_or-set_other}
use Rattle.std.specs.Prelude.{Result, Ok, Err}
use Rattle.std.specs.Ordering.{ordering_reverse}
use Rattle.std.specs.declared.cmp.Ordering.TheVariants.{Greater}
use Rattle.format.specs.Serialize.{same_bytes}
use Rattle.format.specs.Fields.{Pair}
use Rattle.format.specs.Lent.{items, part_in}
use Rattle.format.specs.OnlyAuthenticated.{is_among, only_required, context_to_only_authenticate}
use Rattle.comparing.specs.Order.{compare_bytes}
use Rattle.comparing.proofs.Ordered.{Way, under, same, over, way, compare_flip, same_refl, less_not_same, greater_not_same}
use Rattle.index.specs.Index.{numbered, Sorts, Sought, Stands, Between}
use Rattle.index.proofs.Grown.{sought_stands, sought_between}
use Rattle.pair_index.specs.Index.{key_of, pair_from, first_pairs}
use Rattle.pair_index.specs.declared.PairIndex.{PairIndex}
use Rattle.checks.proofs.Items.{items_step, items_none}
use Rattle.only_authenticated.specs.Marks.{key_in, pair_in, marked_at, marked, MarksOne, MarksAll}

-- one key
module _ (x : PairIndex) (k : List ℕ) (marks : List Bool) (w : Result ℕ ℕ) (h : Sought (key_of x.m.now x.first) x.n x.keys.now k w) where
  pub mark_absent : (p : ℕ) → w ≡ Err p → MarksOne x k marks marks
  mark_absent p e = record { is = λ i l. ap (λ (b : Bool). b || get_or marks i false) (sym (differs i l (way i p))) }
    where
      b : Between (key_of x.m.now x.first) x.n x.keys.now k p
      b = sought_between _ _ _ k w h p e

      differs : (i : ℕ) → i < x.n → Way i p → same_bytes (key_in x i) k ≡ false
      differs i l (under u) = less_not_same _ k (b.below i u)
      differs i l (same u) = greater_not_same _ k (b.above i (omega arith) l)
      differs i l (over u) = greater_not_same _ k (b.above i (omega arith) l)

  module _ (p : ℕ) (e : w ≡ Ok p) where
    there : Stands (key_of x.m.now x.first) x.n x.keys.now k p
    there = sought_stands _ _ _ k w h p e

    pub mark_room : length x.keys.now ≡ length marks → p < length marks
    mark_room l = let y = there in omega (arith, x.room)

    pub mark_found : length x.keys.now ≡ length marks → MarksOne x k marks (set marks p true)
    mark_found long = record { is = λ i l. by i l (way i p) }
      where
        other : (i : ℕ) → i < x.n → (i ≡ p → ⊥) → same_bytes (key_in x i) k ≡ false → get_or (set marks p true) i false ≡ same_bytes (key_in x i) k || get_or marks i false
        other i l d f = rw (f, get_or-set_other marks p i true false d) refl

        by : (i : ℕ) → i < x.n → Way i p → get_or (set marks p true) i false ≡ same_bytes (key_in x i) k || get_or marks i false
        by i l (under u) = other i l (λ q. omega arith) (rw (← there.is) (less_not_same _ _ (x.indexed.ascends i p u there.within)))
        by i l (same u) = rw (u, get_or-set_same marks p true false (mark_room long), there.is, same_refl k) refl
        by i l (over u) =
            let less = x.indexed.ascends p i u l in
            let more : compare_bytes (key_in x i) (key_in x p) ≡ Greater = compare_flip (key_in x p) (key_in x i) ∙ ap ordering_reverse less in
            other i l (λ q. omega arith) (rw (← there.is) (greater_not_same _ _ more))

-- the loop over the required keys: what is marked, or is still to be marked, are the places of all of them
pub record Marking (x : PairIndex) (text table : List ℕ) (marks₀ marks : List Bool) (c i : ℕ) : Type 0 where
  pub some : i ≤ c
  pub long : length marks ≡ length marks₀
  pub left : (j : ℕ) → j < x.n → is_among (items (part_in text table) 2 c 0) (key_in x j) ≡ get_or marks j false || is_among (items (part_in text table) 2 (c - i) (2 * i)) (key_in x j)

module _ (x : PairIndex) (text table : List ℕ) (marks₀ marks : List Bool) (c i : ℕ) (inv : Marking x text table marks₀ marks c i) where
  pub marking_end : c ≤ i → MarksAll x (items (part_in text table) 2 c 0) marks
  unfolding is_among
  marking_end h = record { is = λ j l. sym (inv.left j l ∙ rw (items_none (part_in text table) 2 c i (2 * i) h) (or_false (get_or marks j false))) }
    where
      or_false : (b : Bool) → b || false ≡ b
      or_false true = refl
      or_false false = refl

  pub marking_more : i < c → (k : List ℕ) → k ≡ part_in text table (2 * i) → (after : List Bool) → length after ≡ length marks → MarksOne x k marks after → Marking x text table marks₀ after c (i + 1)
  unfolding is_among
  marking_more h k e after l one =
      let next : 2 * i + 2 ≡ 2 * (i + 1) = omega arith in
      record {
        some = omega arith;
        long = l ∙ inv.long;
        left = λ j d.
            inv.left j d
            ∙ rw (items_step (part_in text table) 2 c i (2 * i) h, next, one.is j d, e)
            (turn (get_or marks j false) (same_bytes (key_in x j) (part_in text table (2 * i))) _);
      }
    where
      turn : (a b d : Bool) → a || (b || d) ≡ (b || a) || d
      turn true true d = refl
      turn true false d = refl
      turn false true d = refl
      turn false false d = refl

-- the marked pairs are the required ones, in the order of the index
marked_required : (x : PairIndex) (marks : List Bool) (keys : List (List ℕ)) (n i : ℕ) → ((j : ℕ) → i ≤ j → j < i + n → get_or marks j false ≡ is_among keys (pair_in x j).key)
    → marked x marks n i ≡ only_required keys (numbered (pair_from x.m.now x.first) x.keys.now n i)
unfolding marked marked_at numbered only_required
marked_required x marks keys zero i h = refl
marked_required x marks keys (suc n) i h =
    rw (add-one i) (by (is_among keys (pair_in x i).key) (h i (omega arith) (omega arith)) (marked_required x marks keys n (suc i) (λ j a b. h j (omega arith) (omega arith))))
  where
    rest : List Pair
    rest = only_required keys (numbered (pair_from x.m.now x.first) x.keys.now n (suc i))

    by : (b : Bool) → get_or marks i false ≡ b → marked x marks n (suc i) ≡ rest → marked_at x marks i ++ marked x marks n (suc i) ≡ cond b (pair_in x i ∷ rest) rest
    by true e ih = rw (e, ih) refl
    by false e ih = rw (e, ih) refl

pub marked_selects : (x : PairIndex) (keys : List (List ℕ)) (marks : List Bool) → MarksAll x keys marks → Sorts (pair_from x.m.now x.first) (first_pairs x.m.now x.first x.n) x.n x.keys.now → marked x marks x.n 0 ≡ context_to_only_authenticate keys (first_pairs x.m.now x.first x.n)
unfolding key_of
marked_selects x keys marks all sorts = marked_required x marks keys x.n 0 (λ j a b. all.is j (omega arith)) ∙ ap (only_required keys) sorts.is
