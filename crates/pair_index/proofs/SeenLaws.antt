-- Laws of the search for a key in the index. Assumes nothing.
use mathlib.Core.Path.{◌≡◌, sym}
use mathlib.Core.Bool.{false}
use mathlib.Core.List.{List, [], ◌∷◌, ◌++◌, map-append}
use Prim.Native.Nat.{ℕ, suc, ◌+◌, ◌-◌, ◌≤◌}
use native.Mathlib.Omega.{arith}
use lib.ListN.{length}
use Rattle.format.specs.Fields.{pair_of}
use Rattle.format.specs.Places.{items_here, pair_here, pair_end, pairs_here, pairs_end}
use Rattle.entries.proofs.Items.{here_snoc}
use Rattle.index.specs.Index.{Sought, Shifted, Copied}
use Rattle.std.specs.Prelude.{Result, Err}
use Rattle.index.proofs.Grown as ordered
use Rattle.index.proofs.Sorted.{sorts_start, sorts_copied, sorts_more}
use Rattle.pair_index.specs.Index.{key_at, key_of, pair_from, PairInside, first_pairs, Indexed, Ready, Added}

-- no key yet
pub indexed_start : (m : List ℕ) (first : ℕ) (s : List ℕ) → Indexed m first 0 s
unfolding items_here
indexed_start m first s = record { index = ordered.index_start (key_of m first) (PairInside m first) s; sorts = sorts_start (pair_from m first) s }

-- in a larger array
pub indexed_copied : (m : List ℕ) (first n : ℕ) (s t : List ℕ) → Indexed m first n s → n ≤ length s → Copied s t → Indexed m first n t
indexed_copied m first n s t ix h c =
    record {
      index = ordered.index_copied (key_of m first) (PairInside m first) (first_pairs m first n) n s ix.index h t c;
      sorts = sorts_copied (pair_from m first) (first_pairs m first n) n s t ix.sorts h c;
    }

-- one more pair
one_more : (m : List ℕ) (first n at : ℕ) → at ≡ pairs_end m n first → first_pairs m first (suc n) ≡ first_pairs m first n ++ (pair_of (pair_here m at) ∷ [])
one_more m first n at e =
    rw (here_snoc pair_here pair_end m n first, ← e) (map-append pair_of (pairs_here m n first) (pair_here m at ∷ []))

-- the ways out of `seen_or_add`
module _ (m : List ℕ) (first n at : ℕ) (s : List ℕ) (ready : Ready m first n at s) (k : List ℕ) (is : k ≡ key_at m at) (w : Result ℕ ℕ)
    (h : Sought (key_of m first) n s k w) where
  sought : Sought (key_of m first) n s (key_at m at) w
  sought = rw (← is) h

  pub added_new : (p : ℕ) → w ≡ Err p → (t : List ℕ) → Shifted s t p n (at - first) → Added m first n at t false
  unfolding key_of
  added_new p e t sh =
      let b = ordered.sought_between _ _ _ _ w sought p e in
      let ix = ready.indexed in
      let is : first + (at - first) ≡ at = omega (arith, ready.behind) in
      let q = pair_of (pair_here m at) in
      let grown = ordered.index_more (key_of m first) (PairInside m first) (first_pairs m first n) n s ix.index q (at - first) p (rw is) b t sh (record { inside = rw is ready.inside }) in
      let sorted = rw is at (sorts_more (pair_from m first) (first_pairs m first n) n s t (at - first) p (rw is b) sh ix.sorts) in
      record {
        answer = sym (ordered.between_unseen (key_of m first) (PairInside m first) (first_pairs m first n) n s ix.index (key_at m at) p b);
        after = λ _. record { index = rw (one_more m first n at ready.here) grown; sorts = rw (one_more m first n at ready.here) sorted };
      }
