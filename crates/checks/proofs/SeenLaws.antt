-- Laws of the search for a key in the index. Assumes nothing.
use Prim.Native.Nat.{ℕ, ◌+◌, ◌*◌, ◌/◌, ◌≤◌, ◌<◌}
use native.Mathlib.Nat.{zero-add}
use native.Mathlib.Numerals.{add-one}
use native.Mathlib.Omega.{arith}
use mathlib.Core.Path.{◌≡◌, refl, sym, subst, ◌∙◌}
use mathlib.Core.Bool.{Bool, true}
use mathlib.Core.List.{List, [], ◌∷◌, ◌++◌}
use lib.ListN.{length}
use Rattle.format.specs.Checks.{first, each, pair_checks}
use Rattle.format.specs.Lent.{items, part_in, pair_in, pairs_in}
use Rattle.wire.specs.declared.refusals.Refusal.{Refusal}
use Rattle.index.specs.Index.{Sought, Shifted, Copied}
use Rattle.index.proofs.Grown.{index_start, index_copied, index_more, between_unseen, sought_between}
use Rattle.checks.specs.Table.{Within}
use Rattle.checks.specs.Answers.{Checked, checked}
use Rattle.checks.specs.Each.{Each}
use Rattle.checks.specs.Seen.{key_of, KeyThere, Indexed, IndexedWhere, New, IndexedAfter, PairChecked, Reached, UpTo, CheckedUpTo}
use Rattle.checks.proofs.Items.{items_snoc}
use Rattle.checks.proofs.Loops.{each_start, each_more, each_bad, each_end}
use Rattle.std.specs.Prelude.{Result, Ok, Err}

pub indexed_none : (text table s : List ℕ) → Indexed text table 0 s
unfolding items
indexed_none text table s = record { index = index_start (key_of text table) (KeyThere text table) s }

module _ (text table : List ℕ) (i : ℕ) (s : List ℕ) (ix : Indexed text table i s) (k : List ℕ) (is : k ≡ part_in text table (4 * i)) (w : Result ℕ ℕ)
    (h : Sought (key_of text table) i s k w) where
  sought : Sought (key_of text table) i s (part_in text table (4 * i)) w
  sought = rw (← is) h

  pub new_yes : (p : ℕ) → w ≡ Err p → Within text table (4 * i) → (t : List ℕ) → Shifted s t p i i → New text table i t true
  unfolding key_of
  new_yes p e there t sh =
      let b = sought_between _ _ _ _ w sought p e in
      let q = pair_in text table (4 * i) in
      let same_key : key_of text table i ≡ q.key = refl in
      let more : items (pair_in text table) 4 (i + 1) 0 ≡ items (pair_in text table) 4 i 0 ++ (q ∷ []) = rw (add-one, items_snoc (pair_in text table) 4 i 0, zero-add) in
      let grown = index_more (key_of text table) (KeyThere text table) (items (pair_in text table) 4 i 0) i s ix.index q i p same_key b t sh (record { there = there }) in
      record {
        is = rw (between_unseen (key_of text table) (KeyThere text table) (items (pair_in text table) 4 i 0) i s ix.index (part_in text table (4 * i)) p b);
        after = record { index = rw (more, add-one) grown };
      }

-- what the checks of a pair leave of the index
pub after_fails : (text table : List ℕ) (n : ℕ) (s : List ℕ) (r : Checked) (q : Refusal) → r ≡ Err q → IndexedAfter r text table n s
after_fails text table n s r q e = subst (λ (c : Checked). IndexedAfter c text table n s) (sym e) tt

pub after_passes : (text table : List ℕ) (i : ℕ) (s : List ℕ) (t : Bool) → New text table i s t → t ≡ true → Indexed text table (i + 1) s
after_passes text table i s t h e = subst (λ (b : Bool). IndexedWhere b text table (i + 1) s) e h.after

-- the loop over the pairs: i of them pass, on the way to k
pub record Pass (text table : List ℕ) (k : ℕ) (s₀ s : List ℕ) (i : ℕ) : Type 0 where
  pub checks : Each pair_checks (pair_in text table) 4 (length table / 4) i
  pub index : Indexed text table i s
  pub some : i ≤ k
  pub most : k ≤ length table / 4
  pub room : k ≤ length s₀
  pub long : length s ≡ length s₀

pub pass_start : (text table : List ℕ) (k : ℕ) (s : List ℕ) (i : ℕ) → Reached text table i s → i ≤ k → k ≤ length table / 4 → k ≤ length s → Pass text table k s s i
pass_start text table k s i there h g r = record { checks = there.checks; index = there.index; some = h; most = g; room = r; long = refl }

module _ (text table : List ℕ) (k : ℕ) (s₀ s : List ℕ) (i : ℕ) (e : Pass text table k s₀ s i) where
  pub pass_end : k ≤ i → CheckedUpTo text table k s (Ok tt)
  pass_end h =
      let z : i ≡ k = omega (arith, e.some) in
      let there : Reached text table i s = record { checks = e.checks; room = omega (arith, e.room, e.long); index = e.index } in
      record { up_to = subst (λ (j : ℕ). Reached text table j s) z there }

  module _ (h : i < k) where
    pub pass_below : i < length table / 4
    pass_below = omega (arith, e.most)

    pub pass_room : i < length s
    pass_room = omega (arith, e.room, e.long)

    module _ (t : List ℕ) (c : Checked) (p : PairChecked text table i t c) where
      pub pass_bad : (r : Refusal) → c ≡ Err r → CheckedUpTo text table k t (Err r)
      pass_bad r q = record { up_to = each_bad pair_checks (pair_in text table) 4 (length table / 4) i e.checks pass_below c p.is r q }

      pub pass_more : c ≡ Ok tt → length t ≡ length s → Pass text table k s₀ t (i + 1)
      pass_more q l =
          record {
            checks = each_more pair_checks (pair_in text table) 4 (length table / 4) i e.checks pass_below c p.is q;
            index = subst (λ (x : Checked). IndexedAfter x text table (i + 1) t) q p.after;
            some = omega arith;
            most = e.most;
            room = e.room;
            long = l ∙ e.long;
          }

-- the checks of all pairs, with one index after another
pub reached_start : (text table s : List ℕ) → Reached text table 0 s
reached_start text table s = record { checks = each_start pair_checks (pair_in text table) 4 (length table / 4); room = omega arith; index = indexed_none text table s }

module _ (text table : List ℕ) (i : ℕ) (s : List ℕ) (there : Reached text table i s) where
  pub reached_some : i ≤ length table / 4
  reached_some = there.checks.some

  pub reached_room : i ≤ length s
  reached_room = there.room

  pub reached_copied : (t : List ℕ) → Copied s t → Reached text table i t
  reached_copied t c =
      record {
        checks = there.checks;
        room = omega (arith, there.room, c.longer);
        index = record { index = index_copied (key_of text table) (KeyThere text table) (items (pair_in text table) 4 i 0) i s there.index.index there.room t c };
      }

module _ (text table : List ℕ) (i : ℕ) (s : List ℕ) (r : Checked) (h : CheckedUpTo text table i s r) where
  pub up_to_fails : (q : Refusal) → r ≡ Err q → ◌≡◌ {A = Checked} (Err q) (checked (first (each pair_checks [] (pairs_in text table))))
  up_to_fails q e = subst (UpTo text table i s) e h.up_to

  module _ (e : r ≡ Ok tt) where
    pub up_to_reached : Reached text table i s
    up_to_reached = subst (UpTo text table i s) e h.up_to

    pub up_to_grown : (t : List ℕ) → Copied s t → Reached text table i t
    up_to_grown t c = reached_copied text table i s up_to_reached t c

    pub up_to_end : i ≡ length table / 4 → ◌≡◌ {A = Checked} (Ok tt) (checked (first (each pair_checks [] (pairs_in text table))))
    up_to_end f = each_end pair_checks (pair_in text table) 4 (length table / 4) i up_to_reached.checks (omega arith)

pub up_to_all : (text table s : List ℕ) (r : Checked) → CheckedUpTo text table (length table / 4) s r → r ≡ checked (first (each pair_checks [] (pairs_in text table)))
up_to_all text table s r h = go r refl
  where
    go : (x : Checked) → r ≡ x → r ≡ checked (first (each pair_checks [] (pairs_in text table)))
    go (Ok u) e = e ∙ up_to_end text table (length table / 4) s r h e refl
    go (Err q) e = e ∙ up_to_fails text table (length table / 4) s r h q e
