-- Laws of the loops over a table of frames, one for each way out. Assumes nothing.
use Prim.Native.Nat.{ℕ, ◌+◌, ◌*◌, ◌-◌, ◌/◌, ◌≤◌, ◌<◌}
use native.Mathlib.Nat.{sub-zero}
use native.Mathlib.Omega.{arith}
use mathlib.Core.Path.{◌≡◌, refl, sym, ap, subst, ◌∙◌}
use mathlib.Core.Option.{none, some}
use mathlib.Core.List.{List, [], ◌∷◌}
use lib.Dec.{leb}
use lib.ListN.{length, get_or}
use borrow.Author.Tests.{eq-eqb, ne_eqb, le-leb, lt-leb}
use Rattle.format.specs.Checks.{first, each, content_checks}
use Rattle.format.specs.Lent.{items, here}
use Rattle.format.proofs.Firsts.{first_pass, first_stop}
use Rattle.wire.specs.Codes.{because}
use Rattle.wire.specs.declared.refusals.Refusal.{Refusal}
use Rattle.checks.specs.Answers.{Checked, checked}
use Rattle.checks.proofs.Items.{items_step, items_none}
use Rattle.checks.proofs.Stages.{stage_passes, stage_fails}
use Rattle.frames_write.specs.Table.{sealed_at, content_at, contents_in, lengths_checks}
use Rattle.std.specs.Prelude.{Ok, Err}

-- i contents pass, and what is left, checked from there, is the whole, checked from the start
pub record Contents (frame : ℕ) (table : List ℕ) (i : ℕ) : Type 0 where
  pub below : i < length table / 6
  pub same : first (content_checks frame (contents_in table)) ≡ first (content_checks frame (items (content_at table) 6 (length table / 6 - i) (6 * i)))

pub contents_start : (frame : ℕ) (table : List ℕ) → 0 < length table / 6 → Contents frame table 0
contents_start frame table h = record { below = h; same = rw sub-zero }

module _ (frame : ℕ) (table : List ℕ) (i : ℕ) (c : Contents frame table i) where
  -- a frame before the last
  module _ (h : i < length table / 6 - 1) where
    next : 6 * i + 6 ≡ 6 * (i + 1)
    next = omega arith

    one : items (content_at table) 6 (length table / 6 - (i + 1)) (6 * (i + 1)) ≡ content_at table (6 * (i + 1)) ∷ items (content_at table) 6 (length table / 6 - (i + 1 + 1)) (6 * (i + 1) + 6)
    one = items_step (content_at table) 6 (length table / 6) (i + 1) (6 * (i + 1)) (omega arith)

    two : items (content_at table) 6 (length table / 6 - i) (6 * i) ≡ content_at table (6 * i) ∷ content_at table (6 * (i + 1)) ∷ items (content_at table) 6 (length table / 6 - (i + 1 + 1)) (6 * (i + 1) + 6)
    two = rw (items_step (content_at table) 6 (length table / 6) i (6 * i) c.below, next, one) refl

    pub contents_37 : (get_or table (6 * i + 3) 0 ≡ frame → ⊥) → (r : Checked) → r ≡ Err (because 37 0) → r ≡ checked (first (content_checks frame (contents_in table)))
    unfolding content_checks
    contents_37 g r q =
        let f : first (content_checks frame (items (content_at table) 6 (length table / 6 - i) (6 * i))) ≡ some 37 = rw two (first_stop 37 _ _ (ne_eqb _ _ g)) in
        q ∙ sym (ap checked (c.same ∙ f))

    pub contents_more : get_or table (6 * i + 3) 0 ≡ frame → Contents frame table (i + 1)
    unfolding content_checks
    contents_more g = record { below = omega arith; same = c.same ∙ rw (two, one) (first_pass 37 _ _ (eq-eqb _ _ g)) }

  pub contents_last : length table / 6 - 1 ≤ i → Contents frame table (length table / 6 - 1)
  contents_last h = let e : i ≡ length table / 6 - 1 = omega (arith, c.below) in subst (Contents frame table) e c

-- the last
module _ (frame : ℕ) (table : List ℕ) (c : Contents frame table (length table / 6 - 1)) where
  abbrev last : ℕ
  last = length table / 6 - 1

  alone : items (content_at table) 6 (length table / 6 - last) (6 * last) ≡ content_at table (6 * last) ∷ []
  alone = rw (items_step (content_at table) 6 (length table / 6) last (6 * last) c.below, items_none (content_at table) 6 (length table / 6) (last + 1) (6 * last + 6) (omega arith)) refl

  pub contents_35 : frame < get_or table (6 * (length table / 6 - 1) + 3) 0 → (r : Checked) → r ≡ Err (because 35 0) → r ≡ checked (first (content_checks frame (contents_in table)))
  unfolding content_checks
  contents_35 g r q =
      let f : first (content_checks frame (items (content_at table) 6 (length table / 6 - last) (6 * last))) ≡ some 35 = rw alone (first_stop 35 _ _ (lt-leb _ _ g)) in
      q ∙ sym (ap checked (c.same ∙ f))

  pub contents_pass : get_or table (6 * (length table / 6 - 1) + 3) 0 ≤ frame → (r : Checked) → r ≡ Ok tt → r ≡ checked (first (content_checks frame (contents_in table)))
  unfolding content_checks first
  contents_pass g r q =
      let f : first (content_checks frame (items (content_at table) 6 (length table / 6 - last) (6 * last))) ≡ none = rw alone (first_pass 35 (leb (content_at table (6 * last)) frame) [] (le-leb _ _ g)) in
      q ∙ sym (ap checked (c.same ∙ f))

-- both loops, one after the other
module _ (frame : ℕ) (table : List ℕ) (c : Checked) (is : c ≡ checked (first (each (sealed_at table) [] (items here 6 (length table / 6) 0)))) where
  pub lengths_fail : (r : Refusal) → c ≡ Err r → ◌≡◌ {A = Checked} (Err r) (checked (first (lengths_checks frame table)))
  lengths_fail r e = sym (stage_fails _ c is (content_checks frame (contents_in table)) r e)

  pub lengths_pass : c ≡ Ok tt → (r : Checked) → r ≡ checked (first (content_checks frame (contents_in table))) → r ≡ checked (first (lengths_checks frame table))
  lengths_pass e r q = q ∙ sym (stage_passes _ c is (content_checks frame (contents_in table)) e)
