-- Laws of storing the entries of a table's parts, one behind the other. Assumes nothing.
use Prim.Native.Nat.{ℕ, ◌+◌, ◌*◌, ◌-◌, ◌≤◌, ◌<◌}
use native.Mathlib.Nat.{sub-zero}
use native.Mathlib.Omega.{arith}
use mathlib.Core.Path.{◌≡◌, refl, sym, ap, ◌∙◌}
use mathlib.Core.List.{List}
use lib.ListN.{length, get_or}
use Rattle.format.specs.Serialize.{write_short_length_seq, images, sum}
use Rattle.format.specs.Lent.{items, here, part_in}
use Rattle.format.proofs.Serialize.{length_entry}
use Rattle.wire.specs.Stored.{stored}
use Rattle.wire.proofs.StoreLaws.{stored_more, length_stored, stored_none}
use Rattle.checks.specs.Table.{entry_size, Within}
use Rattle.checks.proofs.Items.{items_step, items_none}
use Rattle.checks.proofs.Parts.{part_length}

-- entries are being stored: what it will store is what is left to store
pub record Putting (text table out₀ out : List ℕ) (from n i at : ℕ) : Type 0 where
  pub some : i ≤ n
  pub long : length out ≡ length out₀
  pub left : at + sum (entry_size table) (items here 2 (n - i) (2 * i)) ≤ length out
  pub same : stored out₀ from (images write_short_length_seq (items (part_in text table) 2 n 0)) ≡ stored out at (images write_short_length_seq (items (part_in text table) 2 (n - i) (2 * i)))

pub putting_start : (text table out : List ℕ) (from n : ℕ) → from + sum (entry_size table) (items here 2 n 0) ≤ length out → Putting text table out out from n 0 from
putting_start text table out from n h = record { some = omega arith; long = refl; left = rw sub-zero h; same = rw sub-zero }

module _ (text table out₀ out : List ℕ) (from n i at : ℕ) (p : Putting text table out₀ out from n i at) where
  next : 2 * i + 2 ≡ 2 * (i + 1)
  next = omega arith

  more_left : i < n → at + (2 + get_or table (2 * i + 1) 0 + sum (entry_size table) (items here 2 (n - (i + 1)) (2 * (i + 1)))) ≤ length out
  unfolding sum entry_size
  more_left h = rw (items_step here 2 n i (2 * i) h, next) at p.left

  module _ (h : i < n) (w : Within text table (2 * i)) (q : List ℕ) (is : q ≡ part_in text table (2 * i)) where
    length_is : length q ≡ get_or table (2 * i + 1) 0
    length_is = ap length is ∙ part_length text table (2 * i) w

    pub putting_short : get_or table (2 * i + 1) 0 < 65536 → length q < 65536
    putting_short k = rw length_is k

    pub putting_room : at + (2 + length q) ≤ length out
    putting_room = omega (arith, more_left h, length_is)

    pub putting_more : (out' : List ℕ) → out' ≡ stored out at (write_short_length_seq q) → (at' : ℕ) → at' ≡ at + (2 + length q) → Putting text table out₀ out' from n (i + 1) at'
    unfolding images
    putting_more out' e at' f =
        let rest = images write_short_length_seq (items (part_in text table) 2 (n - (i + 1)) (2 * (i + 1))) in
        let m = more_left h in
        let k = length_is in
        let l : length (write_short_length_seq q) ≡ 2 + length q = length_entry q in
        let fit : at + length (write_short_length_seq q) ≤ length out = omega arith in
        let long : length out' ≡ length out = ap length e ∙ length_stored out at (write_short_length_seq q) fit in
        record {
          some = omega arith;
          long = long ∙ p.long;
          left = omega arith;
          same = p.same ∙ rw (items_step (part_in text table) 2 n i (2 * i) h, next, ← is) (sym (rw e (stored_more out at (write_short_length_seq q) rest at' (omega arith) fit)));
        }

  pub putting_end : n ≤ i → out ≡ stored out₀ from (images write_short_length_seq (items (part_in text table) 2 n 0))
  unfolding images
  putting_end h = sym (p.same ∙ rw (items_none (part_in text table) 2 n i (2 * i) h) (sym (stored_none out at)))
