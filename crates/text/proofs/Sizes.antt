-- How long fields and lines are, and the lines of items, by the lengths in their table. Assumes nothing.
use mathlib.Core.Path.{◌≡◌, refl, sym}
use mathlib.Core.List.{List, [], ◌∷◌}
use Prim.Native.Nat.{ℕ, zero, suc, ◌+◌, ◌*◌, ◌-◌, ◌≤◌, ◌<◌}
use native.Mathlib.Nat.{sub-zero, mul-suc, mul-zero}
use native.Mathlib.Omega.{arith}
use lib.ListN.{length, get_or, length-append}
use Rattle.format.specs.Serialize.{images, sum}
use Rattle.format.specs.Lent.{bytes_at, items, here, part_in}
use Rattle.format.specs.Demand3.{Each}
use Rattle.format.proofs.Serialize.{sum_append}
use Rattle.format.proofs.Tables.{items_append}
use Rattle.text.specs.Text.{hex, field, line}
use Rattle.text.specs.Put.{PartThere, ItemThere, texts, part_field, item_line}
use Rattle.text.specs.Items.{lines_of}
use Rattle.text.specs.declared.fields.Items.{Items}
use Rattle.text.proofs.Going.{items_step, items_none}

pub hex_long : (l : List ℕ) → length (hex l) ≡ 2 * length l
unfolding images
hex_long [] = refl
hex_long (b ∷ l) = let e = hex_long l in omega arith

pub field_long : (text : List ℕ) → length (field text) ≡ 1 + length text
unfolding field
field_long text = omega arith

pub line_long : (word fields : List ℕ) → length (line word fields) ≡ length word + length fields + 1
unfolding line
line_long word fields = simp length-append (omega arith)

-- a part's field, by the table
abbrev pub part_size : List ℕ → ℕ → ℕ
part_size table j = 1 + 2 * get_or table (j + 1) 0

abbrev pub parts_size : List ℕ → ℕ → ℕ → ℕ
parts_size table n j = sum (part_size table) (items here 2 n j)

module _ (m table : List ℕ) where
  field_size : (j : ℕ) → PartThere m table j → length (part_field m table j) ≡ part_size table j
  unfolding part_field part_in
  field_size j p =
      let a = hex_long (bytes_at m (get_or table j 0) (get_or table (j + 1) 0)) in
      rw field_long (omega (arith, p.bytes.whole))

  parts_long : (k j : ℕ) → Each (PartThere m table) (items here 2 k j) → length (texts (part_field m table) 2 k j) ≡ parts_size table k j
  unfolding images items sum
  parts_long zero j h = refl
  parts_long (suc k) j h = let e = field_size j h.0 in let f = parts_long k (j + 2) h.1 in rw length-append (omega arith)

  items_long : (word : List ℕ) (n c j : ℕ) → Each (ItemThere m table n) (items here (2 * n) c j)
      → length (texts (item_line m table word n) (2 * n) c j) ≡ (length word + 1) * c + parts_size table (n * c) j
  unfolding images items sum
  items_long word n zero j h = rw (mul-zero n, mul-zero (length word + 1))
  items_long word n (suc c) j h =
      let e = parts_long n j h.0.parts.each in
      let f = items_long word n c (j + 2 * n) h.1 in
      let g : n * suc c ≡ n + n * c = rw mul-suc (omega arith) in
      let k : (length word + 1) * suc c ≡ (length word + 1) * c + (length word + 1) = rw mul-suc refl in
      rw (g, k, items_append here 2 n (n * c) j, sum_append (part_size table), length-append, line_long) (omega arith)

-- the loop's invariant: the fields left, and those counted behind the words and the line ends
pub record Counted (x : Items) (word : List ℕ) (total i : ℕ) : Type 0 where
  pub few : total ≤ 32768 + 8589934592 * i
  pub same : total + parts_size x.table.now (x.parts * x.count - i) (2 * i) ≡ length (lines_of x word)

module _ (x : Items) (word : List ℕ) where
  pub counted_start : length word < 16 → Counted x word ((length word + 1) * x.count) 0
  counted_start h = record { few = grind (arith, x.few, h); same = rw sub-zero (sym (items_long x.message.now x.table.now word x.parts x.count 0 x.there.each)) }

  module _ (total i : ℕ) (w : Counted x word total i) where
    pub counted_more : i < x.parts * x.count → (y : ℕ) → y ≡ get_or x.table.now (2 * i + 1) 0 → y < 4294967296 → Counted x word (total + (1 + 2 * y)) (i + 1)
    unfolding sum
    counted_more h y e b =
        let s : total + (1 + 2 * get_or x.table.now (2 * i + 1) 0 + parts_size x.table.now (x.parts * x.count - (i + 1)) (2 * (i + 1))) ≡ length (lines_of x word) = rw (items_step 2 (x.parts * x.count) i (2 * i) (2 * (i + 1)) h (omega arith)) at w.same in
        record { few = omega (arith, w.few); same = omega arith }

    pub counted_end : x.parts * x.count ≤ i → total ≡ length (lines_of x word)
    unfolding sum
    counted_end h = let s : total + 0 ≡ length (lines_of x word) = rw (items_none 2 (x.parts * x.count) i (2 * i) h) at w.same in omega arith

    pub counted_few : i ≤ x.parts * x.count → total ≤ 17592186077184
    counted_few h = omega (arith, w.few, x.numbers.0)
