-- The loops over the parts of an item, over items. Assumes nothing.
use mathlib.Core.List.{List}
use Prim.Native.Nat.{ℕ, ◌+◌, ◌*◌, ◌<◌}
use native.Mathlib.Nat.{zero-add}
use Rattle.text.specs.declared.Text.{Text}
use Rattle.text.specs.Put.{Room, Put, PartThere, ItemThere, item_line}
use Rattle.text.specs.Items.{line_of}
use Rattle.text.specs.declared.fields.Items.{Items}
use Rattle.text.proofs.Going.{all_at, Row, row_here, row_more}

-- the parts of an item
module _ (x : Items) (i : ℕ) (h : i < x.count) where
  item_there : ItemThere x.message.now x.table.now x.parts (2 * x.parts * i)
  item_there = rw zero-add at (all_at (ItemThere x.message.now x.table.now x.parts) (2 * x.parts) x.count 0 x.there i h)

  module _ (k : ℕ) (l : k < x.parts) where
    pub part_there : PartThere x.message.now x.table.now (2 * x.parts * i + 2 * k)
    part_there = all_at (PartThere x.message.now x.table.now) 2 x.parts (2 * x.parts * i) item_there.parts k l

-- items
abbrev pub Lines : Items → List ℕ → Text → Text → ℕ → Type 0
Lines x word = Row (item_line x.message.now x.table.now word x.parts) (2 * x.parts) x.count 0

module _ (x : Items) (word : List ℕ) (t u : Text) (i : ℕ) (w : Lines x word t u i) (h : i < x.count) where
  pub item_here : Room u (line_of x word i)
  item_here = rw zero-add at (row_here (item_line x.message.now x.table.now word x.parts) (2 * x.parts) x.count 0 t u i w h)

  pub item_more : (v : Text) → Put (line_of x word i) u v → Lines x word t v (i + 1)
  item_more v p = row_more (item_line x.message.now x.table.now word x.parts) (2 * x.parts) x.count 0 t u i w h v (rw zero-add p)
