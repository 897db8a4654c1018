-- The text of items: a line for each. Assumes nothing.
use Rattle.std.specs.Prelude.{List, ℕ, ◌*◌}
use Rattle.text.specs.Put.{texts, part_field, item_line, items_text}
use Rattle.text.specs.declared.fields.Items.{Items}

abbrev pub fields_of : Items → ℕ → List ℕ
fields_of x i = texts (part_field x.message.now x.table.now) 2 x.parts (2 * x.parts * i)

abbrev pub line_of : Items → List ℕ → ℕ → List ℕ
line_of x word i = item_line x.message.now x.table.now word x.parts (2 * x.parts * i)

abbrev pub lines_of : Items → List ℕ → List ℕ
lines_of x word = items_text x.message.now x.table.now word x.parts x.count
