use Prim.Native.Nat.{◌*◌}
use Rattle.text.specs.Put.{part_field}
use Rattle.text.proofs.Going.{Row}
use Rattle.text.proofs.Text.put_parts.Given as goal

abbrev pub invariant-loop-k : goal.invariant-loop-k
invariant-loop-k l = Row (part_field l.items.message.now l.items.table.now) 2 l.items.parts (2 * l.items.parts * l.i) l.initial.self l.self l.k
