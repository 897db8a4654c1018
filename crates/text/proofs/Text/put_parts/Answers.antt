use Rattle.std.proofs.Common.{rules}
use Rattle.text.specs.Put.{part_field}
use Rattle.text.proofs.Going.{row_start, row_here, row_more, row_end}
use Rattle.text.proofs.Loops.{part_there}
use Rattle.text.proofs.Text.put_parts.Goals as goal

pub loop-k-init : goal.loop-k-init
loop-k-init c = row_start _ _ _ _ _ c.requires.1

pub part-requires : goal.part-requires
part-requires c = part_there c.args.items _ c.requires.0 _ c.loop-k-test.true

pub put_hex_field-requires : goal.put_hex_field-requires
unfolding part_field
put_hex_field-requires c = rw c.part.ensures (row_here _ _ _ _ _ _ _ c.loop-k.invariant c.loop-k-test.true)

pub loop-k-preserved : goal.loop-k-preserved
unfolding part_field
loop-k-preserved c = row_more _ _ _ _ _ _ _ c.loop-k.invariant c.loop-k-test.true _ (rw c.part.ensures at c.put_hex_field.ensures)

pub returns : goal.returns
returns c = search (row_end, rules)
