use Rattle.std.proofs.Common.{rules}
use Rattle.text.proofs.Going.{row_start, row_end}
use Rattle.text.proofs.Loops.{item_here, item_more}
use Rattle.text.proofs.Text.put_items.Goals as goal

ruleset laws = (row_start, row_end, item_here, item_more, rules)

pub loop-i-init : goal.loop-i-init
loop-i-init c = search laws

pub put_item-requires : goal.put_item-requires
put_item-requires c = search laws

pub loop-i-preserved : goal.loop-i-preserved
loop-i-preserved c = search laws

pub returns : goal.returns
returns c = search laws
