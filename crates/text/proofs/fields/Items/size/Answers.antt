use Rattle.std.proofs.Common.{rules}
use Rattle.text.proofs.Sizes.{counted_start, counted_more, counted_end, counted_few}
use Rattle.text.proofs.fields.Items.size.Goals as goal

ruleset laws = (counted_start, counted_more, counted_end, counted_few, rules)

pub loop-i-init : goal.loop-i-init
loop-i-init c = search laws

pub loop-i-preserved : goal.loop-i-preserved
loop-i-preserved c = search laws

pub returns : goal.returns
returns c = search laws
