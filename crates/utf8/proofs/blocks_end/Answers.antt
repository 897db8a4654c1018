use Rattle.std.proofs.Common.{rules}
use Rattle.utf8.proofs.Utf8Laws.{passed_none, block_more}
use Rattle.utf8.proofs.blocks_end.Goals as goal

ruleset laws = (passed_none, block_more, rules)

pub loop-i-preserved : goal.loop-i-preserved
loop-i-preserved c = search laws
