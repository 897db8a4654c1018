use Rattle.std.proofs.Common.{rules}
use Rattle.drafts.proofs.Closing.{closing_start, key_within, closing_step}
use Rattle.drafts.proofs.dropping.close_up.Goals as goal

ruleset laws = (closing_start, key_within, closing_step, rules)

pub loop-init : goal.loop-init
loop-init c = search laws

pub key_tail-tail-requires : goal.key_tail-tail-requires
key_tail-tail-requires c = search laws

pub pass-kept-requires : goal.pass-kept-requires
pass-kept-requires c = search laws

pub loop-preserved : goal.loop-preserved
loop-preserved c = search laws
