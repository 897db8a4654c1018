use Rattle.std.proofs.Common.{rules}
use Rattle.context.proofs.FindLaws.{looked_start, looked_none, looked_key, looked_value, looked_hit, looked_past}
use Rattle.context.proofs.finding.look_up.Goals as goal

ruleset laws = (looked_start, looked_none, looked_key, looked_value, looked_hit, looked_past, rules)

pub known_entry-k-requires : goal.known_entry-k-requires
known_entry-k-requires c = search laws

pub known_entry-v-requires : goal.known_entry-v-requires
known_entry-v-requires c = search laws

pub returns-then-same : goal.returns-then-same
returns-then-same c = search laws

pub loop-preserved : goal.loop-preserved
loop-preserved c = search laws

pub returns : goal.returns
returns c = search laws
