use Rattle.std.proofs.Common.{rules}
use Rattle.frames.proofs.Places.{stores_start, stores_long, stores_next, stores_near, stores_kind, stores_more, stores_end}
use Rattle.frames.proofs.filling.fill_frames.Goals as goal

ruleset laws = (stores_start, stores_long, stores_next, stores_near, stores_kind, stores_more, stores_end, rules)

pub known-places-requires : goal.known-places-requires
known-places-requires c = search laws

pub loop-i-preserved : goal.loop-i-preserved
loop-i-preserved c = search laws

pub returns : goal.returns
returns c = search laws
