use Rattle.std.proofs.Common.{rules}
use Rattle.entries.proofs.Tables.{filled_start, filled_next, filled_more, filled_end}
use Rattle.entries.proofs.fill_places.Goals as goal

ruleset laws = (filled_start, filled_next, filled_more, filled_end, rules)

pub known_entry-e-requires : goal.known_entry-e-requires
known_entry-e-requires c = search laws

pub loop-i-preserved : goal.loop-i-preserved
loop-i-preserved c = search laws

pub returns : goal.returns
returns c = search laws
