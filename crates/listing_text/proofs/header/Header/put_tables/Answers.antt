use Rattle.std.proofs.Common.{rules}
use Rattle.text.proofs.Puts.{room_first, room_next, put_then}
use Rattle.listing_text.proofs.header.Header.put_tables.Goals as goal

ruleset laws = (room_first, room_next, put_then, rules)

pub put_items-requires : goal.put_items-requires
put_items-requires c = search laws

pub put_items-requires-2 : goal.put_items-requires-2
put_items-requires-2 c = search laws

pub returns : goal.returns
returns c = search laws
