use Rattle.std.proofs.Common.{rules}
use Rattle.text.proofs.Puts.{room_first, room_next, put_then}
use Rattle.listing_text.proofs.lines.put_decimal_fields.Goals as goal

ruleset laws = (room_first, room_next, put_then, rules)

pub put_decimal_field-requires-2 : goal.put_decimal_field-requires-2
put_decimal_field-requires-2 c = search laws

pub returns : goal.returns
returns c = search laws
