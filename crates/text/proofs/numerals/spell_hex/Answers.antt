use Rattle.std.proofs.Common.{rules}
use Rattle.text.proofs.Hex.{spelled_start, spelled_room, spelled_more, spelled_behind, spelled_end}
use Rattle.text.proofs.numerals.spell_hex.Goals as goal

ruleset laws = (spelled_start, spelled_room, spelled_more, spelled_behind, spelled_end, rules)

pub loop-i-init : goal.loop-i-init
loop-i-init c = search laws

pub put_hex_byte-requires : goal.put_hex_byte-requires
put_hex_byte-requires c = search laws

pub loop-i-preserved : goal.loop-i-preserved
loop-i-preserved c = search laws

pub returns : goal.returns
returns c = search laws
