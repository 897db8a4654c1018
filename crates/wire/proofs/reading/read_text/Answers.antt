use Rattle.std.proofs.Common.{rules}
use Rattle.wire.proofs.Stood.{text_none, text_yes, text_not, entry_in}
use Rattle.wire.proofs.reading.read_text.Goals as goal

ruleset laws = (text_none, text_yes, text_not, entry_in, rules)

pub returns-in_err-entry : goal.returns-in_err-entry
returns-in_err-entry c = search laws

pub part_is_utf8-requires : goal.part_is_utf8-requires
part_is_utf8-requires c = search laws

pub returns-then-part_is_utf8 : goal.returns-then-part_is_utf8
returns-then-part_is_utf8 c = search laws

pub returns : goal.returns
returns c = search laws
