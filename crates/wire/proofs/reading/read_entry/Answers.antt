use Rattle.std.proofs.Common.{rules}
use Rattle.wire.proofs.EndLaws.{entry_cut_length, entry_has_length, entry_cut_bytes, entry_whole}
use Rattle.wire.proofs.reading.read_entry.Goals as goal

ruleset laws = (entry_cut_length, entry_has_length, entry_cut_bytes, entry_whole, rules)

pub returns-then-to-start : goal.returns-then-to-start
returns-then-to-start c = search laws

pub returns-then-to-tail : goal.returns-then-to-tail
returns-then-to-tail c = search laws

pub returns : goal.returns
returns c = search laws
