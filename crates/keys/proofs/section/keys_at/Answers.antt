use Rattle.std.proofs.Common.{rules}
use Rattle.wire.proofs.Exits.{exits}
use Rattle.wire.proofs.Stood.{uint16_in}
use Rattle.keys.proofs.SectionLaws.{keys_none, keys_38, keys_15, keys_stop, keys_whole}
use Rattle.wire.proofs.BufferLaws.{places}
use Rattle.keys.proofs.section.keys_at.Goals as goal

ruleset laws = (places, exits, uint16_in, keys_none, keys_38, keys_15, keys_stop, keys_whole, rules)

pub returns-in_err-count : goal.returns-in_err-count
returns-in_err-count c = search laws

pub returns-then-count-eq0 : goal.returns-then-count-eq0
returns-then-count-eq0 c = search laws

pub returns-then-not-within : goal.returns-then-not-within
returns-then-not-within c = search laws

pub returns-in_err-tail : goal.returns-in_err-tail
returns-in_err-tail c = search laws

pub returns : goal.returns
returns c = search laws
