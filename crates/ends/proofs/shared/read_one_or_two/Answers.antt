use Rattle.std.proofs.Common.{rules}
use Rattle.ends.proofs.SharedLaws.{one_or_two_none, one_or_two_good, one_or_two_bad}
use Rattle.wire.proofs.Answers.{below_is}
use Rattle.wire.proofs.Exits.{exits}
use Rattle.wire.proofs.BufferLaws.{places}
use Rattle.ends.proofs.shared.read_one_or_two.Goals as goal

ruleset laws = (places, exits, one_or_two_none, one_or_two_good, one_or_two_bad, below_is, rules)

pub returns-in_err-byte : goal.returns-in_err-byte
returns-in_err-byte c = search laws

pub returns-then-is_one_or_two : goal.returns-then-is_one_or_two
returns-then-is_one_or_two c = search laws

pub returns : goal.returns
returns c = search laws
