use Rattle.std.proofs.Common.{rules}
use Rattle.ends.proofs.SharedLaws.{suite_none, first_in, second_fits, second_in, suite_6, suite_7, suite_small, suite_good}
use Rattle.wire.proofs.Exits.{exits}
use Rattle.wire.proofs.BufferLaws.{places}
use Rattle.ends.proofs.shared.read_esdk_suite_id.Goals as goal

ruleset laws = (places, exits, suite_none, first_in, second_fits, second_in, suite_6, suite_7, suite_small, suite_good, rules)

pub returns-in_err-bytes : goal.returns-in_err-bytes
returns-in_err-bytes c = search laws

pub bounds-b-i : goal.bounds-b-i
bounds-b-i c = search laws

pub overflow_add-i : goal.overflow_add-i
overflow_add-i c = search laws

pub bounds-b-i-2 : goal.bounds-b-i-2
bounds-b-i-2 c = search laws

pub returns-in_err-suite : goal.returns-in_err-suite
returns-in_err-suite c = search laws

pub returns-then-from-version : goal.returns-then-from-version
returns-then-from-version c = search laws

pub returns : goal.returns
returns c = search laws
