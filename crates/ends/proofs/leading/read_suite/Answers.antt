use Rattle.std.proofs.Common.{rules}
use Rattle.ends.proofs.LeadLaws.{no_suite, a_suite}
use Rattle.wire.proofs.Exits.{exits}
use Rattle.wire.proofs.BufferLaws.{places}
use Rattle.ends.proofs.leading.read_suite.Goals as goal

ruleset laws = (places, exits, no_suite, a_suite, rules)

pub returns-in_err-suite : goal.returns-in_err-suite
returns-in_err-suite c = search laws

pub returns : goal.returns
returns c = search laws
