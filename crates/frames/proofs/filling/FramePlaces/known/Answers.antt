use Rattle.std.proofs.Common.{rules}
use Rattle.frames.proofs.Places.{known_length, known_final_fits, known_final, known_regular_fits, known_regular}
use Rattle.frames.proofs.filling.FramePlaces.known.Goals as goal

ruleset laws = (known_length, known_final_fits, known_final, known_regular_fits, known_regular, rules)

pub known-requires : goal.known-requires
known-requires c = search laws

pub invariant_of-result : goal.invariant_of-result
invariant_of-result c = search laws

pub returns-then-last : goal.returns-then-last
returns-then-last c = search laws

pub invariant_of-result-2 : goal.invariant_of-result-2
invariant_of-result-2 c = search laws

pub returns : goal.returns
returns c = search laws
