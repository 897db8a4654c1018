use Rattle.format.specs.Places.{key_here, key_end}
use Rattle.keys.specs.Codes.{any_key}
use Rattle.entries.specs.Walk.{Walk}
use Rattle.keys.proofs.section.read_keys.Given as goal

abbrev pub invariant-loop : goal.invariant-loop
invariant-loop l = Walk any_key key_here key_end l.buffer.bytes.now l.buffer.start l.count l.counter l.s
