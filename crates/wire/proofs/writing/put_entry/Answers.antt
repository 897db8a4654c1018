use Rattle.std.proofs.Common.{rules}
use Rattle.wire.proofs.StoreLaws.{entry_stored}
use Rattle.wire.proofs.writing.put_entry.Goals as goal

ruleset laws = (entry_stored, rules)

pub returns : goal.returns
returns c = search laws
