use Rattle.std.proofs.Common.{rules}
use Rattle.wire.proofs.StoreLaws.{stored_entry}
use Rattle.wire.proofs.EntryWritten.{entry_written}
use Rattle.wire.proofs.writing.write_short_length_seq.Goals as goal

ruleset laws = (stored_entry, entry_written, rules)

pub returns : goal.returns
returns c = search laws
