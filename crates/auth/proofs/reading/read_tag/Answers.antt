use Rattle.std.proofs.Common.{rules}
use Rattle.wire.proofs.Exits.{exits}
use Rattle.auth.proofs.Laws.{no_tag, tag_in, tag_read}
use Rattle.auth.proofs.reading.read_tag.Goals as goal

ruleset laws = (exits, no_tag, tag_in, tag_read, rules)

pub returns-in_err-tag : goal.returns-in_err-tag
returns-in_err-tag c = search laws

pub bytes_at-requires : goal.bytes_at-requires
bytes_at-requires c = search laws

pub returns : goal.returns
returns c = search laws
