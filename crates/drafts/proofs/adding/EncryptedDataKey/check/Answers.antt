use Rattle.std.proofs.Common.{rules}
use Rattle.drafts.proofs.KeyAdded.{check_16, check_parts, check_count, check_passes}
use Rattle.drafts.proofs.adding.EncryptedDataKey.check.Goals as goal

ruleset laws = (check_16, check_parts, check_count, check_passes, rules)

pub returns-then-not-part_is_utf8 : goal.returns-then-not-part_is_utf8
returns-then-not-part_is_utf8 c = search laws

pub returns-then-not-is_short : goal.returns-then-not-is_short
returns-then-not-is_short c = search laws

pub returns-then-keyCount-ge65535 : goal.returns-then-keyCount-ge65535
returns-then-keyCount-ge65535 c = search laws

pub returns : goal.returns
returns c = search laws
