use Rattle.std.proofs.Common.{rules}
use Rattle.drafts.proofs.Behind.{put_all}
use Rattle.drafts.proofs.adding.EncryptedDataKey.put_behind.Goals as goal

ruleset laws = (put_all, rules)

pub returns : goal.returns
returns c = search laws
