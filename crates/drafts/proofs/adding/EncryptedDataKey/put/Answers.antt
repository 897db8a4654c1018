use Rattle.std.proofs.Common.{rules}
use Rattle.drafts.proofs.KeyAdded.{key_put}
use Rattle.drafts.proofs.adding.EncryptedDataKey.put.Goals as goal

ruleset laws = (key_put, rules)

pub returns : goal.returns
returns c = search laws
