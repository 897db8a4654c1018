use Rattle.std.proofs.Common.{rules}
use Rattle.frames_write.proofs.Stores.{sealed_content, sealed_tag, sealed_puts}
use Rattle.frames_write.proofs.storing.Frame.put_sealed.Goals as goal

ruleset laws = (sealed_content, sealed_tag, sealed_puts, rules)

pub returns : goal.returns
returns c = search laws
