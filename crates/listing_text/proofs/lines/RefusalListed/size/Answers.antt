use Rattle.std.proofs.Common.{rules}
use Rattle.listing_text.proofs.SizeLaws.{refusal_long}
use Rattle.listing_text.proofs.lines.RefusalListed.size.Goals as goal

pub returns : goal.returns
returns c = search (refusal_long, rules)
