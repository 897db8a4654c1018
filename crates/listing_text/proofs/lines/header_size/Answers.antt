use Rattle.std.proofs.Common.{rules}
use Rattle.listing_text.proofs.SizeLaws.{header_long}
use Rattle.listing_text.proofs.lines.header_size.Goals as goal

pub returns : goal.returns
returns c = search (header_long, rules)
