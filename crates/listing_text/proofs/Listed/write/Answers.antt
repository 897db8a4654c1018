use Rattle.std.proofs.Common.{rules}
use Rattle.listing_text.proofs.AnswerLaws.{too_long}
use Rattle.listing_text.proofs.Listed.write.Goals as goal

pub returns-then-out-size : goal.returns-then-out-size
returns-then-out-size g c = search (too_long, rules)
