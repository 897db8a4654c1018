use Rattle.std.proofs.Common.{refl}
use Rattle.listing_text.proofs.Joint.{reading_is}
use Rattle.listing_text.proofs.write_listing.Goals as goal

pub write_answer-requires : goal.write_answer-requires
write_answer-requires c = reading_is _ _ _ _ _ _ refl refl c.type_inv.m c.read_as_listed-answer.ensures
