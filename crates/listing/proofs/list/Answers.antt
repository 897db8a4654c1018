use Rattle.std.proofs.Common.{rules, refl}
use Rattle.listing_text.proofs.AnswerLaws.{within_output}
use Rattle.listing.proofs.Whole.{its_bytes, its_length, is_listed}
use Rattle.listing.proofs.list.Goals as goal

ruleset laws = (its_bytes, its_length, within_output, rules)

pub unwrap-requires : goal.unwrap-requires
unwrap-requires c = rw (is_listed _ _ _ _ c.type_inv.m c.requires.0 c.requires.1 c.write_listing.ensures) refl

pub returns : goal.returns
returns c = search laws
