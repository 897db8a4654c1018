use Rattle.std.proofs.Common.{arith, length-append}
use Rattle.listing_text.proofs.SizeLaws.{front_long}
use Rattle.listing_text.proofs.header.HeaderListed.size.Goals as goal

pub returns : goal.returns
returns c =
    let front = front_long _ c.args.self.now.body c.args.self.now.tail c.args.self.now.there.messageId in
    simp length-append (omega (arith, front, c.header_size.ensures.0, c.part_size.ensures, c.size.ensures.0, c.size-2.ensures.0, c.data_size.ensures.0))
