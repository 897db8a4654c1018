use Rattle.std.proofs.Common.{arith, sym, ◌∙◌}
use Rattle.listing_text.proofs.SizeLaws.{there_few, data_long, no_data_long}
use Rattle.listing_text.proofs.header.Header.data_size.Goals as goal

pub returns-then-self-eq2 : goal.returns-then-self-eq2
returns-then-self-eq2 c =
    let few = there_few _ _ _ c.args.self.there.suiteData c.args.self.there.short in
    (c.part_size.ensures ∙ sym (data_long _ _ _ c.args.self.there.suiteData _ c.if-self-eq2.true), omega (arith, c.part_size.ensures))

pub returns : goal.returns
returns c = (sym (no_data_long _ _ _ c.args.self.there.suiteData _ c.if-self-eq2.false), omega arith)
