use Rattle.std.proofs.Common.{rules}
use Rattle.drafts.proofs.TakenOut.{out_40, out_whole, end_fits, count_fits}
use Rattle.drafts.proofs.dropping.take_out.Goals as goal

ruleset laws = (out_40, out_whole, end_fits, count_fits, rules)

pub returns-then-kept-eq0 : goal.returns-then-kept-eq0
returns-then-kept-eq0 c = search laws

pub close-tail-requires : goal.close-tail-requires
close-tail-requires c = search laws

pub returns : goal.returns
returns c = search laws
