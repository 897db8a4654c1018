use Rattle.std.proofs.Common.{rules}
use Rattle.wire.proofs.Exits.{exits}
use Rattle.context.proofs.SectionLaws.{counted_32, counted_there, counted_space, counted_old, counted_8, counted_9, counted_stop, counted_14, counted_whole, indexes_refused, indexes_old, indexes_pairs}
use Rattle.context.proofs.section.read_counted.Goals as goal

ruleset laws = (exits, counted_32, counted_there, counted_space, counted_old, counted_8, counted_9, counted_stop, counted_14, counted_whole, indexes_refused, indexes_old, indexes_pairs, rules)

pub returns-then-n-lt2 : goal.returns-then-n-lt2
returns-then-n-lt2 c = search laws

pub returns-then-count-eq0 : goal.returns-then-count-eq0
returns-then-count-eq0 c = search laws

pub returns-then-n-eq2 : goal.returns-then-n-eq2
returns-then-n-eq2 c = search laws

pub returns-then-count-eq0-2 : goal.returns-then-count-eq0-2
returns-then-count-eq0-2 c = search laws

pub returns-in_err-tail : goal.returns-in_err-tail
returns-in_err-tail c = search laws

pub returns-then-tail-end : goal.returns-then-tail-end
returns-then-tail-end c = search laws

pub returns : goal.returns
returns c = search laws
