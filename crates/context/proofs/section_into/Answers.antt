use Rattle.std.proofs.Common.{rules}
use Rattle.std.proofs.lemmas.Result.{err_from_is_err_and}
use Rattle.wire.proofs.Exits.{exits}
use Rattle.context.proofs.Whole.{section_entries, into_not, into_22, into_whole}
use Rattle.context.proofs.section_into.Goals as goal

ruleset laws = (exits, section_entries, into_not, into_22, into_whole, rules)

pub returns-in_err-pairs : goal.returns-in_err-pairs
returns-in_err-pairs c = let p = err_from_is_err_and c.from_residual.result c.from_residual.ensures.1 in rw (p.1, p.2) (search laws)

pub returns-then-table-pairs : goal.returns-then-table-pairs
returns-then-table-pairs c = search laws

pub fill_places-requires : goal.fill_places-requires
fill_places-requires c = search laws

pub returns : goal.returns
returns c = search laws
