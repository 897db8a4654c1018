use Rattle.std.proofs.Common.{rules}
use Rattle.std.proofs.lemmas.Result.{err_from_is_err_and}
use Rattle.wire.proofs.Exits.{exits}
use Rattle.keys.proofs.Whole.{section_entries, into_not, into_23, into_whole}
use Rattle.wire.proofs.BufferLaws.{places}
use Rattle.keys.proofs.section_into.Goals as goal

ruleset laws = (places, exits, section_entries, into_not, into_23, into_whole, rules)

pub returns-in_err-keys : goal.returns-in_err-keys
returns-in_err-keys c = let p = err_from_is_err_and c.from_residual.result c.from_residual.ensures.1 in rw (p.1, p.2) (search laws)

pub returns-then-table-keys : goal.returns-then-table-keys
returns-then-table-keys c = search laws

pub fill_places-requires : goal.fill_places-requires
fill_places-requires c = search laws

pub returns : goal.returns
returns c = search laws
