use Rattle.std.proofs.Common.{rules, length}
use Rattle.wire.proofs.Exits.{exits}
use Rattle.wire.proofs.BufferLaws.{read_place}
use Rattle.wire.proofs.Answers.{below_is}
use Rattle.context.proofs.SectionLaws.{section_none, section_empty, section_short, section_rest, length_fits, indexes_refused, indexes_empty, indexes_place, indexes_rest}
use Rattle.context.proofs.section.indexed_context_at.Goals as goal

ruleset laws = (exits, below_is, section_none, section_empty, section_short, section_rest, length_fits, indexes_refused, indexes_empty, indexes_rest, rules)

pub returns-in_err-n : goal.returns-in_err-n
returns-in_err-n c = search laws

pub returns-then-n-eq0 : goal.returns-then-n-eq0
returns-then-n-eq0 c = search laws

pub overflow_add-end : goal.overflow_add-end
overflow_add-end c = search laws

pub returns-then-buffer-end : goal.returns-then-buffer-end
returns-then-buffer-end c = search laws

pub returns : goal.returns
returns c =
    let rest = read_place c.at.ensures length _ _ c.read_counted.ensures.0 in
    let index = indexes_place c.at.ensures _ _ _ c.read_counted.ensures.1 in
    search laws
