use Rattle.std.proofs.Common.{rules, sym, ◌∙◌}
use Rattle.text.proofs.LineLaws.{line_word, line_fields, line_end, line_put}
use Rattle.listing_text.proofs.AnswerLaws.{has_room, all_written}
use Rattle.listing_text.proofs.lines.RefusalListed.put.Goals as goal

pub put_word-requires : goal.put_word-requires
put_word-requires c = line_word _ _ _ (has_room _ _ c.requires _ c.new-text.ensures.empty)

pub put_decimal_fields-requires : goal.put_decimal_fields-requires
put_decimal_fields-requires c = line_fields _ _ _ _ c.put_word.ensures (has_room _ _ c.requires _ c.new-text.ensures.empty)

pub put_line_end-requires : goal.put_line_end-requires
put_line_end-requires c = line_end _ _ _ c.put_decimal_fields.ensures _ _ c.put_word.ensures (has_room _ _ c.requires _ c.new-text.ensures.empty)

pub returns : goal.returns
returns c =
    let all = line_put _ _ _ c.put_decimal_fields.ensures _ _ c.put_word.ensures _ c.put_line_end.ensures in
    let same = sym (all.same_output ∙ c.new-text.ensures.same_output) in
    all_written _ _ c.requires _ c.new-text.ensures.empty _ all _ c.len.ensures _ (search (same, rules))
