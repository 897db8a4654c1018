use Rattle.std.proofs.Common.{rules, sym, ◌∙◌}
use Rattle.text.proofs.Puts.{room_first, room_second, room_last, put_three}
use Rattle.listing_text.proofs.AnswerLaws.{has_room, all_written}
use Rattle.listing_text.proofs.header.HeaderListed.put.Goals as goal

pub put_front-requires : goal.put_front-requires
put_front-requires c = room_first _ _ _ (has_room _ _ c.requires _ c.new-text.ensures.empty)

pub put_tables-requires : goal.put_tables-requires
put_tables-requires c = room_second _ _ _ _ _ c.put_front.ensures (has_room _ _ c.requires _ c.new-text.ensures.empty)

pub put_data-requires : goal.put_data-requires
put_data-requires c = room_last _ _ _ _ c.put_tables.ensures _ _ c.put_front.ensures (has_room _ _ c.requires _ c.new-text.ensures.empty)

pub returns : goal.returns
returns c =
    let all = put_three _ _ _ _ _ _ _ c.put_front.ensures c.put_tables.ensures c.put_data.ensures in
    let same = sym (all.same_output ∙ c.new-text.ensures.same_output) in
    all_written _ _ c.requires _ c.new-text.ensures.empty _ all _ c.len.ensures _ (search (same, rules))
