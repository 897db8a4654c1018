use Rattle.listing_text.specs.Answers.{front_text}
use Rattle.text.proofs.Puts.{room_first, room_next, put_then}
use Rattle.listing_text.proofs.header.Header.put_front.Goals as goal

pub put_header-requires : goal.put_header-requires
unfolding front_text
put_header-requires c = room_first _ _ _ c.requires

pub put_part_line-requires : goal.put_part_line-requires
unfolding front_text
put_part_line-requires c = rw c.part_of-id.ensures (room_next _ _ _ _ c.put_header.ensures c.requires)

pub returns : goal.returns
unfolding front_text
returns c = put_then _ _ _ _ c.put_header.ensures _ (rw c.part_of-id.ensures at c.put_part_line.ensures)
