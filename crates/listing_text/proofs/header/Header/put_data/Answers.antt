use Rattle.listing_text.proofs.AnswerLaws.{data_room, data_put, no_data}
use Rattle.listing_text.proofs.header.Header.put_data.Goals as goal

pub put_part_line-requires : goal.put_part_line-requires
put_part_line-requires c = rw c.part_of-data.ensures (data_room _ _ _ _ _ c.if-self-eq2.true c.requires)

pub returns-then-self-eq2 : goal.returns-then-self-eq2
returns-then-self-eq2 c = data_put _ _ _ _ _ c.if-self-eq2.true _ (rw c.part_of-data.ensures at c.put_part_line.ensures)

pub returns-else-self-eq2 : goal.returns-else-self-eq2
returns-else-self-eq2 c = no_data _ _ _ _ _ c.if-self-eq2.false c.requires
