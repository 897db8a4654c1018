use Rattle.listing_text.proofs.Joint.{body_text, answer_there, answer_tables, answer_listed, refusal_listed}
use Rattle.listing_text.proofs.write_answer.Goals as goal

pub invariant_of-pairs : goal.invariant_of-pairs
invariant_of-pairs c =
    let table = (answer_tables _ _ _ _ c.requires _ c.in-Ok.is).0 in
    record { few = table.few; numbers = table.numbers; there = table.there }

pub invariant_of-keys : goal.invariant_of-keys
invariant_of-keys c =
    let table = (answer_tables _ _ _ _ c.requires _ c.in-Ok.is).1 in
    record { few = table.few; numbers = table.numbers; there = table.there }

pub invariant_of-header : goal.invariant_of-header
invariant_of-header c = record { there = answer_there _ _ _ _ c.requires _ c.in-Ok.is }

pub returns-in-Ok : goal.returns-in-Ok
unfolding body_text
returns-in-Ok c = answer_listed _ _ _ _ c.requires _ c.in-Ok.is _ _ _ c.write.ensures

pub returns-in-Err : goal.returns-in-Err
returns-in-Err c = refusal_listed _ _ _ _ c.requires _ c.in-Err.is _ _ _ c.write-in-Err.ensures
