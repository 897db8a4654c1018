use Rattle.format.specs.Lent.{part_in}
use Rattle.text.proofs.fields.Items.part.Goals as goal

pub returns : goal.returns
unfolding part_in
returns c = c.part_of.ensures
