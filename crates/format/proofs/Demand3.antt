-- Demand 3, whole. Assumes nothing.
use Rattle.format.specs.Policies.{no_policy}
use Rattle.format.specs.Demand3.{Demand3}
use Rattle.format.proofs.Either as either
use Rattle.format.proofs.Strict as strict
use Rattle.format.proofs.OneVersion as one_version
use Rattle.format.proofs.Marks as marks
use Rattle.format.proofs.Written as written
use Rattle.format.proofs.WithoutKeys as without_keys
use Rattle.format.proofs.Find as find

pub demand_3 : Demand3
demand_3 =
    record {
      sentence_1 = either.sentence_1;
      sentence_2 = strict.sentence_2 no_policy;
      sentence_3 = one_version.sentence_3 no_policy;
      marks = marks.marks;
      sentence_4 = written.sentence_4;
      no_keys = without_keys.no_keys;
      finds = find.finds;
    }
