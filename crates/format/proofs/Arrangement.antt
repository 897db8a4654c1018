-- Joined, rearranged and dropped in either order. Assumes nothing.
use Rattle.format.specs.Arrangement.{Arrangement}
use Rattle.format.proofs.TablesJoined.{tables_joined}
use Rattle.format.proofs.PairsArranged.{joined, rearranged, in_a_draft, of_sections, keys_rearranged, key_repeated}
use Rattle.format.proofs.EitherOrder.{one_or_none, either_order, all_of_one, some_of_both}

pub arrangement : Arrangement
arrangement =
    record {
      joined = joined;
      tables_joined = tables_joined;
      rearranged = rearranged;
      in_a_draft = in_a_draft;
      of_sections = of_sections;
      keys_rearranged = keys_rearranged;
      key_repeated = key_repeated;
      one_or_none = one_or_none;
      either_order = either_order;
      all_of_one = all_of_one;
      some_of_both = some_of_both;
    }
