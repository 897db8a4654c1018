-- How many pairs there are and how many bytes they take. Assumes nothing.
use Rattle.std.specs.Prelude.{◌≡◌, List, ◌+◌, length}
use Rattle.format.specs.Fields.{Pair}
use Rattle.format.specs.Context.{linear_length}
use Rattle.only_authenticated.specs.declared.putting.Total.{Total}

-- both are added to what there is
pub record Adds (ps : List Pair) (t r : Total) : Type 0 where
  pub count : r.count ≡ t.count + length ps
  pub size : r.size ≡ t.size + linear_length ps
