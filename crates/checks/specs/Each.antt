-- A loop over the items of a table, each checked in the light of those before it. Assumes nothing.
use Rattle.std.specs.Prelude.{◌≡◌, List, [], ℕ, ◌*◌, ◌-◌, ◌≤◌}
use Rattle.format.specs.Checks.{Check, first, each}
use Rattle.format.specs.Lent.{items}
use Rattle.checks.specs.Answers.{checked}

-- i of n items pass, and what is left, checked from there, is the whole, checked from the start
pub record Each {A : Type 0} (f : List A → A → List Check) (g : ℕ → A) (k n i : ℕ) : Type 0 where
  pub some : i ≤ n
  pub same : checked (first (each f [] (items g k n 0))) ≡ checked (first (each f (items g k i 0) (items g k (n - i) (k * i))))
