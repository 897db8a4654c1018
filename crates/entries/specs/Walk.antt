-- A counted loop over items. Assumes nothing.
use Rattle.std.specs.Prelude.{◌≡◌, List, [], ℕ, ◌-◌, ◌≤◌, length}
use Rattle.format.specs.Read.{Reader, repeat, at}
use Rattle.format.specs.Places.{items_here, items_end}

-- i of n items were read from `first` to s, and what is left, read from there, is the whole, read from `first`
pub record Walk {A : Type 0} (step : List A → Reader A) (here : List ℕ → ℕ → A) (end : List ℕ → ℕ → ℕ) (m : List ℕ) (first n i s : ℕ) : Type 0 where
  pub some : i ≤ n
  pub reached : s ≡ items_end end m i first
  pub inside : s ≤ length m
  pub left : at (repeat n step []) m first ≡ at (repeat (n - i) step (items_here here end m i first)) m s
