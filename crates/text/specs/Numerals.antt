-- What makes a numeral the right one. Assumes nothing.
use Rattle.std.specs.Prelude.{◌≡◌, List, [], ◌∷◌, ℕ, ◌+◌, ◌*◌, ◌-◌, ◌≤◌, ◌<◌, length, get_or}

-- the number that decimal digits stand for, behind the number n
unfoldable pub value_from : ℕ → List ℕ → ℕ
value_from n [] = n
value_from n (d ∷ ds) = value_from (n * 10 + (d - 48)) ds

-- the characters 0 to 9
abbrev pub Decimals : List ℕ → Type 0
Decimals [] = Unit {0}
Decimals (d ∷ ds) = (48 ≤ d) × (d < 58) × Decimals ds

-- the digits of n: some, which stand for n, and from two on the first is not 0
pub record Numeral (n : ℕ) (text : List ℕ) : Type 0 where
  pub some : 0 < length text
  pub digits : Decimals text
  pub value : value_from 0 text ≡ n
  pub tight : 1 < length text → 48 < get_or text 0 0
