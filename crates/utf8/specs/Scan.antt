-- What the steps of `is_utf8` say to each other. Assumes nothing.
use Rattle.std.specs.Prelude.{ℕ, zero, suc, ◌+◌, ◌≤◌, ◌<◌, ◌≡◌, Bool, true, false, cond, List, [], ◌∷◌, Option, Some, None, length, get_or, drop}
use Rattle.format.specs.Utf8.{Range, tail, due, octets, valid_utf8_seq}

-- n bytes of the range UTF8-tail
unfoldable pub tails : ℕ → List Range
tails zero = []
tails (suc n) = tail ∷ tails n

-- r: whether n such bytes stand at i; behind them a character begins anew
pub record Tails (m : List ℕ) (i n : ℕ) (r : Bool) : Type 0 where
  pub goes : octets (drop i m) (due (tails n)) ≡ cond r (valid_utf8_seq (drop (i + n) m)) false

-- what remains to be UTF-8 behind a character that began at j, if there is one
abbrev pub beyond : List ℕ → ℕ → Option ℕ → Bool
beyond m j None = false
beyond m j (Some r) = valid_utf8_seq (drop (j + r) m)

abbrev pub Fits : List ℕ → ℕ → Option ℕ → Type 0
Fits m j None = Unit {0}
Fits m j (Some r) = (0 < r) × (j + r ≤ length m)

-- with `ds` due at i: a character that began at j ends at j + r, or there is none
pub record Scan (m : List ℕ) (i : ℕ) (ds : List Range) (j : ℕ) (r : Option ℕ) : Type 0 where
  pub fits : Fits m j r
  pub goes : octets (drop i m) (due ds) ≡ beyond m j r

-- the bytes from i to r are characters
pub record Passed (m : List ℕ) (i r : ℕ) : Type 0 where
  pub after : i ≤ r
  pub fits : r ≤ length m
  pub goes : valid_utf8_seq (drop i m) ≡ valid_utf8_seq (drop r m)

-- and there is one at least
pub record Advanced (m : List ℕ) (i r : ℕ) : Type 0 where
  pub passed : Passed m i r
  pub some : i < r

-- where `high` is false, the n bytes from i are below 128
pub record Low (m : List ℕ) (i n : ℕ) (high : Bool) : Type 0 where
  pub low : high ≡ false → (k : ℕ) → k < n → get_or m (i + k) 0 < 128

-- where r is true, a character of two bytes stands at i
pub record Two (m : List ℕ) (i : ℕ) (r : Bool) : Type 0 where
  pub stands : r ≡ true → Passed m i (i + 2)
