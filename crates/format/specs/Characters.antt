-- RFC 3629, section 3: the bytes of a character number, which are its bits in groups of six behind a mark. specs/Pinned holds the rows of
-- section 4, by which texts are read, to it. Assumes nothing.
use Rattle.std.specs.Prelude.{◌⊎◌, List, [], ◌∷◌, ◌++◌, ℕ, ◌+◌, ◌*◌, ◌≤◌, ◌<◌}

-- by the number of bytes: the number has no shorter form, and is no surrogate, D800 to DFFF, nor above 10FFFF
pub data Character : List ℕ → Type 0 where
  one : (a : ℕ) → a < 0x80 → Character (a ∷ [])
  two : (a b : ℕ) → b < 64 → 0x80 ≤ 64 * a + b → 64 * a + b < 0x800 → Character ((0xC0 + a) ∷ (0x80 + b) ∷ [])
  three : (a b c : ℕ) → b < 64 → c < 64 → 0x800 ≤ 4096 * a + 64 * b + c → 4096 * a + 64 * b + c < 0x10000
      → (4096 * a + 64 * b + c < 0xD800) ⊎ (0xDFFF < 4096 * a + 64 * b + c) → Character ((0xE0 + a) ∷ (0x80 + b) ∷ (0x80 + c) ∷ [])
  four : (a b c d : ℕ) → b < 64 → c < 64 → d < 64 → 0x10000 ≤ 262144 * a + 4096 * b + 64 * c + d → 262144 * a + 4096 * b + 64 * c + d ≤ 0x10FFFF
      → Character ((0xF0 + a) ∷ (0x80 + b) ∷ (0x80 + c) ∷ (0x80 + d) ∷ [])

-- characters, one after the other
pub data Characters : List ℕ → Type 0 where
  empty : Characters []
  more : {c s : List ℕ} → Character c → Characters s → Characters (c ++ s)
