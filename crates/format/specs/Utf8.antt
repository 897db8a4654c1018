-- RFC 3629, section 4, the syntax of UTF-8 byte sequences. Assumes nothing.
use Rattle.std.specs.Prelude.{ℕ, Bool, true, false, cond, ◌&&◌, List, [], ◌∷◌, leb}

-- the bytes from `low` to `high`
pub data Range : Type 0 where
  ◌‥◌ : ℕ → ℕ → Range

infix 70 ◌‥◌
abbrev pub has : Range → ℕ → Bool
has (low ‥ high) b = leb low b && leb b high

-- UTF8-tail
abbrev pub tail : Range
tail = 0x80 ‥ 0xBF

-- a row for each alternative of UTF8-1, UTF8-2, UTF8-3 and UTF8-4: the ranges of its bytes, in order
unfoldable pub rows : List (List Range)
rows =
    (0x00 ‥ 0x7F ∷ []) ∷
    (0xC2 ‥ 0xDF ∷ tail ∷ []) ∷
    (0xE0 ‥ 0xE0 ∷ 0xA0 ‥ 0xBF ∷ tail ∷ []) ∷
    (0xE1 ‥ 0xEC ∷ tail ∷ tail ∷ []) ∷
    (0xED ‥ 0xED ∷ 0x80 ‥ 0x9F ∷ tail ∷ []) ∷
    (0xEE ‥ 0xEF ∷ tail ∷ tail ∷ []) ∷
    (0xF0 ‥ 0xF0 ∷ 0x90 ‥ 0xBF ∷ tail ∷ tail ∷ []) ∷
    (0xF1 ‥ 0xF3 ∷ tail ∷ tail ∷ tail ∷ []) ∷
    (0xF4 ‥ 0xF4 ∷ 0x80 ‥ 0x8F ∷ tail ∷ tail ∷ []) ∷ []

-- what is due after a byte: nothing can follow it, or bytes of these ranges, and then a new character
pub data Due : Type 0 where
  never : Due
  due : List Range → Due

-- after a character's first byte: the rest of the row that begins with it (no two rows begin with the same byte)
unfoldable pub first_byte : List (List Range) → ℕ → Due
first_byte [] b = never
first_byte ([] ∷ rs) b = first_byte rs b
first_byte ((r ∷ rest) ∷ rs) b = cond (has r b) (due rest) (first_byte rs b)

-- UTF8-octets: the bytes that are due, then whole characters
unfoldable pub octets : List ℕ → Due → Bool
octets [] never = false
octets [] (due []) = true
octets [] (due (r ∷ rest)) = false
octets (b ∷ bytes) never = false
octets (b ∷ bytes) (due []) = octets bytes (first_byte rows b)
octets (b ∷ bytes) (due (r ∷ rest)) = has r b && octets bytes (due rest)

abbrev pub valid_utf8_seq : List ℕ → Bool
valid_utf8_seq bytes = octets bytes (due [])
