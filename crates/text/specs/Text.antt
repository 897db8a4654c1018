-- What a line of text is made of: digits, fields behind tabs, and the line's end. Assumes nothing.
use Rattle.std.specs.Prelude.{cond, List, [], ◌∷◌, ◌++◌, ℕ, zero, suc, ◌+◌, ◌/◌, ◌%◌, ltb}
use Rattle.format.specs.Serialize.{images}

-- the character of a digit below 16, 0 to 9 and then a to f
abbrev pub digit : ℕ → ℕ
digit d = cond (ltb d 10) (48 + d) (87 + d)

-- a byte is two digits, and bytes stand with nothing between them
abbrev pub hex_byte : ℕ → List ℕ
hex_byte b = digit (b / 16) ∷ digit (b % 16) ∷ []

abbrev pub hex : List ℕ → List ℕ
hex bytes = images hex_byte bytes

-- decimal, of at most that many digits
unfoldable pub decimal_in : ℕ → ℕ → List ℕ
decimal_in zero n = []
decimal_in (suc k) n = cond (ltb n 10) (digit n ∷ []) (decimal_in k (n / 10) ++ (digit (n % 10) ∷ []))

-- and of as many as the number takes: no number takes more digits than one more than itself
unfoldable pub decimal : ℕ → List ℕ
decimal n = decimal_in (suc n) n

-- a part of a line behind its word: a tab stands before it
unfoldable pub field : List ℕ → List ℕ
field text = 0x09 ∷ text

-- a line: its word, its fields, and the line's end
unfoldable pub line : List ℕ → List ℕ → List ℕ
line word fields = word ++ (fields ++ (0x0A ∷ []))

abbrev pub decimal_field : ℕ → List ℕ
decimal_field n = field (decimal n)
