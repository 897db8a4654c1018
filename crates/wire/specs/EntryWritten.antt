-- The entry writer's promise, byte by byte. It cites nothing but lists and numbers. `wire/src/writing write_short_length_seq` ensures it.
-- Assumes nothing.
use Rattle.std.specs.Prelude.{ℕ, ◌+◌, ◌/◌, ◌%◌, ◌≤◌, ◌<◌, ◌≡◌, List, length, get_or}

-- the byte at a place; 0 past the end
abbrev pub byte : List ℕ → ℕ → ℕ
byte l i = get_or l i 0

-- Where it is promised: for any part of the text of at most 65,535 bytes, and any output with room for its entry at a place.
pub record RoomForEntry (text : List ℕ) (start n : ℕ) (out : List ℕ) (at : ℕ) : Type 0 where
  pub part : start + n ≤ length text
  pub short : n < 65536
  pub room : at + 2 + n ≤ length out

-- What is promised: the n bytes of the text from start on were written as an entry at a place of an output, which held `before` and holds `after`.
pub record EntryWritten (text : List ℕ) (start n : ℕ) (before : List ℕ) (at : ℕ) (after : List ℕ) : Type 0 where
  -- the length's high byte and low byte at that place
  pub high : byte after at ≡ n / 256
  pub low : byte after (at + 1) ≡ n % 256
  -- the part's bytes behind them, one by one
  pub bytes : (i : ℕ) → i < n → byte after (at + 2 + i) ≡ byte text (start + i)
  -- every other byte as it was
  pub in_front : (i : ℕ) → i < at → byte after i ≡ byte before i
  pub behind : (i : ℕ) → at + 2 + n ≤ i → byte after i ≡ byte before i
  -- the output as long as before
  pub as_long : length after ≡ length before

-- It leaves nothing free: two outputs that meet it are the same.
pub record NothingFree : Type 0 where
  pub one_output : (text : List ℕ) (start n : ℕ) (before : List ℕ) (at : ℕ) (after other : List ℕ) → EntryWritten text start n before at after → EntryWritten text start n before at other → after ≡ other
