-- What a lent output holds after bytes were written at a place of it. Assumes nothing.
use Rattle.std.specs.Prelude.{ℕ, ◌+◌, List, ◌++◌, length, take, drop}

-- the bytes from s on; every other byte is as it was
unfoldable pub stored : List ℕ → ℕ → List ℕ → List ℕ
stored out s bytes = take s out ++ (bytes ++ drop (s + length bytes) out)
