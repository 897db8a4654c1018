-- An authentication record's image, by the version of its suite; and what its stores ask. Assumes nothing.
use Rattle.std.specs.Prelude.{◌≡◌, cond, List, ◌++◌, ℕ, ◌≤◌, eqb, length}
use Rattle.format.specs.Shared.{by, iv_length, tag_length}

unfoldable pub auth_image : ℕ → List ℕ → List ℕ → List ℕ
auth_image version iv tag = cond (eqb version 1) (iv ++ tag) tag

pub record AuthReady (version : ℕ) (iv tag : List ℕ) (room : ℕ) : Type 0 where
  pub ivLong : length iv ≡ iv_length
  pub tagLong : length tag ≡ tag_length
  pub fits : by version 28 16 ≤ room
