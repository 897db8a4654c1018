-- What a frame ends with; and what a store leaves, and where it ends. Assumes nothing.
use Rattle.std.specs.Prelude.{◌≡◌, List, ◌++◌, ℕ, ◌+◌, length}
use Rattle.format.specs.Serialize.{write_uint32}
use Rattle.format.specs.Frames.{Frame}
use Rattle.wire.specs.Stored.{stored}

-- content and tag of a frame, and these behind the content's length
abbrev pub sealed : Frame → List ℕ
sealed f = f.content ++ f.tag

abbrev pub sized : Frame → List ℕ
sized f = write_uint32 (length f.content) ++ sealed f

-- the bytes were stored at a place of what was lent, which then is `after`, and they end at `end`
pub record Puts (before : List ℕ) (at : ℕ) (bytes after : List ℕ) (end : ℕ) : Type 0 where
  pub output : after ≡ stored before at bytes
  pub place : end ≡ at + length bytes
