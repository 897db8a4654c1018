-- The two ends of a body's image. Assumes nothing.
use Rattle.std.specs.Prelude.{Bool, List, [], ◌∷◌, ◌++◌, ℕ}
use Rattle.format.specs.Body.{write_opening_of, write_closing_of}

-- before the context section; true: version 1
unfoldable pub write_opening : Bool → ℕ → ℕ → ℕ → List ℕ → List ℕ
write_opening v1 version messageType suite id = (version ∷ []) ++ write_opening_of v1 messageType suite id

-- behind the key section
unfoldable pub write_closing : Bool → ℕ → ℕ → ℕ → List ℕ → List ℕ
write_closing v1 content iv frame suiteData = (content ∷ []) ++ write_closing_of v1 iv frame suiteData
