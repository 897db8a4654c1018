-- The code's answer, of what the definition answers; and what its steps say to each other. Assumes nothing.
use Rattle.std.specs.Prelude.{◌≡◌, cond, List, ℕ, ◌+◌, ◌≤◌, ◌<◌, leb, length, Result, Ok, Err}
use Rattle.format.specs.Read.{accepted, at}
use Rattle.format.specs.Fields.{PairAt}
use Rattle.format.specs.Context.{tolerant, read_aad_section}
use Rattle.format.specs.Lent.{filled}
use Rattle.format.specs.Places.{number16}
use Rattle.wire.specs.Codes.{because}
use Rattle.wire.specs.declared.refusals.Refusal.{Refusal}

-- an image, written where it fits, and else 28
pub record Puts (image before after : List ℕ) (r : Result ℕ Refusal) : Type 0 where
  pub answer : r ≡ cond (leb (length image) (length before)) (Ok (length image)) (Err (because 28 0))
  pub output : after ≡ cond (leb (length image) (length before)) (filled image before) before

-- c is the section's count of pairs, where the section reaches so far
pub record Claims (m : List ℕ) (start c : ℕ) : Type 0 where
  pub count : start + 4 ≤ length m → c ≡ number16 m (start + 2)

-- an index of that many places has room for the pairs of the section
pub record Enough (m : List ℕ) (start room : ℕ) : Type 0 where
  pub roomy : (ps : List PairAt) (t : ℕ) → at (read_aad_section tolerant) m start ≡ accepted ps t → room < 16384 → length ps ≤ room
