-- The code's answers, of what a reader answers. Assumes nothing.
use Rattle.std.specs.Prelude.{◌≡◌, cond, List, [], ◌∷◌, ℕ, ◌+◌, length, Result, Ok, Err}
use Rattle.std.specs.Borrow.{Bor}
use Rattle.format.specs.Read.{Answer, accepted, refused}
use Rattle.format.specs.Serialize.{Part, same_bytes}
use Rattle.format.specs.Fields.{PairAt}
use Rattle.wire.specs.Codes.{because}
use Rattle.wire.specs.declared.SuccessfulRead.{SuccessfulRead}
use Rattle.wire.specs.declared.refusals.Refusal.{Refusal}
use Rattle.request.specs.declared.Mode.{Mode}
use Rattle.request.specs.declared.Mode.TheVariants.{Tolerant, Strict}
use Rattle.context.specs.declared.Place.{Place}

-- the old form of an empty section
abbrev pub old_of : Mode → ℕ → Result (SuccessfulRead ℕ) Refusal
old_of Tolerant t = Ok (record { value = 0; tail = t })
old_of Strict t = Err (because 21 0)

abbrev pub found_of : Answer Part → Result Place Refusal
found_of (accepted p t) = Ok (record { start = p.start; len = length p.bytes })
found_of (refused k p) = Err (because k p)

-- the value of the first of the pairs that has the key
unfoldable pub found_in : List ℕ → List PairAt → Result Place Refusal
found_in k [] = Err (because 29 0)
found_in k (p ∷ ps) = cond (same_bytes k p.key.bytes) (Ok (record { start = p.value.start; len = length p.value.bytes })) (found_in k ps)

-- a returned slice is a part of the lent one: its bytes are the part's, and they stand in the same block of memory, the part's start
-- behind the lent slice's first byte
pub record PartOf (lent given : Bor (List ℕ)) (p : Part) : Type 0 where
  pub bytes : given.now ≡ p.bytes
  pub block : given.ref_ptr.0 ≡ lent.ref_ptr.0
  pub place : given.ref_ptr.1 ≡ lent.ref_ptr.1 + p.start
