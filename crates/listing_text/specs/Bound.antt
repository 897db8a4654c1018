-- How long a listing can be. It is proved in proofs/Bound. Assumes nothing.
use Rattle.std.specs.Prelude.{List, ℕ, ◌+◌, ◌*◌, ◌≤◌, length}
use Rattle.format.specs.Serialize.{Bytes}
use Rattle.listing_text.specs.Listing.{listing}

pub record ListingFits : Type 0 where
  -- every message's: two characters a byte, and 28
  pub two_a_byte : (m : List ℕ) → Bytes m → length (listing m) ≤ 2 * length m + 28
  -- the program reads 65,536 bytes at most, and its output has 262,144
  pub in_the_program : (m : List ℕ) → Bytes m → length m ≤ 65536 → length (listing m) ≤ 262144
