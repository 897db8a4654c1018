-- What the program puts into its output is the whole listing of what it read. Assumes nothing.
use mathlib.Core.Path.{◌≡◌}
use mathlib.Core.List.{List}
use mir.Syntax.{w8}
use mir.Val.{Fits}
use Prim.Native.Nat.{ℕ, ◌≤◌}
use native.Mathlib.Omega.{arith}
use lib.ListN.{length, get_or}
use Rattle.format.specs.Lent.{filled}
use Rattle.listing_text.specs.Listing.{listing}
use Rattle.listing_text.specs.Answers.{Lists}
use Rattle.listing_text.proofs.AnswerLaws.{fitting_answer, fitting_output}
use Rattle.wire.proofs.Answers.{bytes_of}
use Rattle.listing_text.proofs.Bound.{listing_fits}
use Rattle.std.specs.Prelude.{Result, Ok}
use Rattle.wire.specs.declared.refusals.Refusal.{Refusal}

module _ (m d o : List ℕ) (a : Result ℕ Refusal) (bytes : (i : ℕ) → Fits w8 (get_or m i 0)) (read : length m ≤ 65536) (room : length d ≡ 262144) (l : Lists (listing m) d o a) where
  fits : length (listing m) ≤ length d
  fits = let h = listing_fits.in_the_program m (bytes_of m bytes) read in omega arith

  pub its_bytes : o ≡ filled (listing m) d
  its_bytes = fitting_output (listing m) d o a l fits

  pub its_length : (n : ℕ) → a ≡ Ok n → n ≡ length (listing m)
  its_length n e = let w : a ≡ Ok (length (listing m)) = fitting_answer (listing m) d o a l fits in cc

  pub is_listed : a ≡ Ok (length (listing m))
  is_listed = fitting_answer (listing m) d o a l fits
