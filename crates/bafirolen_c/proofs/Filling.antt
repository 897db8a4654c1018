-- A store of whole bytes at the front of an output. Assumes nothing.
use Prim.Native.Nat.{ℕ}
use mathlib.Core.Path.{◌≡◌, ap, ◌∙◌}
use mathlib.Core.List.{List}
use lib.ListN.{length}
use Rattle.format.specs.Lent.{bytes_at, filled}
use Rattle.wire.specs.Stored.{stored}
use Rattle.checks.proofs.Writers.{stored_first, whole_bytes}

pub filled_whole : (l out after : List ℕ) → after ≡ stored out 0 (bytes_at l 0 (length l)) → after ≡ filled l out
filled_whole l out after e = e ∙ ap (stored out 0) (whole_bytes l) ∙ stored_first out l
