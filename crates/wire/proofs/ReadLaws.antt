-- The ways out of the functions that read, and what holds of what was read. Assumes nothing.
use Prim.Native.Nat.{ℕ, ◌+◌, ◌≤◌, ◌<◌}
use mathlib.Core.Path.{◌≡◌, sym, ◌∙◌}
use mathlib.Core.Bool.{Bool, true, false}
use mathlib.Core.List.{List}
use lib.Dec.{leb}
use lib.ListN.{length}
use borrow.Author.Tests.{le-leb, lt-leb}
use Rattle.format.specs.Read.{accepted, refused, at, addressable}
use Rattle.format.specs.Serialize.{read, read_at, read_operation}
use Rattle.format.proofs.Pinned.{pinned}
use Rattle.format.specs.Places.{part_of}
use Rattle.steps.proofs.Operations.{too_long}
use Rattle.steps.proofs.Numbers.{length_part}
use Rattle.wire.specs.Codes.{span_of}
use Rattle.std.specs.Prelude.{Result, Ok}
use Rattle.wire.specs.declared.refusals.Refusal.{Refusal}
use Rattle.wire.specs.declared.Span.{Span}

-- the guard
module _ (m : List ℕ) (s : ℕ) where
  pub guard_long : 4294967295 < length m → false ≡ addressable m s
  guard_long h = sym (too_long m s h)

  pub guard_start : length m ≤ 4294967295 → leb s 4294967295 ≡ addressable m s
  guard_start h = rw (le-leb (length m) 4294967295 h)

-- n bytes
module _ (m : List ℕ) (s n : ℕ) where
  pub bytes_got : s + n ≤ length m → read_at n m s ≡ accepted (part_of m s n) (s + n)
  unfolding read_at
  bytes_got h = rw (le-leb (s + n) (length m) h)

  pub bytes_no : length m < s + n → read_at n m s ≡ refused 2 (s + n)
  unfolding read_at
  bytes_no h = rw (lt-leb (s + n) (length m) h)

  pub bytes_there : s + n ≤ length m → ◌≡◌ {A = Result Span Refusal} (Ok (record { start = s; len = n; tail = s + n })) (span_of (read_at n m s))
  bytes_there h = rw (bytes_got h, length_part m s n h)

  -- it is what the reader answers, of one byte at least
  pub bytes_read_some : 0 < n → read_at n m s ≡ at (read n) m s
  bytes_read_some k = sym (pinned.some_bytes n m s k)

  module _ (b : Bool) (is : b ≡ addressable m s) where
    pub bytes_opened : b ≡ true → read_at n m s ≡ read_operation n m s
    unfolding read_operation
    bytes_opened e = rw (sym is ∙ e)

    pub bytes_guarded : b ≡ false → read_operation n m s ≡ refused 1 0
    unfolding read_operation
    bytes_guarded e = rw (sym is ∙ e)
