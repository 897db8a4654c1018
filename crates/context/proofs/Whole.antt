-- The ways out of the reader of a section with its table, one law each: those of any section. Assumes nothing.
use mathlib.Core.Path.{◌≡◌}
use mathlib.Core.List.{List}
use Prim.Native.Nat.{ℕ, ◌+◌, ◌*◌, ◌/◌, ◌≤◌, ◌<◌}
use native.Mathlib.Omega.{arith}
use lib.ListN.{length}
use Rattle.std.specs.Prelude.{Result, Ok, Err}
use Rattle.format.specs.Read.{at}
use Rattle.format.specs.Serialize.{images}
use Rattle.format.specs.Fields.{pair_places}
use Rattle.format.specs.Context.{read_aad_section, read_aad_section_into}
use Rattle.format.specs.Lent.{place, filled, pair_numbers}
use Rattle.wire.specs.Codes.{because}
use Rattle.wire.specs.declared.refusals.Refusal.{Refusal}
use Rattle.wire.specs.declared.SuccessfulRead.{SuccessfulRead}
use Rattle.request.specs.Codes.{mode_of}
use Rattle.request.specs.declared.Mode.{Mode}
use Rattle.format.specs.Places.{pair_here, pair_end, pairs_end, entries_here, entries_end}
use Rattle.entries.specs.Codes.{Reads, counted}
use Rattle.entries.proofs.Items.{pairs_made}
use Rattle.entries.proofs.Sections as any
use Rattle.context.proofs.Known.{section_tidy, section_known}

section : (mode : Mode) → any.Section pair_here pair_end pair_places 2 4 (read_aad_section (mode_of mode))
section mode = record { made = pairs_made; tidy = section_tidy (mode_of mode); known = section_known (mode_of mode) }

-- an accepted section, of the code's answer
abbrev pub Had : Mode → List ℕ → ℕ → SuccessfulRead ℕ → Type 0
Had mode m start pairs = any.Had pair_here pair_end pair_places 2 m (start + 4) (at (read_aad_section (mode_of mode)) m start) pairs.value pairs.tail

module _ (mode : Mode) (m : List ℕ) (start : ℕ) (a : Result (SuccessfulRead ℕ) Refusal) (aIs : a ≡ counted (at (read_aad_section (mode_of mode)) m start)) where
  module _ (pairs : SuccessfulRead ℕ) (b : a ≡ Ok pairs) where
    pub had : Had mode m start pairs
    had = any.had (section mode) m start a aIs pairs b

    pub section_inside : 0 < pairs.value → pairs_end m pairs.value (start + 4) ≤ length m
    section_inside = had.inside

    pub section_entries : 0 < 2 * pairs.value → entries_end m (2 * pairs.value) (start + 4) ≤ length m
    section_entries = had.entries

  -- with refusal 22
  module _ (table : List ℕ) where
    abbrev pub Into : List ℕ → Result (SuccessfulRead ℕ) Refusal → Type 0
    Into = Reads counted pair_numbers (at (read_aad_section_into (mode_of mode) (length table)) m start) table

    pub into_not : (q : Refusal) → a ≡ Err q → Into table (Err q)
    unfolding read_aad_section_into
    into_not q b = any.into_not (section mode) m start a aIs 22 4 table q b

    module _ (pairs : SuccessfulRead ℕ) (b : a ≡ Ok pairs) where
      pub into_22 : length table / 4 < pairs.value → (q : Refusal) → q ≡ because 22 0 → Into table (Err q)
      unfolding read_aad_section_into
      into_22 g = any.into_short (section mode) m start a aIs 22 4 table pairs b (omega arith)

      pub into_whole : pairs.value ≤ length table / 4 → (after : List ℕ) → after ≡ filled (images place (entries_here m (2 * pairs.value) (start + 4))) table → Into after (Ok pairs)
      unfolding read_aad_section_into
      into_whole g = any.into_whole (section mode) m start a aIs 22 4 table pairs b (omega arith)
