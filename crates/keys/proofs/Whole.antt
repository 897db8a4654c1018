-- The ways out of the reader of a section with its table, one law each: those of any section. Assumes nothing.
use mathlib.Core.Path.{◌≡◌}
use mathlib.Core.List.{List}
use Prim.Native.Nat.{ℕ, ◌+◌, ◌*◌, ◌/◌, ◌≤◌, ◌<◌}
use native.Mathlib.Omega.{arith}
use lib.ListN.{length}
use Rattle.std.specs.Prelude.{Option, Result, Ok, Err}
use Rattle.format.specs.Read.{at}
use Rattle.format.specs.Serialize.{images}
use Rattle.format.specs.Fields.{key_places}
use Rattle.format.specs.Keys.{read_encrypted_data_keys_section, read_encrypted_data_keys_section_into}
use Rattle.format.specs.Lent.{place, filled, key_numbers}
use Rattle.wire.specs.Codes.{because}
use Rattle.wire.specs.declared.refusals.Refusal.{Refusal}
use Rattle.wire.specs.declared.SuccessfulRead.{SuccessfulRead}
use Rattle.request.specs.Codes.{max_of}
use Rattle.format.specs.Places.{key_here, key_end, entries_here, entries_end}
use Rattle.entries.specs.Codes.{Reads, counted}
use Rattle.entries.proofs.Items.{keys_made}
use Rattle.entries.proofs.Sections as any
use Rattle.keys.proofs.Known.{section_tidy, section_known}

section : (max : Option ℕ) → any.Section key_here key_end key_places 3 2 (read_encrypted_data_keys_section (max_of max))
section max = record { made = keys_made; tidy = section_tidy (max_of max); known = section_known (max_of max) }

-- an accepted section, of the code's answer
abbrev pub Had : Option ℕ → List ℕ → ℕ → SuccessfulRead ℕ → Type 0
Had max m start keys = any.Had key_here key_end key_places 3 m (start + 2) (at (read_encrypted_data_keys_section (max_of max)) m start) keys.value keys.tail

module _ (max : Option ℕ) (m : List ℕ) (start : ℕ) (a : Result (SuccessfulRead ℕ) Refusal) (aIs : a ≡ counted (at (read_encrypted_data_keys_section (max_of max)) m start)) where
  module _ (keys : SuccessfulRead ℕ) (b : a ≡ Ok keys) where
    pub had : Had max m start keys
    had = any.had (section max) m start a aIs keys b

    pub section_entries : 0 < 3 * keys.value → entries_end m (3 * keys.value) (start + 2) ≤ length m
    section_entries = had.entries

  -- with refusal 23
  module _ (table : List ℕ) where
    abbrev pub Into : List ℕ → Result (SuccessfulRead ℕ) Refusal → Type 0
    Into = Reads counted key_numbers (at (read_encrypted_data_keys_section_into (max_of max) (length table)) m start) table

    pub into_not : (q : Refusal) → a ≡ Err q → Into table (Err q)
    unfolding read_encrypted_data_keys_section_into
    into_not q b = any.into_not (section max) m start a aIs 23 6 table q b

    module _ (keys : SuccessfulRead ℕ) (b : a ≡ Ok keys) where
      pub into_23 : length table / 6 < keys.value → (q : Refusal) → q ≡ because 23 0 → Into table (Err q)
      unfolding read_encrypted_data_keys_section_into
      into_23 g = any.into_short (section max) m start a aIs 23 6 table keys b (omega arith)

      pub into_whole : keys.value ≤ length table / 6 → (after : List ℕ) → after ≡ filled (images place (entries_here m (3 * keys.value) (start + 2))) table → Into after (Ok keys)
      unfolding read_encrypted_data_keys_section_into
      into_whole g = any.into_whole (section max) m start a aIs 23 6 table keys b (omega arith)
