-- Laws of the section writers: sizes, stores, and what passed checks give to both. Assumes nothing.
use Prim.Native.Nat.{ℕ, ◌+◌, ◌/◌, ◌≤◌, ◌<◌}
use native.Mathlib.Omega.{arith}
use mathlib.Core.Path.{◌≡◌, refl, sym, ◌∙◌}
use mathlib.Core.List.{List}
use lib.ListN.{length}
use mathlib.Core.Bool.{Bool, true, false}
use Rattle.format.specs.Serialize.{write_uint16, write_short_length_seq, images}
use Rattle.format.specs.Fields.{today}
use Rattle.format.specs.Fields.{Form as Mark}
use Rattle.format.specs.Context.{write_expanded_aad_section, section_in}
use Rattle.format.specs.Checks.{first}
use Rattle.format.specs.Lent.{parts_in, pairs_in, writing_aad_section, writing_encrypted_data_keys_section}
use Rattle.format.proofs.Serialize.{length_uint16}
use Rattle.wire.specs.Stored.{stored}
use Rattle.checks.specs.Answers.{Checked, checked}
use Rattle.checks.specs.Table.{Passed, entries_size}
use Rattle.checks.proofs.Stages.{stage_none}
use Rattle.checks.proofs.SectionChecks.{pairs_passed, pairs_few, keys_passed}
use Rattle.checks.proofs.Writers.{chain, still_long}
use Rattle.section_write.specs.Sizes.{length_alone, aad_section_size, keys_section_size, PairsReady, KeysReady}
use Rattle.section_write.proofs.Images.{expanded_are, alone_is, expanded_is, aad_long, keys_are, keys_long}
use Rattle.std.specs.Prelude.{Ok}

-- the context section's size
module _ (form : Mark) (table : List ℕ) (b : Bool) (is : b ≡ length_alone form table) where
  pub size_alone : b ≡ true → 2 ≡ aad_section_size form table
  unfolding aad_section_size
  size_alone e = rw (sym is ∙ e)

  pub size_expanded : b ≡ false → (n : ℕ) → n ≡ entries_size table → 4 + n ≡ aad_section_size form table
  unfolding aad_section_size
  size_expanded e n q = rw (sym is ∙ e, q)

-- what the stores of a context section ask
module _ (form : Mark) (text table : List ℕ) (room : ℕ) (r : PairsReady form text table room) (b : Bool) (is : b ≡ length_alone form table) where
  pub room_alone : b ≡ true → 0 + 2 ≤ room
  room_alone e = omega (arith, size_alone form table b is e, r.fits)

  pub room_expanded : b ≡ false → 4 + entries_size table ≤ room
  room_expanded e = omega (arith, size_expanded form table b is e (entries_size table) refl, r.fits)

-- the stores of a section
module _ (text table out : List ℕ) where
  pub alone_stored : (form : Mark) (b : Bool) → b ≡ length_alone form table → b ≡ true → (o : List ℕ) → o ≡ stored out 0 (write_uint16 0) → o ≡ stored out 0 (section_in form (pairs_in text table))
  alone_stored form b is e o q = q ∙ rw (alone_is text table form (sym is ∙ e))

  pub expanded_stored : (form : Mark) (b : Bool) → b ≡ length_alone form table → b ≡ false → (o : List ℕ) → o ≡ stored out 0 (write_expanded_aad_section (pairs_in text table))
      → o ≡ stored out 0 (section_in form (pairs_in text table))
  expanded_stored form b is e o q = q ∙ rw (expanded_is text table form (sym is ∙ e))

  pub aad_stored : Passed 4 text table → 4 + entries_size table ≤ length out → (n : ℕ) → n ≡ entries_size table → (o₁ o₂ o₃ : List ℕ)
      → o₁ ≡ stored out 0 (write_uint16 (2 + n)) → o₂ ≡ stored o₁ 2 (write_uint16 (length table / 4)) → o₃ ≡ stored o₂ 4 (images write_short_length_seq (parts_in text table))
      → o₃ ≡ stored out 0 (write_expanded_aad_section (pairs_in text table))
  aad_stored p room n e o₁ o₂ o₃ e₁ e₂ e₃ =
      let size = length_uint16 (2 + n) in
      let count = length_uint16 (length table / 4) in
      let l = still_long out o₁ 0 (write_uint16 (2 + n)) e₁ (omega arith) in
      let two = chain o₁ o₂ o₃ 2 4 (write_uint16 (length table / 4)) (images write_short_length_seq (parts_in text table)) e₂ (omega arith) e₃ (omega arith) in
      chain out o₁ o₃ 0 2 (write_uint16 (2 + n)) _ e₁ (omega arith) two (omega arith) ∙ rw (e, expanded_are text table p)

  pub keys_stored : KeysReady text table (length out) → (o₁ o₂ : List ℕ) → o₁ ≡ stored out 0 (write_uint16 (length table / 6)) → o₂ ≡ stored o₁ 2 (images write_short_length_seq (parts_in text table))
      → o₂ ≡ stored out 0 (writing_encrypted_data_keys_section text table).image
  keys_stored r o₁ o₂ e₁ e₂ =
      let count = length_uint16 (length table / 6) in
      chain out o₁ o₂ 0 2 (write_uint16 (length table / 6)) (images write_short_length_seq (parts_in text table)) e₁ (omega arith) e₂ (omega (arith, r.fits)) ∙ rw (keys_are text table r.table_passed)

  -- as an operation of its own it is in today's form
  pub today_stored : (o : List ℕ) → o ≡ stored out 0 (section_in today (pairs_in text table)) → o ≡ stored out 0 (writing_aad_section text table).image
  unfolding writing_aad_section
  today_stored o q = q

-- what checks that passed give
module _ (text table : List ℕ) (c : Checked) (is : c ≡ checked (first (writing_aad_section text table).checks)) (e : c ≡ Ok tt) where
  passed_4 : Passed 4 text table
  passed_4 = pairs_passed text table (stage_none _ c is e)

  pub aad_small : length table < 4194304
  aad_small = omega (arith, passed_4.whole, passed_4.count)

  pub aad_ready : (n room : ℕ) → n ≡ aad_section_size today table → n ≤ room → PairsReady today text table room
  aad_ready n room q h = record { table_passed = passed_4; few = pairs_few text table (stage_none _ c is e); fits = rw q at h }

  pub aad_length : (n : ℕ) → n ≡ aad_section_size today table → n ≡ length (writing_aad_section text table).image
  unfolding writing_aad_section
  aad_length n q = q ∙ sym (aad_long text table today passed_4)

module _ (text table : List ℕ) (c : Checked) (is : c ≡ checked (first (writing_encrypted_data_keys_section text table).checks)) (e : c ≡ Ok tt) where
  passed_6 : Passed 6 text table
  passed_6 = keys_passed text table (stage_none _ c is e)

  pub keys_small : length table < 4194304
  keys_small = omega (arith, passed_6.whole, passed_6.count)

  pub keys_ready : (n room : ℕ) → n ≡ keys_section_size table → n ≤ room → KeysReady text table room
  keys_ready n room q h = record { table_passed = passed_6; fits = rw q at h }

  pub keys_length : (n : ℕ) → n ≡ keys_section_size table → n ≡ length (writing_encrypted_data_keys_section text table).image
  keys_length n q = q ∙ sym (keys_long text table passed_6)
