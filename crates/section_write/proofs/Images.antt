-- The images of the sections, in the numbers and the parts of their tables. Assumes nothing.
use Prim.Native.Nat.{ℕ, ◌+◌, ◌/◌}
use native.Mathlib.Omega.{arith}
use mathlib.Core.Path.{◌≡◌, refl, sym, ◌∙◌}
use mathlib.Core.Bool.{Bool, true, false, cond}
use mathlib.Core.List.{List, [], ◌∷◌, ◌++◌, append-nil}
use lib.ListN.{length, length-append}
use borrow.Author.Tests.{eqb-true, eqb-false}
use Rattle.format.specs.Serialize.{write_uint16, write_short_length_seq, entry_length, images}
use Rattle.format.specs.Fields.{Form, today, old, Pair, EncryptedDataKey, pair_parts, key_parts}
use Rattle.format.specs.Context.{write_aad_pair, write_aad_pairs, write_aad, write_expanded_aad_section, write_aad_section, section_in}
use Rattle.format.specs.Keys.{write_encrypted_data_key, write_encrypted_data_keys, write_encrypted_data_keys_section}
use Rattle.format.specs.Lent.{parts_in, pair_in, key_in, pairs_in, keys_in, writing_encrypted_data_keys_section, items}
use Rattle.format.proofs.Context.{length_images}
use Rattle.format.proofs.Serialize.{length_uint16, length_entry}
use Rattle.format.proofs.Tables.{items_length}
use Rattle.checks.specs.Table.{Passed, entries_size}
use Rattle.checks.proofs.Items.{images_of_images}
use Rattle.checks.proofs.Parts.{in_fours, in_sixes, parts_size}
use Rattle.checks.proofs.SectionChecks.{pairs_size}
use Rattle.section_write.specs.Sizes.{length_alone, aad_section_size, keys_section_size}

-- the entries of an item's parts are the item's image
pub pairs_entries : (ps : List Pair) → images write_short_length_seq (images pair_parts ps) ≡ write_aad_pairs ps
unfolding write_aad_pairs write_aad_pair images
pairs_entries ps = images_of_images write_short_length_seq pair_parts write_aad_pair (λ p. rw append-nil) ps

pub keys_entries : (ks : List EncryptedDataKey) → images write_short_length_seq (images key_parts ks) ≡ write_encrypted_data_keys ks
unfolding write_encrypted_data_keys write_encrypted_data_key images
keys_entries ks = images_of_images write_short_length_seq key_parts write_encrypted_data_key (λ k. rw append-nil) ks

module _ (text table : List ℕ) where
  abbrev entries : List ℕ
  entries = images write_short_length_seq (parts_in text table)

  counted : length (pairs_in text table) ≡ length table / 4
  counted = items_length (pair_in text table) 4 (length table / 4) 0

  pub expanded_are : Passed 4 text table → write_expanded_aad_section (pairs_in text table) ≡ write_uint16 (2 + entries_size table) ++ (write_uint16 (length table / 4) ++ entries)
  unfolding write_expanded_aad_section write_aad
  expanded_are p = rw (counted, pairs_size text table p, ← pairs_entries (pairs_in text table), in_fours text table p.whole)

  -- which of the two the form asks for
  pub alone_is : (form : Form) → length_alone form table ≡ true → section_in form (pairs_in text table) ≡ write_uint16 0
  unfolding write_aad_section items
  alone_is today e = let z : length table / 4 ≡ 0 = eqb-true _ _ e in rw z
  alone_is old e = let z : ◌≡◌ {A = ℕ} 0 1 = cc in absurd (omega arith)

  pub expanded_is : (form : Form) → length_alone form table ≡ false → section_in form (pairs_in text table) ≡ write_expanded_aad_section (pairs_in text table)
  unfolding write_aad_section
  expanded_is today e = some (pairs_in text table) (λ z. eqb-false _ _ e (sym counted ∙ z))
    where
      some : (ps : List Pair) → (length ps ≡ 0 → ⊥) → write_aad_section ps ≡ write_expanded_aad_section ps
      some [] h = absurd (h refl)
      some (p ∷ ps) h = refl
  expanded_is old e = refl

  pub keys_are : Passed 6 text table → (writing_encrypted_data_keys_section text table).image ≡ write_uint16 (length table / 6) ++ entries
  unfolding writing_encrypted_data_keys_section write_encrypted_data_keys_section
  keys_are p = rw (items_length (key_in text table) 6 (length table / 6) 0, ← keys_entries (keys_in text table), in_sixes text table p.whole)

  entries_long : (k : ℕ) → Passed k text table → length entries ≡ entries_size table
  entries_long k p = length_images write_short_length_seq entry_length length_entry (parts_in text table) ∙ sym (parts_size text table p.inside)

  pub aad_long : (form : Form) → Passed 4 text table → length (section_in form (pairs_in text table)) ≡ aad_section_size form table
  unfolding aad_section_size
  aad_long form p = go (length_alone form table) refl
    where
      go : (t : Bool) → length_alone form table ≡ t → length (section_in form (pairs_in text table)) ≡ cond t 2 (4 + entries_size table)
      go true e = rw (alone_is form e) (length_uint16 0)
      go false e =
          let l = entries_long 4 p in
          rw (expanded_is form e, expanded_are p, length-append, length-append, length_uint16, length_uint16) (omega arith)

  pub keys_long : Passed 6 text table → length (writing_encrypted_data_keys_section text table).image ≡ keys_section_size table
  keys_long p = let l = entries_long 6 p in rw (keys_are p, length-append, length_uint16) (omega arith)
