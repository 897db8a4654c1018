-- Laws of the checks of pairs and of keys: what they come to in the table's numbers, the ways out, and what they leave known.
-- Assumes nothing.
use Prim.Native.Nat.{ℕ, ◌/◌, ◌%◌, ◌≤◌, ◌<◌}
use native.Mathlib.Nat.{add-zero}
use native.Mathlib.Omega.{arith}
use mathlib.Core.Path.{◌≡◌, refl, sym, ap, ◌∙◌}
use mathlib.Core.Option.{none}
use mathlib.Core.Bool.{Bool, not}
use mathlib.Core.List.{List, [], ◌∷◌, ◌++◌}
use lib.Dec.{leb, ltb, eqb}
use lib.ListN.{length}
use borrow.Author.Tests.{eqb-true, ltb-true, lt-ltb, le-ltb}
use Rattle.format.specs.Serialize.{sum, images, every, entry_length}
use Rattle.format.specs.Fields.{pair_parts, key_parts}
use Rattle.format.specs.Context.{pair_length, linear_length}
use Rattle.format.specs.Checks.{Check, check, first, each, count_checks, pair_checks, key_checks, pairs_checks, keys_checks}
use Rattle.format.specs.Lent.{parts_in, pair_in, key_in, pairs_in, keys_in, places, table_checks, writing_aad_section, writing_encrypted_data_keys_section}
use Rattle.format.proofs.Firsts.{holds, first_pass, first_stop, first_cong}
use Rattle.format.proofs.Tables.{items_length}
use Rattle.wire.specs.Codes.{because}
use Rattle.wire.specs.declared.refusals.Refusal.{Refusal}
use Rattle.checks.specs.Answers.{Checked, checked}
use Rattle.checks.specs.Table.{short, numbers_checks, entries_size, Passed}
use Rattle.checks.proofs.Items.{sum_of_images}
use Rattle.checks.proofs.Stages.{stage_passes, stage_fails, front, back, check_ne, pass_ne}
use Rattle.checks.proofs.Parts.{passed, in_fours, in_sixes, parts_size, parts_short}
use Rattle.std.specs.Prelude.{Ok, Err}

-- 26 and 27 of the numbers are those of the items
module _ (k : ℕ) (text table : List ℕ) (m : ℕ) (parts : List (List ℕ)) (em : m ≡ length table / k) (ep : length table % k ≡ 0 → parts ≡ parts_in text table) where
  same_27 : first (table_checks k text table) ≡ none
      → first (check 27 (leb (length table / k) 65535) ∷ check 27 (every (short table) (places table)) ∷ []) ≡ first (count_checks m parts)
  unfolding table_checks
  same_27 e =
      let h = holds (table_checks k text table) e in
      rw (parts_short text table h.1.0, em, ep (eqb-true _ _ h.0))

  numbers_are : first (numbers_checks k text table) ≡ first (table_checks k text table ++ count_checks m parts)
  unfolding numbers_checks
  numbers_are = first_cong (table_checks k text table) _ _ same_27

  numbers_passed : (rest : List Check) → first ((table_checks k text table ++ count_checks m parts) ++ rest) ≡ none → Passed k text table
  numbers_passed rest e = passed k text table (Ok tt) (sym (ap checked (numbers_are ∙ front _ rest e))) refl

pub table_small : (text table : List ℕ) (a : Checked) → a ≡ checked (first (numbers_checks 4 text table)) → a ≡ Ok tt → length table < 4194304
table_small text table a is e = let p = passed 4 text table a is e in omega (arith, p.whole, p.count)

pub table_count : (text table : List ℕ) (a : Checked) → a ≡ checked (first (numbers_checks 4 text table)) → a ≡ Ok tt → length table / 4 ≤ 65535
table_count text table a is e = (passed 4 text table a is e).count

-- the entries of the pairs take what their parts' entries take
pub pairs_size : (text table : List ℕ) → Passed 4 text table → linear_length (pairs_in text table) ≡ entries_size table
unfolding sum
pairs_size text table p =
    sym (sum_of_images entry_length pair_parts pair_length (λ q. rw add-zero) (pairs_in text table)) ∙ rw (in_fours text table p.whole) (sym (parts_size text table p.inside))

-- the checks in the code's stages
module _ (text table : List ℕ) where
  abbrev pair_table : List Check
  pair_table = table_checks 4 text table ++ count_checks (length (pairs_in text table)) (images pair_parts (pairs_in text table))

  abbrev each_pair : List Check
  each_pair = each pair_checks [] (pairs_in text table)

  abbrev all_pairs : List Check
  all_pairs = check 13 (ltb (linear_length (pairs_in text table)) 65534) ∷ []

  pair_stages : (writing_aad_section text table).checks ≡ pair_table ++ (each_pair ++ all_pairs)
  unfolding writing_aad_section pairs_checks table_checks
  pair_stages = refl

  abbrev key_table : List Check
  key_table = table_checks 6 text table ++ count_checks (length (keys_in text table)) (images key_parts (keys_in text table))

  abbrev some_key : Bool
  some_key = not (eqb (length (keys_in text table)) 0)

  key_stages : (writing_encrypted_data_keys_section text table).checks ≡ key_table ++ (check 38 some_key ∷ each key_checks [] (keys_in text table))
  unfolding writing_encrypted_data_keys_section keys_checks table_checks
  key_stages = refl

-- the ways out of the checks of pairs
module _ (text table : List ℕ) (a : Checked) (is : a ≡ checked (first (numbers_checks 4 text table))) where
  pair_table_is : a ≡ checked (first (pair_table text table))
  pair_table_is = is ∙ ap checked (numbers_are 4 text table _ _ (items_length (pair_in text table) 4 (length table / 4) 0) (in_fours text table))

  pub pairs_table : (r : Refusal) → a ≡ Err r → ◌≡◌ {A = Checked} (Err r) (checked (first (writing_aad_section text table).checks))
  pairs_table r e = rw (pair_stages text table) (sym (stage_fails (pair_table text table) a pair_table_is _ r e))

  module _ (e : a ≡ Ok tt) (b : Checked) (bIs : b ≡ checked (first (each pair_checks [] (pairs_in text table)))) where
    pub pairs_each : (r : Refusal) → b ≡ Err r → ◌≡◌ {A = Checked} (Err r) (checked (first (writing_aad_section text table).checks))
    pairs_each r f = rw (pair_stages text table) (sym (stage_passes (pair_table text table) a pair_table_is _ e ∙ stage_fails (each_pair text table) b bIs _ r f))

    module _ (f : b ≡ Ok tt) (n : ℕ) (nIs : n ≡ entries_size table) (r : Checked) where
      left : checked (first (writing_aad_section text table).checks) ≡ checked (first (all_pairs text table))
      left = rw (pair_stages text table) (stage_passes (pair_table text table) a pair_table_is _ e ∙ stage_passes (each_pair text table) b bIs _ f)

      size_is : linear_length (pairs_in text table) ≡ n
      size_is = pairs_size text table (passed 4 text table a is e) ∙ sym nIs

      pub pairs_13 : 65534 ≤ n → r ≡ Err (because 13 0) → r ≡ checked (first (writing_aad_section text table).checks)
      pairs_13 h q = q ∙ sym (left ∙ ap checked (first_stop 13 (ltb (linear_length (pairs_in text table)) 65534) [] (rw size_is (le-ltb _ _ h))))

      pub pairs_pass : n < 65534 → r ≡ Ok tt → r ≡ checked (first (writing_aad_section text table).checks)
      unfolding first
      pairs_pass h q = q ∙ sym (left ∙ ap checked (first_pass 13 (ltb (linear_length (pairs_in text table)) 65534) [] (rw size_is (lt-ltb _ _ h))))

-- and of keys
module _ (text table : List ℕ) (a : Checked) (is : a ≡ checked (first (numbers_checks 6 text table))) where
  key_table_is : a ≡ checked (first (key_table text table))
  key_table_is = is ∙ ap checked (numbers_are 6 text table _ _ (items_length (key_in text table) 6 (length table / 6) 0) (in_sixes text table))

  pub keys_table : (r : Refusal) → a ≡ Err r → ◌≡◌ {A = Checked} (Err r) (checked (first (writing_encrypted_data_keys_section text table).checks))
  keys_table r e = rw (key_stages text table) (sym (stage_fails (key_table text table) a key_table_is _ r e))

  module _ (e : a ≡ Ok tt) where
    left_keys : checked (first (writing_encrypted_data_keys_section text table).checks) ≡ checked (first (check 38 (some_key text table) ∷ each key_checks [] (keys_in text table)))
    left_keys = rw (key_stages text table) (stage_passes (key_table text table) a key_table_is _ e)

    how_many : length (keys_in text table) ≡ length table / 6
    how_many = items_length (key_in text table) 6 (length table / 6) 0

    pub keys_38 : length table < 6 → (r : Checked) → r ≡ Err (because 38 0) → r ≡ checked (first (writing_encrypted_data_keys_section text table).checks)
    keys_38 h r f = check_ne 38 _ 0 _ r (how_many ∙ omega arith) f ∙ sym left_keys

    pub keys_each : 6 ≤ length table → (b : Checked) → b ≡ checked (first (each key_checks [] (keys_in text table))) → b ≡ checked (first (writing_encrypted_data_keys_section text table).checks)
    keys_each h b bIs = pass_ne 38 _ 0 _ b some bIs ∙ sym left_keys
      where
        some : length (keys_in text table) ≡ 0 → ⊥
        some z = let n = how_many in omega arith

-- what checks that all pass leave known
module _ (text table : List ℕ) where
  module _ (none_applies : first (writing_aad_section text table).checks ≡ none) where
    pub pairs_passed : Passed 4 text table
    pairs_passed = numbers_passed 4 text table _ _ (items_length (pair_in text table) 4 (length table / 4) 0) (in_fours text table) _ (rw (pair_stages text table) at none_applies)

    pub pairs_few : entries_size table < 65534
    pairs_few =
        let h = holds (all_pairs text table) (back (each_pair text table) _ (back (pair_table text table) _ (rw (pair_stages text table) at none_applies))) in
        rw (pairs_size text table pairs_passed) at (ltb-true (linear_length (pairs_in text table)) 65534 h.0)

  pub keys_passed : first (writing_encrypted_data_keys_section text table).checks ≡ none → Passed 6 text table
  keys_passed e = numbers_passed 6 text table _ _ (items_length (key_in text table) 6 (length table / 6) 0) (in_sixes text table) _ (rw (key_stages text table) at e)
