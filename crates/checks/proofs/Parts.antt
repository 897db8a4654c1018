-- Laws of a table's places and parts: what the numbers say of the parts. Assumes nothing.
use Prim.Native.Nat.{ℕ, zero, suc, ◌+◌, ◌*◌, ◌/◌, ◌%◌, ◌≤◌, ◌<◌}
use native.Mathlib.Omega.{arith}
use mathlib.Core.Path.{◌≡◌, refl, ap, ◌∙◌}
use mathlib.Core.Bool.{Bool, true, ◌&&◌}
use mathlib.Core.List.{List, ◌∷◌}
use lib.Dec.{leb}
use lib.ListN.{length, get_or}
use borrow.Author.Tests.{leb-true, eqb-true}
use Rattle.format.specs.Serialize.{images, sum, every, entry_length}
use Rattle.format.specs.Fields.{pair_parts, key_parts}
use Rattle.format.specs.Checks.{first, has_uint16_len}
use Rattle.format.specs.Lent.{parts_in, items, part_in, pair_in, key_in, pairs_in, keys_in, here, places, in_text, table_checks}
use Rattle.format.proofs.Firsts.{both, holds}
use Rattle.steps.proofs.Numbers.{length_part}
use Rattle.checks.specs.Answers.{Checked, checked}
use Rattle.checks.specs.Table.{short, numbers_checks, entry_size, entries_size, Within, Passed}
use Rattle.checks.proofs.Items.{every_at}
use Rattle.checks.proofs.Stages.{stage_none}
use Rattle.std.specs.Prelude.{Ok}

-- what the numbers of a part give
pub part_length : (text table : List ℕ) (at : ℕ) → Within text table at → length (part_in text table at) ≡ get_or table (at + 1) 0
unfolding part_in
part_length text table at w = length_part text (get_or table at 0) (get_or table (at + 1) 0) w.bytes

-- a part of a table whose places are inside the text
module _ (text table : List ℕ) (p : every (in_text text table) (places table) ≡ true) where
  pub part_here : (i at : ℕ) → i < length table / 2 → at ≡ 2 * i → Within text table at
  unfolding in_text
  part_here i at h e =
      let t : in_text text table (0 + 2 * i) ≡ true = every_at (in_text text table) (length table / 2) 0 p i h in
      let z : 0 + 2 * i ≡ at = omega arith in
      record { numbers = omega arith; bytes = leb-true _ _ (rw z at t) }

  pub pair_here : (i : ℕ) → i < length table / 4 → Within text table (4 * i)
  pair_here i h = part_here (2 * i) (4 * i) (omega arith) (omega arith)

  pub value_here : (i : ℕ) → i < length table / 4 → Within text table (4 * i + 2)
  value_here i h = part_here (2 * i + 1) (4 * i + 2) (omega arith) (omega arith)

  pub key_here : (i : ℕ) → i < length table / 6 → Within text table (6 * i)
  key_here i h = part_here (3 * i) (6 * i) (omega arith) (omega arith)

pub short_here : (table : List ℕ) → every (short table) (places table) ≡ true → (i at : ℕ) → i < length table / 2 → at ≡ 2 * i → get_or table (at + 1) 0 < 65536
unfolding short
short_here table p i at h e =
    let t : short table (0 + 2 * i) ≡ true = every_at (short table) (length table / 2) 0 p i h in
    let z : 0 + 2 * i ≡ at = omega arith in
    let b : get_or table (at + 1) 0 ≤ 65535 = leb-true _ _ (rw z at t) in
    omega arith

-- a table that passed
pub passed : (k : ℕ) (text table : List ℕ) (a : Checked) → a ≡ checked (first (numbers_checks k text table)) → a ≡ Ok tt → Passed k text table
unfolding numbers_checks table_checks
passed k text table a is e =
    let h = holds (numbers_checks k text table) (stage_none (numbers_checks k text table) a is e) in
    record { whole = eqb-true _ _ h.0; inside = h.1.0; count = leb-true _ _ h.1.1.0; shorts = h.1.1.1.0 }

pub passed_inside : (k : ℕ) (text table : List ℕ) (a : Checked) → a ≡ checked (first (numbers_checks k text table)) → a ≡ Ok tt → every (in_text text table) (places table) ≡ true
passed_inside k text table a is e = (passed k text table a is e).inside

-- the parts of the pairs and of the keys are all the parts
pairs_parts : (text table : List ℕ) (n at : ℕ) → images pair_parts (items (pair_in text table) 4 n at) ≡ items (part_in text table) 2 (2 * n) at
unfolding images items
pairs_parts text table zero at = refl
pairs_parts text table (suc n) at =
    let e : 2 * suc n ≡ suc (suc (2 * n)) = omega arith in
    let f : at + 2 + 2 ≡ at + 4 = omega arith in
    rw (e, f) (ap (λ (l : List (List ℕ)). part_in text table at ∷ part_in text table (at + 2) ∷ l) (pairs_parts text table n (at + 4)))

keys_parts : (text table : List ℕ) (n at : ℕ) → images key_parts (items (key_in text table) 6 n at) ≡ items (part_in text table) 2 (3 * n) at
unfolding images items
keys_parts text table zero at = refl
keys_parts text table (suc n) at =
    let e : 3 * suc n ≡ suc (suc (suc (3 * n))) = omega arith in
    let f : at + 2 + 2 + 2 ≡ at + 6 = omega arith in
    rw (e, f) (ap (λ (l : List (List ℕ)). part_in text table at ∷ part_in text table (at + 2) ∷ part_in text table (at + 2 + 2) ∷ l) (keys_parts text table n (at + 6)))

module _ (text table : List ℕ) where
  pub in_fours : length table % 4 ≡ 0 → images pair_parts (pairs_in text table) ≡ parts_in text table
  in_fours z = let e : 2 * (length table / 4) ≡ length table / 2 = omega arith in pairs_parts text table (length table / 4) 0 ∙ rw e

  pub in_sixes : length table % 6 ≡ 0 → images key_parts (keys_in text table) ≡ parts_in text table
  in_sixes z = let e : 3 * (length table / 6) ≡ length table / 2 = omega arith in keys_parts text table (length table / 6) 0 ∙ rw e

  -- the same said of the numbers and of the parts, where the places are inside the text
  sizes : (n at : ℕ) → at + 2 * n ≤ length table → every (in_text text table) (items here 2 n at) ≡ true
      → sum (entry_size table) (items here 2 n at) ≡ sum entry_length (items (part_in text table) 2 n at)
  unfolding sum every items entry_size in_text
  sizes zero at k p = refl
  sizes (suc n) at k p =
      let (here_is, rest) = both (in_text text table at) _ p in
      let w : Within text table at = record { numbers = omega arith; bytes = leb-true _ _ here_is } in
      rw (part_length text table at w) (ap (λ (x : ℕ). 2 + get_or table (at + 1) 0 + x) (sizes n (at + 2) (omega arith) rest))

  shorts_fit : (n at : ℕ) → at + 2 * n ≤ length table → every (in_text text table) (items here 2 n at) ≡ true
      → every (short table) (items here 2 n at) ≡ every has_uint16_len (items (part_in text table) 2 n at)
  unfolding every items short in_text
  shorts_fit zero at k p = refl
  shorts_fit (suc n) at k p =
      let (here_is, rest) = both (in_text text table at) _ p in
      let w : Within text table at = record { numbers = omega arith; bytes = leb-true _ _ here_is } in
      rw (part_length text table at w) (ap (λ (x : Bool). leb (get_or table (at + 1) 0) 65535 && x) (shorts_fit n (at + 2) (omega arith) rest))

  module _ (p : every (in_text text table) (places table) ≡ true) where
    pub parts_size : entries_size table ≡ sum entry_length (parts_in text table)
    parts_size = sizes (length table / 2) 0 (omega arith) p

    pub parts_short : every (short table) (places table) ≡ every has_uint16_len (parts_in text table)
    parts_short = shorts_fit (length table / 2) 0 (omega arith) p
