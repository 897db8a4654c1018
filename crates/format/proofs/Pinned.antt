-- The tests that demand 3 has on both of its sides, each held to its statement. Assumes nothing.
use mathlib.Core.Path.{◌≡◌, refl, ap}
use mathlib.Core.Bool.{Bool, true, false, not, ◌&&◌}
use mathlib.Core.Logic.{◌⊎◌, inl, inr, ⊎_elim}
use mathlib.Core.Option.{none}
use mathlib.Core.List.{List, [], ◌∷◌, ◌++◌}
use Prim.Native.Nat.{ℕ, zero, suc, ◌+◌, ◌/◌, ◌%◌, ◌≤◌, ◌<◌}
use native.Mathlib.Omega.{arith}
use lib.Dec.{leb, eqb}
use lib.ListN.{length, drop, length-drop}
use lib.Seq.{take-append_seam, drop-append_seam}
use Rattle.format.specs.Shared.{by, one_or_two, frame_fits}
use Rattle.format.specs.Read.{Answer, accepted, refused, at, operation}
use Rattle.format.specs.Serialize.{read, read_at, write_uint16, write_uint32, images, every}
use Rattle.format.specs.Fields.{Form, today, old, Pair, EncryptedDataKey, key_parts}
use Rattle.format.specs.Checks.{first, count_checks, fits_form}
use Rattle.format.specs.Context.{write_aad_pair, write_aad_pairs}
use Rattle.format.specs.Keys.{write_encrypted_data_key, write_encrypted_data_keys}
use Rattle.format.specs.Policies.{Policy}
use Rattle.format.specs.Body.{Which, either, v1_only, v2_only, Opening, read_opening, tests_frames}
use Rattle.format.specs.Lent.{bytes_at}
use Rattle.format.specs.Places.{number8}
use Rattle.format.specs.First.{NoneApplies, operation_list, opening_list}
use Rattle.format.specs.Demand3.{reached_old, reaches_old}
use Rattle.format.specs.Pinned.{Decides, Pinned}
use Rattle.format.proofs.Tests.{leb_is, is_leb, nleb_is, is_nleb, eqb_is, is_eqb, neqb_is}
use Rattle.format.proofs.Serialize.{read_fits, read_short, images_append}
use Rattle.format.proofs.Firsts.{both, and, or_cases, or_right, first_fails, fails_first}
use Rattle.format.proofs.Grammar.{valid_octets, octets_valid}
use Rattle.format.proofs.Characters.{to_characters, to_octets}
use Rattle.format.proofs.Suites.{in_a_row, row_of, no_third, committing, eleven}
use Rattle.format.proofs.Context.{length_pairs}
use Rattle.format.proofs.Tables.{tables}
use Rattle.format.proofs.Filled.{pair_table, key_table, frame_table}
use Rattle.format.proofs.Lengths.{lengths}
use Rattle.format.proofs.Accepts.{in_writing}
use Rattle.format.proofs.First.{in_reading}
use Rattle.format.proofs.FirstBody.{opening_goes, first_refusal, none_applied}
use Rattle.format.proofs.NoKey.{none_within}
use Rattle.format.proofs.Find.{same_equal, equal_same, seen_has, has_seen}

mark_fits : (form : Form) (pairs : ℕ) → Decides (fits_form form pairs) (form ≡ old → pairs ≡ 0)
mark_fits today pairs = record { then_holds = λ e q. let z : ◌≡◌ {A = ℕ} 0 1 = cc in absurd (omega arith); holds_then = λ h. refl }
mark_fits old pairs = record { then_holds = λ e q. is_eqb pairs 0 e; holds_then = λ h. eqb_is pairs 0 (h refl) }

one_two : (x : ℕ) → Decides (one_or_two x) ((x ≡ 1) ⊎ (x ≡ 2))
one_two x =
    record {
      then_holds = λ e. ⊎_elim (λ p. inl (is_eqb x 1 p)) (λ p. inr (is_eqb x 2 p)) (or_cases (eqb x 1) (eqb x 2) e);
      holds_then = λ h. ⊎_elim (λ p. rw (eqb_is x 1 p) refl) (λ p. or_right (eqb x 1) (eqb_is x 2 p)) h;
    }

above_zero : (x : ℕ) → not (eqb x 0) ≡ true → 0 < x
above_zero zero e = let z : ◌≡◌ {A = ℕ} 0 1 = cc in absurd (omega arith)
above_zero (suc x) e = omega arith

frames : (content frame : ℕ) → Decides (frame_fits content frame) (((content ≡ 1) × (frame ≡ 0)) ⊎ ((content ≡ 2) × (0 < frame)))
unfolding frame_fits
frames c f =
    record {
      then_holds = λ e.
          ⊎_elim (λ p. (let z = both (eqb c 1) (eqb f 0) p in inl (is_eqb c 1 z.0, is_eqb f 0 z.1)))
          (λ p. (let z = both (eqb c 2) (not (eqb f 0)) p in inr (is_eqb c 2 z.0, above_zero f z.1)))
          (or_cases (eqb c 1 && eqb f 0) (eqb c 2 && not (eqb f 0)) e);
      holds_then = λ h.
          ⊎_elim (λ p. rw (eqb_is c 1 p.0, eqb_is f 0 p.1) refl)
          (λ p. or_right (eqb c 1 && eqb f 0) (rw (eqb_is c 2 p.0, neqb_is f 0 (λ z. let y : 0 < f = p.1 in omega arith)) refl))
          h;
    }

pub pairs_join : (ps qs : List Pair) → write_aad_pairs (ps ++ qs) ≡ write_aad_pairs ps ++ write_aad_pairs qs
unfolding write_aad_pairs
pairs_join = images_append write_aad_pair

keys_join : (ks js : List EncryptedDataKey) → write_encrypted_data_keys (ks ++ js) ≡ write_encrypted_data_keys ks ++ write_encrypted_data_keys js
unfolding write_encrypted_data_keys
keys_join = images_append write_encrypted_data_key

frames_tested : (which : Which) → Decides (tests_frames which) (which ≡ either)
frames_tested either = record { then_holds = λ e. refl; holds_then = λ h. refl }
frames_tested v1_only = record { then_holds = λ e. let z : ◌≡◌ {A = ℕ} 0 1 = cc in absurd (omega arith); holds_then = λ h. ap tests_frames h }
frames_tested v2_only = record { then_holds = λ e. let z : ◌≡◌ {A = ℕ} 0 1 = cc in absurd (omega arith); holds_then = λ h. ap tests_frames h }

none_counted : first (count_checks 0 (images key_parts [])) ≡ none
unfolding first images every
none_counted = refl

module _ (which : Which) (policy : Policy) (m : List ℕ) (s : ℕ) where
  abbrev Reached : Type 0
  Reached = NoneApplies (operation_list (opening_list which policy) m s) × (bytes_at m (s + by (number8 m s) 20 35) 4 ≡ (0x00 ∷ 0x02 ∷ 0x00 ∷ 0x00 ∷ []))

  is_reached : (a : Answer Opening) → operation (read_opening which policy) m s ≡ a → reached_old m a ≡ true → Reached
  is_reached (accepted o t) q e = let (n, w) = none_applied (opening_goes which policy) m s o t q in (n, rw w (same_equal _ _ e))
  is_reached (refused k p) q e = let z : ◌≡◌ {A = ℕ} 0 1 = cc in absurd (omega arith)

  reaches : Decides (reaches_old policy which m s) Reached
  unfolding reaches_old
  reaches =
      record {
        then_holds = is_reached (operation (read_opening which policy) m s) refl;
        holds_then = λ h. rw ((first_refusal (opening_goes which policy) m s).accepts h.0) (rw h.1 (equal_same _));
      }

module _ (n : ℕ) (m : List ℕ) (s : ℕ) where
  fits : s ≤ length m → s + n ≤ length m → at (read n) m s ≡ read_at n m s
  unfolding at read_at
  fits k h = rw (read_fits n (drop s m) s (simp length-drop (omega arith)), leb_is (s + n) (length m) h) refl

  short : length (drop s m) < n → length m < s + n → at (read n) m s ≡ read_at n m s
  unfolding at read_at
  short k h = rw (read_short n (drop s m) s k, nleb_is (s + n) (length m) h) refl

  some_bytes : 0 < n → at (read n) m s ≡ read_at n m s
  some_bytes some = go (leb (s + n) (length m)) refl
    where
      go : (b : Bool) → leb (s + n) (length m) ≡ b → at (read n) m s ≡ read_at n m s
      go true e = let h : s + n ≤ length m = is_leb _ _ e in fits (omega arith) h
      go false e = let h : length m < s + n = is_nleb _ _ e in short (simp length-drop (omega arith)) h

  within_the_message : s ≤ length m → at (read n) m s ≡ read_at n m s
  within_the_message near = go (leb (s + n) (length m)) refl
    where
      go : (b : Bool) → leb (s + n) (length m) ≡ b → at (read n) m s ≡ read_at n m s
      go true e = fits near (is_leb _ _ e)
      go false e = let h : length m < s + n = is_nleb _ _ e in short (simp length-drop (omega arith)) h

uint16 : (x : ℕ) → x < 65536 → write_uint16 x ≡ ((x / 256) ∷ (x % 256) ∷ [])
unfolding write_uint16
uint16 x h = let e : x / 256 % 256 ≡ x / 256 = omega arith in ap (λ y. y ∷ (x % 256) ∷ []) e

uint32 : (x : ℕ) → x < 4294967296 → write_uint32 x ≡ ((x / 16777216) ∷ (x / 65536 % 256) ∷ (x / 256 % 256) ∷ (x % 256) ∷ [])
unfolding write_uint32
uint32 x h =
    let e₁ : x / 256 / 256 / 256 % 256 ≡ x / 16777216 = omega arith in
    let e₂ : x / 256 / 256 % 256 ≡ x / 65536 % 256 = omega arith in
    rw (e₁, e₂) refl

pub pinned : Pinned
pinned =
    record {
      addresses = λ m s.
          record {
            then_holds = λ e. let z = both (leb (length m) 4294967295) (leb s 4294967295) e in (is_leb _ _ z.0, is_leb _ _ z.1);
            holds_then = λ h. and (leb_is _ _ h.0) (leb_is _ _ h.1);
          };
      some_bytes = some_bytes;
      within_the_message = within_the_message;
      two_bytes = λ a b. omega arith;
      four_bytes = λ a b c d. omega arith;
      uint16 = uint16;
      uint32 = uint32;
      utf8 = λ bytes. record { then_holds = valid_octets bytes; holds_then = octets_valid };
      characters = λ bytes. record { then_holds = λ e. to_characters (valid_octets bytes e); holds_then = λ c. octets_valid (to_octets c) };
      equal = λ a b. record { then_holds = same_equal a b; holds_then = λ e. rw (← e) (equal_same a) };
      seen_before = λ k ps. record { then_holds = seen_has k ps; holds_then = has_seen k ps };
      eleven = eleven;
      in_a_row = in_a_row;
      row_of = row_of;
      committing = committing;
      no_third = no_third;
      one_two = one_two;
      frames = frames;
      frames_tested = frames_tested;
      mark_fits = mark_fits;
      reaches = reaches;
      maximum = λ n max. record { then_holds = is_leb n max; holds_then = leb_is n max };
      no_maximum = λ n. refl;
      none_within = none_within;
      none_counted = none_counted;
      in_reading = in_reading;
      in_writing = in_writing;
      first_check = λ checks k. record { onward = first_fails checks k; back = fails_first checks k };
      tables = tables;
      pair_table = pair_table;
      key_table = key_table;
      frame_table = frame_table;
      in_front = λ front lent. take-append_seam front (drop (length front) lent);
      beyond = λ front lent. drop-append_seam front (drop (length front) lent);
      pairs_take = length_pairs;
      lengths = lengths;
      pairs_join = pairs_join;
      keys_join = keys_join;
    }
