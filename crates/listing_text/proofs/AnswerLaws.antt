-- A text written whole, or not at all. Assumes nothing.
use mathlib.Core.Path.{◌≡◌, refl, ap, ◌∙◌}
use mathlib.Core.Bool.{Bool, true, false}
use mathlib.Core.List.{List}
use Prim.Native.Nat.{ℕ, ◌≤◌, ◌<◌}
use native.Mathlib.Nat.{zero-add}
use native.Mathlib.Omega.{arith}
use lib.Dec.{leb}
use lib.ListN.{length, length-append}
use borrow.Author.Tests.{le-leb, lt-leb, eq-eqb, ne_eqb}
use Rattle.format.specs.Checks.{first}
use Rattle.format.specs.Lent.{refusal_of, filled}
use Rattle.wire.specs.Codes.{because}
use Rattle.wire.specs.Stored.{stored}
use Rattle.std.specs.Prelude.{Result, Ok, Err}
use Rattle.wire.specs.declared.refusals.Refusal.{Refusal}
use Rattle.text.specs.declared.Text.{Text}
use Rattle.text.specs.Put.{Room, Put}
use Rattle.listing_text.specs.Listing.{word_data}
use Rattle.listing_text.specs.Answers.{Lists, part_text, data_text}
use Rattle.text.proofs.Puts.{put_nothing}

module _ (added d : List ℕ) where
  pub too_long : (size : ℕ) → size ≡ length added → length d < size → (q : Refusal) → q ≡ because 28 0 → Lists added d d (Err q)
  unfolding refusal_of first
  too_long size e h q f =
      let no = lt-leb (length added) (length d) (omega arith) in
      record { answer = rw no (ap Err f); output = rw no refl }

  module _ (fits : length added ≤ length d) (t : Text) (empty : (t.out.now ≡ d) × (t.at ≡ 0)) where
    pub has_room : Room t added
    has_room = record { fits = rw empty.0 (omega (arith, empty.1)) }

    pub all_written : (u : Text) → Put added t u → (r : ℕ) → r ≡ u.at → (o : List ℕ) → o ≡ u.out.now → Lists added d o (Ok r)
    unfolding refusal_of first stored
    all_written u p r f o q =
        let yes = le-leb (length added) (length d) fits in
        let n : r ≡ length added = omega (arith, p.ends, empty.1) in
        record { answer = rw yes (ap Ok n); output = rw yes (q ∙ p.holds ∙ rw (empty.0, empty.1, zero-add)) }

-- the suite data's line, by version
module _ (m : List ℕ) (version start n : ℕ) (t : Text) where
  module _ (e : version ≡ 2) where
    pub data_room : Room t (data_text m version start n) → Room t (part_text m word_data start n)
    unfolding data_text
    data_room h = rw (eq-eqb version 2 e) at h

    pub data_put : (u : Text) → Put (part_text m word_data start n) t u → Put (data_text m version start n) t u
    unfolding data_text
    data_put u p = rw (eq-eqb version 2 e) p

  pub no_data : (version ≡ 2 → ⊥) → Room t (data_text m version start n) → Put (data_text m version start n) t t
  unfolding data_text
  no_data e h = rw (ne_eqb version 2 e) (put_nothing t (omega (arith, h.fits)))

-- what was written lies within the output
pub within_output : (text d o : List ℕ) (r : Result ℕ Refusal) (n : ℕ) → Lists text d o r → r ≡ Ok n → n ≤ length o
unfolding refusal_of first
within_output text d o r n l e = go (leb (length text) (length d)) refl
  where
    go : (t : Bool) → leb (length text) (length d) ≡ t → n ≤ length o
    go true q =
        let a : r ≡ Ok (length text) = rw q at l.answer in
        let b : o ≡ filled text d = rw q at l.output in
        let c : n ≡ length text = cc in
        rw (b, length-append) (omega arith)
    go false q =
        let a : r ≡ Err (because 28 0) = rw q at l.answer in
        let z : ◌≡◌ {A = ℕ} 0 1 = cc in
        absurd (omega arith)

-- a text that fits is written whole
module _ (text d o : List ℕ) (r : Result ℕ Refusal) (l : Lists text d o r) (h : length text ≤ length d) where
  pub fitting_answer : r ≡ Ok (length text)
  unfolding refusal_of first
  fitting_answer = rw (le-leb (length text) (length d) h) at l.answer

  pub fitting_output : o ≡ filled text d
  unfolding refusal_of first
  fitting_output = rw (le-leb (length text) (length d) h) at l.output
