-- How long the lines are. Assumes nothing.
use mathlib.Core.Path.{◌≡◌, refl, sym}
use mathlib.Core.List.{List, ◌++◌}
use Prim.Native.Nat.{ℕ, ◌+◌, ◌*◌, ◌<◌}
use native.Mathlib.Omega.{arith}
use lib.ListN.{length, length-append, length-take, length-drop}
use Rattle.format.specs.Serialize.{images}
use Rattle.format.specs.Lent.{bytes_at}
use borrow.Author.Tests.{eq-eqb, ne_eqb}
use Rattle.body_reader.specs.declared.HeaderBody.{HeaderBody}
use Rattle.listing_text.specs.Answers.{header_text, part_text, front_text, data_text}
use Rattle.text.specs.Text.{hex, decimal, field, line, decimal_field}
use Rattle.listing_text.specs.Listing.{number_fields, header_fields, word_header, word_id, word_data, word_refused}
use Rattle.text.specs.Put.{There}
use Rattle.text.proofs.Sizes.{hex_long, field_long, line_long}

numbers_long : (a b c : ℕ) → length (number_fields a b c) ≡ 11
unfolding number_fields field images
numbers_long a b c = refl

pub header_long : (version messageType suite contentType frameLength tail x y z : ℕ) → x ≡ length (decimal version) → y ≡ length (decimal frameLength) → z ≡ length (decimal tail)
    → x + y + z + 21 ≡ length (line word_header (header_fields version messageType suite contentType frameLength tail))
header_long version messageType suite contentType frameLength tail x y z a b c =
    let n = numbers_long messageType suite contentType in
    let v = field_long (decimal version) in
    let f = field_long (decimal frameLength) in
    let t = field_long (decimal tail) in
    sym (simp (line_long, length-append) (omega arith))

pub refusal_long : (number position x y : ℕ) → x ≡ length (decimal number) → y ≡ length (decimal position)
    → x + y + 10 ≡ length (line word_refused (decimal_field number ++ decimal_field position))
refusal_long number position x y a b =
    let n = field_long (decimal number) in
    let p = field_long (decimal position) in
    sym (simp (line_long, length-append) (omega arith))

module _ (m : List ℕ) (start n : ℕ) (t : There m start n) where
  pub there_few : length m < 4294967296 → n < 4294967296
  there_few h = omega (arith, simp (length-take, length-drop) at t.whole)

  pub part_long : (word : List ℕ) → length (part_text m word start n) ≡ length word + 2 + 2 * n
  part_long word =
      let a = hex_long (bytes_at m start n) in
      let b = field_long (hex (bytes_at m start n)) in
      rw line_long (omega (arith, t.whole))

  module _ (version : ℕ) where
    pub data_long : version ≡ 2 → length (data_text m version start n) ≡ 6 + 2 * n
    unfolding data_text
    data_long e = rw (eq-eqb version 2 e) (part_long word_data)

    pub no_data_long : (version ≡ 2 → ⊥) → length (data_text m version start n) ≡ 0
    unfolding data_text
    no_data_long e = rw (ne_eqb version 2 e) refl

pub front_long : (m : List ℕ) (b : HeaderBody) (tail : ℕ) → There m b.messageIdStart b.messageIdLen → length (front_text m b tail) ≡ length (header_text b.numbers tail) + (4 + 2 * b.messageIdLen)
unfolding front_text
front_long m b tail t = let i = part_long m b.messageIdStart b.messageIdLen t word_id in rw length-append (omega arith)
