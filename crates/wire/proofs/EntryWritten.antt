-- What is stored, byte by byte: so the entry writer keeps its promise. And the promise leaves nothing free. Assumes nothing.
use Prim.Native.Nat.{ℕ, zero, suc, ◌+◌, ◌-◌, ◌/◌, ◌%◌, ◌≤◌, ◌<◌}
use mathlib.Core.Path.{◌≡◌, refl, sym, ap, ◌∙◌}
use mathlib.Core.Bool.{Bool, true, false}
use mathlib.Core.List.{List, [], ◌∷◌, ◌++◌}
use native.Mathlib.Omega.{arith}
use native.Mathlib.Nat.{add-zero}
use borrow.Author.Tests.{ltb-true, ltb-false}
use lib.Dec.{ltb}
use lib.ListN.{length, take, drop, get_or-append}
use lib.Seq.{get_or-take, get_or-drop, get_or-append-add, length-take-le, ext_get_or}
use Rattle.format.specs.Serialize.{write_uint16, write_short_length_seq}
use Rattle.format.proofs.Serialize.{length_entry}
use Rattle.format.specs.Lent.{bytes_at}
use Rattle.steps.proofs.Numbers.{length_part}
use Rattle.wire.specs.Stored.{stored}
use Rattle.wire.specs.EntryWritten.{EntryWritten, NothingFree, byte}
use Rattle.wire.proofs.StoreLaws.{length_stored, drop_stored, two_bytes, length_then_bytes, stored_entry}

first_of : (l : List ℕ) (i : ℕ) → byte l i ≡ byte (drop i l) 0
first_of l i = ap (byte l) (sym (add-zero i)) ∙ sym (get_or-drop i l 0 0)

-- the bytes in front of what is stored, its own, and those behind it
module _ (d : List ℕ) (s : ℕ) (a : List ℕ) (room : s + length a ≤ length d) where
  head : length (take s d) ≡ s
  head = length-take-le s d (omega arith)

  stored_in_front : (i : ℕ) → i < s → byte (stored d s a) i ≡ byte d i
  unfolding stored
  stored_in_front i h =
      let l : i < length (take s d) = rw head h in
      get_or-append (take s d) (a ++ drop (s + length a) d) 0 i l ∙ get_or-take s d i 0 h

  stored_within : (i : ℕ) → i < length a → byte (stored d s a) (s + i) ≡ byte a i
  unfolding stored
  stored_within i h =
      ap (λ (k : ℕ). byte (stored d s a) (k + i)) (sym head)
      ∙ get_or-append-add (take s d) (a ++ drop (s + length a) d) i 0
      ∙ get_or-append a (drop (s + length a) d) 0 i h

  stored_behind : (i : ℕ) → s + length a ≤ i → byte (stored d s a) i ≡ byte d i
  stored_behind i h =
      let e : s + length a + (i - (s + length a)) ≡ i = omega arith in
      let f : drop i (stored d s a) ≡ drop i d = rw e at (drop_stored d s a (i - (s + length a)) room) in
      first_of (stored d s a) i ∙ ap (λ (l : List ℕ). byte l 0) f ∙ sym (first_of d i)

-- the bytes of an entry, and what is there once it is stored
module _ (text : List ℕ) (start n : ℕ) (part : start + n ≤ length text) (short : n < 65536) where
  abbrev entry : List ℕ
  entry = write_short_length_seq (bytes_at text start n)

  entry_is : entry ≡ (n / 256 ∷ n % 256 ∷ []) ++ bytes_at text start n
  entry_is = sym (length_then_bytes text start n part) ∙ ap (λ (l : List ℕ). l ++ bytes_at text start n) (sym (two_bytes n short))

  entry_size : length entry ≡ 2 + n
  entry_size = length_entry (bytes_at text start n) ∙ ap (λ (k : ℕ). 2 + k) (length_part text start n part)

  entry_byte : (i : ℕ) → i < n → byte entry (2 + i) ≡ byte text (start + i)
  entry_byte i h =
      ap (λ (l : List ℕ). byte l (2 + i)) entry_is
      ∙ get_or-append-add (n / 256 ∷ n % 256 ∷ []) (bytes_at text start n) i 0
      ∙ get_or-take n (drop start text) i 0 h
      ∙ get_or-drop start text i 0

  module _ (before : List ℕ) (at : ℕ) (room : at + 2 + n ≤ length before) where
    fits : at + length entry ≤ length before
    fits = rw entry_size (omega arith)

    within : (i j : ℕ) → j ≡ at + i → i < 2 + n → byte (stored before at entry) j ≡ byte entry i
    within i j e h =
        let k : i < length entry = rw entry_size h in
        ap (byte (stored before at entry)) e ∙ stored_within before at entry fits i k

    kept : EntryWritten text start n before at (stored before at entry)
    kept =
        record {
          high = within 0 at (omega arith) (omega arith) ∙ ap (λ (l : List ℕ). byte l 0) entry_is;
          low = within 1 (at + 1) refl (omega arith) ∙ ap (λ (l : List ℕ). byte l 1) entry_is;
          bytes = λ i h. within (2 + i) (at + 2 + i) (omega arith) (omega arith) ∙ entry_byte i h;
          in_front = stored_in_front before at entry fits;
          behind = λ i h. let k : at + length entry ≤ i = rw entry_size (omega arith) in stored_behind before at entry fits i k;
          as_long = length_stored before at entry fits;
        }

-- the way out of the entry writer: the length, then the bytes behind it
pub entry_written : (d o p : List ℕ) (s : ℕ) (text : List ℕ) (a n : ℕ) → a + n ≤ length text → n < 65536 → s + 2 + n ≤ length d → o ≡ stored d s (write_uint16 n) → p ≡ stored o (s + 2) (take n (drop a text))
    → EntryWritten text a n d s p
entry_written d o p s text a n q r h e f = rw (stored_entry d o p s text a n q h e f) (kept text a n q r d s h)

module _ (text : List ℕ) (start n : ℕ) (before : List ℕ) (at : ℕ) (after other : List ℕ) (w : EntryWritten text start n before at after) (v : EntryWritten text start n before at other) where
  from_there : (i : ℕ) (short : Bool) → ltb i (2 + n) ≡ short → byte after (at + i) ≡ byte other (at + i)
  from_there zero b e = ap (byte after) (add-zero at) ∙ w.high ∙ sym v.high ∙ ap (byte other) (sym (add-zero at))
  from_there (suc zero) b e = w.low ∙ sym v.low
  from_there (suc (suc i)) true e =
      let h = ltb-true (suc (suc i)) (2 + n) e in
      let k : i < n = omega arith in
      let l : at + suc (suc i) ≡ at + 2 + i = omega arith in
      ap (byte after) l ∙ w.bytes i k ∙ sym (v.bytes i k) ∙ ap (byte other) (sym l)
  from_there (suc (suc i)) false e =
      let h = ltb-false (suc (suc i)) (2 + n) e in
      let k : at + 2 + n ≤ at + suc (suc i) = omega arith in
      w.behind (at + suc (suc i)) k ∙ sym (v.behind (at + suc (suc i)) k)

  each : (i : ℕ) (front : Bool) → ltb i at ≡ front → byte after i ≡ byte other i
  each i true e = let h = ltb-true i at e in w.in_front i h ∙ sym (v.in_front i h)
  each i false e =
      let h = ltb-false i at e in
      let l : i ≡ at + (i - at) = omega arith in
      ap (byte after) l ∙ from_there (i - at) (ltb (i - at) (2 + n)) refl ∙ ap (byte other) (sym l)

pub nothing_free : NothingFree
nothing_free = record { one_output = λ text start n before at after other w v. ext_get_or 0 after other (w.as_long ∙ sym v.as_long) (λ i h. each text start n before at after other w v i (ltb i at) refl) }
