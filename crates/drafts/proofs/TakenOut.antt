-- The ways out of taking keys out of a draft, one law each. Assumes nothing.
use Prim.Native.Nat.{ℕ, ◌+◌, ◌-◌, ◌≤◌, ◌<◌}
use native.Mathlib.Omega.{arith}
use mathlib.Core.Path.{◌≡◌, refl, sym, ap, ◌∙◌}
use mathlib.Core.Bool.{not}
use mathlib.Core.List.{List, [], ◌∷◌, ◌++◌, append_assoc}
use borrow.Author.Tests.{ne_eqb}
use lib.ListN.{length, take, drop, length-append, take-append-drop}
use lib.Seq.{drop-drop, length-take-le}
use Rattle.format.specs.Read.{operation}
use Rattle.format.specs.Serialize.{write_uint16, images}
use Rattle.format.specs.Fields.{EncryptedDataKey, fields_of}
use Rattle.format.specs.Keys.{write_encrypted_data_keys, write_encrypted_data_keys_section}
use Rattle.format.specs.Auth.{zeros}
use Rattle.format.specs.Lent.{bytes_at, filled}
use Rattle.format.specs.Mending.{without_provider, dropped_image, drop_encrypted_data_keys, mended}
use Rattle.format.proofs.Serialize.{length_uint16}
use Rattle.format.proofs.TakenOut.{taken_out, fewer, shorter}
use Rattle.format.proofs.Drafts.{section_length, length_keys}
use Rattle.format.proofs.Mending.{says_40, drop_said}
use Rattle.steps.proofs.Numbers.{length_part}
use Rattle.wire.specs.Codes.{because}
use Rattle.wire.specs.Stored.{stored}
use Rattle.wire.proofs.StoreLaws.{length_stored, drop_stored, stored_none, stored_more}
use Rattle.moving.proofs.Laws.{stored_before}
use Rattle.checks.specs.Answers.{written_as}
use Rattle.std.specs.Prelude.{Ok, Err}
use Rattle.wire.specs.declared.refusals.Refusal.{Refusal}
use Rattle.body_measure.specs.declared.Measurement.{Measurement}
use Rattle.drafts.specs.Codes.{Mends, Stands}
use Rattle.drafts.specs.Dropping.{left, ClosedUp}
use Rattle.drafts.specs.declared.dropping.Kept.{Kept}
use Rattle.drafts.proofs.Answers.{mends_not, mends_so}

-- what stands at a place, stored there again
pub stored_own : (m : List ℕ) (s n : ℕ) → s + n ≤ length m → m ≡ stored m s (bytes_at m s n)
unfolding stored
stored_own m s n h =
    let l = length_part m s n h in
    sym (ap (λ (j : ℕ). take s m ++ (bytes_at m s n ++ drop (s + j) m)) l
    ∙ ap (λ (y : List ℕ). take s m ++ (bytes_at m s n ++ y)) (sym (drop-drop n s m))
    ∙ ap (λ (y : List ℕ). take s m ++ y) (take-append-drop n (drop s m))
    ∙ take-append-drop s m)

pub stay_put : (m : List ℕ) (from tail to : ℕ) → to ≤ from → from ≤ to → from ≤ tail → tail ≤ length m → m ≡ stored m to (bytes_at m from (tail - from))
stay_put m from tail to h k i j = let e : from ≡ to = omega arith in rw e (stored_own m to (tail - to) (omega arith))

-- a store from s on is what the buffer is filled with
pub stored_filled : (m : List ℕ) (s : ℕ) (y : List ℕ) → s ≤ length m → stored m s y ≡ filled (take s m ++ y) m
unfolding stored
stored_filled m s y h =
    let n : length (take s m ++ y) ≡ s + length y = (let a = length-append (take s m) y in let b = length-take-le s m h in omega arith) in
    sym (ap (λ (j : ℕ). (take s m ++ y) ++ drop j m) n ∙ append_assoc (take s m) y (drop (s + length y) m))

-- bytes behind what was stored
pub bytes_behind : (m : List ℕ) (s : ℕ) (a : List ℕ) (t n : ℕ) → s + length a ≤ t → s + length a ≤ length m → bytes_at (stored m s a) t n ≡ bytes_at m t n
bytes_behind m s a t n h k = let e : s + length a + (t - (s + length a)) ≡ t = omega arith in ap (take n) (rw e at (drop_stored m s a (t - (s + length a)) k))

-- the count, what stands behind the keys, and 00
pub closed : (m m₁ m₂ m₃ : List ℕ) (start end third tail tail' count : ℕ) → start + 2 ≤ end → end ≤ third → third ≤ tail → tail ≤ length m
    → m₁ ≡ stored m start (write_uint16 count) → m₂ ≡ stored m₁ end (bytes_at m₁ third (tail - third)) → tail' ≡ end + (tail - third) → m₃ ≡ stored m₂ tail' (zeros (tail - tail'))
    → m₃ ≡ stored (stored m start (write_uint16 count)) end (bytes_at m third (tail - third) ++ zeros (third - end))
closed m m₁ m₂ m₃ start end third tail tail' count a b c d e f g h =
    let n = length_uint16 count in
    let same : bytes_at m₁ third (tail - third) ≡ bytes_at m third (tail - third) = ap (λ (y : List ℕ). bytes_at y third (tail - third)) e ∙ bytes_behind m start (write_uint16 count) third (tail - third) (omega arith) (omega arith) in
    let size = length_part m third (tail - third) (omega arith) in
    let long : length m₁ ≡ length m = ap length e ∙ length_stored m start (write_uint16 count) (omega arith) in
    let z : tail - tail' ≡ third - end = omega arith in
    h ∙ ap (λ (j : ℕ). stored m₂ tail' (zeros j)) z
    ∙ ap (λ (y : List ℕ). stored y tail' (zeros (third - end))) (f ∙ ap (stored m₁ end) same)
    ∙ stored_more m₁ end (bytes_at m third (tail - third)) (zeros (third - end)) tail' (omega arith) (omega arith)
    ∙ ap (λ (y : List ℕ). stored y end (bytes_at m third (tail - third) ++ zeros (third - end))) e

-- A DRAFT WHOSE KEYS CLOSED UP
module _ (m : List ℕ) (d : Measurement) (st : Stands m d) (id m₁ : List ℕ) (kept : Kept) (up : ClosedUp id m (d.keysStart + 2) d.keyCount m₁ kept) where
  abbrev ks : List EncryptedDataKey
  ks = without_provider id (fields_of st.body).keys

  abbrev bytes : List ℕ
  bytes = write_encrypted_data_keys ks

  same_keys : left id m (d.keysStart + 2) d.keyCount ≡ ks
  same_keys = ap (without_provider id) (sym st.are)

  counted : kept.count ≡ length ks
  counted = up.count ∙ ap length same_keys

  ends : kept.end ≡ d.keysStart + 2 + length bytes
  ends = up.end ∙ ap (λ (l : List EncryptedDataKey). d.keysStart + 2 + length (write_encrypted_data_keys l)) same_keys

  buffer : m₁ ≡ stored m (d.keysStart + 2) bytes
  buffer = up.buffer ∙ ap (λ (l : List EncryptedDataKey). stored m (d.keysStart + 2) (write_encrypted_data_keys l)) same_keys

  room : d.keysStart + 2 + length bytes ≤ d.keysEnd
  unfolding write_encrypted_data_keys
  room =
      let a = st.apart.section in
      let b = section_length (fields_of st.body).keys in
      let c = shorter id (taken_out id (fields_of st.body).keys) in
      omega arith

  pub start_fits : d.keysStart + 2 ≤ kept.end
  start_fits = let a = ends in omega arith

  pub end_fits : kept.end ≤ d.keysEnd
  end_fits = let a = ends in let b = room in omega arith

  pub count_fits : kept.count < 65536
  count_fits =
      let a = counted in
      let b = fewer id (taken_out id (fields_of st.body).keys) in
      let c = st.counted in
      let e = length_keys st.body in
      let f = st.long in
      omega arith

  empty : (l : List EncryptedDataKey) → length l ≡ 0 → l ≡ []
  empty [] e = refl
  empty (k ∷ l) e = absurd (omega arith)

  pub out_40 : kept.count ≡ 0 → (q : Refusal) → q ≡ because 40 0 → Mends written_as (operation (drop_encrypted_data_keys id) m 0) m m₁ (Err q)
  unfolding write_encrypted_data_keys images
  out_40 z q f =
      let none : ks ≡ [] = empty ks (sym counted ∙ z) in
      let same : m₁ ≡ m = buffer ∙ ap (λ (l : List EncryptedDataKey). stored m (d.keysStart + 2) (write_encrypted_data_keys l)) none ∙ sym (stored_none m (d.keysStart + 2)) in
      rw same
      (mends_not (operation (drop_encrypted_data_keys id) m 0) m 40 0 q (says_40 m st.body d.tail st.reads id none) f)

  module _ (some : kept.count ≡ 0 → ⊥) where
    abbrev section : List ℕ
    section = write_uint16 kept.count ++ bytes

    abbrev rest : List ℕ
    rest = bytes_at m d.keysEnd (d.tail - d.keysEnd)

    abbrev free : List ℕ
    free = zeros (d.keysEnd - kept.end)

    is_section : section ≡ write_encrypted_data_keys_section ks
    unfolding write_encrypted_data_keys_section
    is_section = ap (λ (j : ℕ). write_uint16 j ++ bytes) counted

    image : dropped_image id st.body ≡ take d.keysStart m ++ (section ++ rest)
    image = st.apart.image_with ks ∙ ap (λ (l : List ℕ). take d.keysStart m ++ (l ++ rest)) (sym is_section)

    rest_long : length rest ≡ d.tail - d.keysEnd
    rest_long = let a = st.apart.within in let b = st.apart.ended in length_part m d.keysEnd (d.tail - d.keysEnd) (omega arith)

    section_long : length section ≡ 2 + length bytes
    section_long = let a = length-append (write_uint16 kept.count) bytes in let b = length_uint16 kept.count in omega arith

    image_long : length (dropped_image id st.body) ≡ kept.end + (d.tail - d.keysEnd)
    image_long =
        let a = ap length image in
        let b = length-append (take d.keysStart m) (section ++ rest) in
        let c = length-append section rest in
        let e = length-take-le d.keysStart m (let x = room in let y = st.apart.ended in let z = st.apart.within in omega arith) in
        let f = section_long in
        let g = rest_long in
        let h = ends in
        omega arith

    -- the three stores are one
    pub whole : (m₂ : List ℕ) → m₂ ≡ stored (stored m₁ d.keysStart (write_uint16 kept.count)) kept.end (bytes_at m₁ d.keysEnd (d.tail - d.keysEnd) ++ free)
        → m₂ ≡ filled (mended (dropped_image id st.body) d.tail) m
    whole m₂ e =
        let n = length_uint16 kept.count in
        let x = room in
        let y = st.apart.ended in
        let z = st.apart.within in
        let u = ends in
        let s = section_long in
        let behind : bytes_at m₁ d.keysEnd (d.tail - d.keysEnd) ≡ rest = ap (λ (l : List ℕ). bytes_at l d.keysEnd (d.tail - d.keysEnd)) buffer ∙ bytes_behind m (d.keysStart + 2) bytes d.keysEnd (d.tail - d.keysEnd) x (omega arith) in
        let keys : stored m₁ d.keysStart (write_uint16 kept.count) ≡ stored m d.keysStart section =
        ap (λ (l : List ℕ). stored l d.keysStart (write_uint16 kept.count)) buffer ∙ stored_before m d.keysStart (write_uint16 kept.count) (d.keysStart + 2) bytes (omega arith) (omega arith) in
        let free_is : free ≡ zeros (d.tail - length (dropped_image id st.body)) = ap zeros (let i = image_long in let j : d.keysEnd - kept.end ≡ d.tail - length (dropped_image id st.body) = omega arith in j) in
        e
        ∙ ap (λ (l : List ℕ). stored (stored m₁ d.keysStart (write_uint16 kept.count)) kept.end (l ++ free)) behind
        ∙ ap (λ (l : List ℕ). stored l kept.end (rest ++ free)) keys
        ∙ stored_more m d.keysStart section (rest ++ free) kept.end (omega arith) (omega arith)
        ∙ stored_filled m d.keysStart (section ++ (rest ++ free)) (omega arith)
        ∙ ap (λ (l : List ℕ). filled l m) (sym (append_assoc (take d.keysStart m) (section ++ rest) free ∙ ap (λ (l : List ℕ). take d.keysStart m ++ l) (append_assoc section rest free)))
        ∙ ap (λ (l : List ℕ). filled (l ++ free) m) (sym image)
        ∙ ap (λ (l : List ℕ). filled (dropped_image id st.body ++ l) m) free_is

    pub out_whole : (m₂ : List ℕ) → m₂ ≡ stored (stored m₁ d.keysStart (write_uint16 kept.count)) kept.end (bytes_at m₁ d.keysEnd (d.tail - d.keysEnd) ++ zeros (d.keysEnd - kept.end))
        → (tail : ℕ) → tail ≡ kept.end + (d.tail - d.keysEnd) → Mends written_as (operation (drop_encrypted_data_keys id) m 0) m m₂ (Ok tail)
    out_whole m₂ e tail f =
        mends_so (operation (drop_encrypted_data_keys id) m 0) m m₂ (dropped_image id st.body) d.tail tail
        (drop_said m st.body d.tail st.reads id (ap not (ne_eqb (length ks) 0 (λ z. some (counted ∙ z)))))
        (f ∙ sym image_long)
        (whole m₂ e)
