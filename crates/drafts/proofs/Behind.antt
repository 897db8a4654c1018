-- The ways out of adding a key to a draft, one law each. Assumes nothing.
use Prim.Native.Nat.{ℕ, ◌+◌, ◌-◌, ◌≤◌, ◌<◌}
use native.Mathlib.Omega.{arith}
use mathlib.Core.Path.{◌≡◌, refl, sym, ap, ◌∙◌}
use mathlib.Core.Bool.{Bool, true, false, ◌&&◌}
use mathlib.Core.List.{List, [], ◌∷◌, ◌++◌, append_assoc, append-nil}
use lib.Dec.{ltb}
use borrow.Author.Tests.{le-leb, lt-leb}
use lib.ListN.{length, take, drop, length-append}
use lib.Seq.{drop_at, length-take-le}
use Rattle.format.specs.Read.{operation}
use Rattle.format.specs.Serialize.{write_uint16, images, every}
use Rattle.format.specs.Utf8.{valid_utf8_seq}
use Rattle.format.specs.Fields.{EncryptedDataKey, fields_of}
use Rattle.format.specs.Keys.{write_encrypted_data_key, write_encrypted_data_keys, write_encrypted_data_keys_section}
use Rattle.format.specs.Auth.{zeros}
use Rattle.format.specs.Checks.{first, has_uint16_len}
use Rattle.format.specs.Lent.{bytes_at, filled}
use Rattle.format.specs.Mending.{addable, added_image, add_encrypted_data_key, mended}
use Rattle.format.proofs.Serialize.{length_uint16, images_append}
use Rattle.format.proofs.Drafts.{section_length, length_keys}
use Rattle.format.proofs.Mending.{says_16, says_27, says_28, add_said}
use Rattle.steps.proofs.Numbers.{length_part}
use Rattle.wire.specs.Codes.{because}
use Rattle.wire.specs.Stored.{stored}
use Rattle.wire.specs.declared.refusals.Refusal.{Refusal}
use Rattle.wire.proofs.StoreLaws.{length_stored, stored_more}
use Rattle.moving.proofs.Laws.{bytes_add, stored_before}
use Rattle.std.specs.Prelude.{Result, Ok, Err}
use Rattle.checks.specs.Answers.{Checked, checked, written_as}
use Rattle.body_measure.specs.declared.Measurement.{Measurement}
use Rattle.drafts.specs.Codes.{Mends, Stands}
use Rattle.drafts.specs.Adding.{size_of, Short, HasRoom, adding_checks}
use Rattle.drafts.proofs.Answers.{mends_not, mends_so}
use Rattle.drafts.proofs.TakenOut.{stored_own, stored_filled}
use Rattle.drafts.proofs.KeyAdded.{key_length, passed, are_short, count_few}

-- THE THREE STORES: what stands behind the keys, the key, the count
module _ (k : EncryptedDataKey) (m : List ℕ) (d : Measurement) (room : HasRoom m d k) (size : ℕ) (sized : size ≡ size_of k) (m₁ : List ℕ) (e₁ : m₁ ≡ stored m (d.keysEnd + size) (bytes_at m d.keysEnd (d.tail - d.keysEnd))) where
  abbrev rest : List ℕ
  rest = bytes_at m d.keysEnd (d.tail - d.keysEnd)

  ended : d.keysEnd ≤ d.tail
  ended = room.ended

  fits : d.tail + size_of k ≤ length m
  fits = room.fits

  abbrev new : List ℕ
  new = write_encrypted_data_key k

  moved_long : length m₁ ≡ length m
  moved_long = let e = ended in let f = fits in let n = length_part m d.keysEnd (d.tail - d.keysEnd) (omega arith) in ap length e₁ ∙ length_stored m (d.keysEnd + size) rest (omega arith)

  pub key_room : d.keysEnd + size_of k ≤ length m₁
  key_room = let l = moved_long in let e = ended in let f = fits in omega arith

  module _ (m₂ : List ℕ) (e₂ : m₂ ≡ stored m₁ d.keysEnd new) where
    both_stored : m₂ ≡ stored m d.keysEnd (new ++ rest)
    both_stored =
        let n = key_length k in
        let e = ended in
        let f = fits in
        e₂ ∙ ap (λ (l : List ℕ). stored l d.keysEnd new) e₁ ∙ stored_before m d.keysEnd new (d.keysEnd + size) rest (omega arith) (omega arith)

    pub put_all : (count : ℕ) (m₃ : List ℕ) → m₃ ≡ stored m₂ d.keysStart (write_uint16 count) → m₃ ≡ stored (stored m d.keysEnd (new ++ rest)) d.keysStart (write_uint16 count)
    put_all count m₃ e₃ = e₃ ∙ ap (λ (l : List ℕ). stored l d.keysStart (write_uint16 count)) both_stored

-- A DRAFT AND A KEY
module _ (m : List ℕ) (d : Measurement) (st : Stands m d) (k : EncryptedDataKey) (c : Checked) (c_is : c ≡ checked (first (adding_checks k d.keyCount))) where
  abbrev parts : Bool
  parts = every has_uint16_len (k.keyProviderId ∷ k.keyProviderInfo ∷ k.ciphertext ∷ [])

  abbrev Adds : List ℕ → Result ℕ Refusal → Type 0
  Adds = Mends written_as (operation (add_encrypted_data_key k (length m)) m 0) m

  addable_is : addable k (length st.body.keys) ≡ addable k d.keyCount
  addable_is = ap (addable k) st.long

  -- 16 or 27
  pub add_refused : (r : Refusal) → c ≡ Err r → Adds m (Err r)
  unfolding first
  add_refused r e = by (valid_utf8_seq k.keyProviderId) refl (parts && ltb d.keyCount 65535) refl (sym c_is ∙ e)
    where
      by : (a : Bool) → valid_utf8_seq k.keyProviderId ≡ a → (b : Bool) → parts && ltb d.keyCount 65535 ≡ b → checked (first (adding_checks k d.keyCount)) ≡ Err r → Adds m (Err r)
      by false p b q f =
          let y : ◌≡◌ {A = Checked} (Err (because 16 0)) (Err r) = rw p at f in
          mends_not _ m 16 0 r (says_16 m st.body d.tail st.reads k (length m) p) (cc)
      by true p false q f =
          let y : ◌≡◌ {A = Checked} (Err (because 27 0)) (Err r) = rw (p, q) at f in
          mends_not _ m 27 0 r (says_27 m st.body d.tail st.reads k (length m) p (addable_is ∙ q)) (cc)
      by true p true q f = let y : ◌≡◌ {A = Checked} (Ok tt) (Err r) = rw (p, q) at f in let z : ◌≡◌ {A = ℕ} 0 1 = cc in absurd (omega arith)

  -- what the tests found
  module _ (passes : c ≡ Ok tt) where
    passes_both : (valid_utf8_seq k.keyProviderId ≡ true) × (parts && ltb d.keyCount 65535 ≡ true)
    passes_both = passed k d.keyCount c c_is passes

    keys_start : d.keysStart + 2 ≤ d.keysEnd
    keys_start = let a = st.apart.section in let b = section_length (fields_of st.body).keys in omega arith

    keys_ended : d.keysEnd ≤ d.tail
    keys_ended = st.apart.ended

    tail_within : d.tail ≤ length m
    tail_within = st.apart.within

    -- THE LONGER DRAFT
    abbrev own : List EncryptedDataKey
    own = (fields_of st.body).keys

    abbrev old : List ℕ
    old = write_encrypted_data_keys own

    abbrev behind : List ℕ
    behind = bytes_at m d.keysEnd (d.tail - d.keysEnd)

    abbrev fresh : List ℕ
    fresh = write_encrypted_data_key k

    -- the keys that were there
    old_long : d.keysEnd ≡ d.keysStart + 2 + length old
    unfolding write_encrypted_data_keys
    old_long = let a = st.apart.section in let b = section_length own in omega arith

    old_there : bytes_at m (d.keysStart + 2) (length old) ≡ old
    unfolding write_encrypted_data_keys_section
    old_there =
        let l = old_long in
        let n = length_uint16 (length own) in
        let w = st.apart.within in
        let z = st.apart.ended in
        let e : d.keysEnd - d.keysStart ≡ 2 + length old = omega arith in
        let two = length_part m d.keysStart 2 (omega arith) in
        let all : bytes_at m d.keysStart 2 ++ bytes_at m (d.keysStart + 2) (length old) ≡ write_uint16 (length own) ++ old =
        sym (bytes_add m d.keysStart 2 (length old)) ∙ ap (bytes_at m d.keysStart) (sym e) ∙ st.apart.keys in
        sym (drop_at (bytes_at m d.keysStart 2) (bytes_at m (d.keysStart + 2) (length old)) 2 two) ∙ ap (drop 2) all ∙ drop_at (write_uint16 (length own)) old 2 n

    section_is : write_encrypted_data_keys_section (own ++ (k ∷ [])) ≡ write_uint16 (d.keyCount + 1) ++ (old ++ fresh)
    unfolding write_encrypted_data_keys_section write_encrypted_data_keys images
    section_is =
        let a = length-append own (k ∷ []) in
        let b = length_keys st.body in
        let e = st.long in
        let n : length (own ++ (k ∷ [])) ≡ d.keyCount + 1 = omega arith in
        ap (λ (j : ℕ). write_uint16 j ++ images write_encrypted_data_key (own ++ (k ∷ []))) n
        ∙ ap (λ (l : List ℕ). write_uint16 (d.keyCount + 1) ++ l) (images_append write_encrypted_data_key own (k ∷ []) ∙ ap (λ (l : List ℕ). old ++ l) (append-nil fresh))

    image_is : added_image k st.body ≡ take d.keysStart m ++ ((write_uint16 (d.keyCount + 1) ++ (old ++ fresh)) ++ behind)
    image_is = st.apart.image_with (own ++ (k ∷ [])) ∙ ap (λ (l : List ℕ). take d.keysStart m ++ (l ++ behind)) section_is

    behind_long : length behind ≡ d.tail - d.keysEnd
    behind_long = let a = st.apart.within in let b = st.apart.ended in length_part m d.keysEnd (d.tail - d.keysEnd) (omega arith)

    image_long : length (added_image k st.body) ≡ d.tail + length fresh
    image_long =
        let section = write_uint16 (d.keyCount + 1) ++ (old ++ fresh) in
        let a = ap length image_is in
        let b = length-append (take d.keysStart m) (section ++ behind) in
        let e = length-append section behind in
        let f = length-append (write_uint16 (d.keyCount + 1)) (old ++ fresh) in
        let g = length-append old fresh in
        let h = length_uint16 (d.keyCount + 1) in
        let i = behind_long in
        let j = old_long in
        let w = st.apart.within in
        let z = st.apart.ended in
        let l = length-take-le d.keysStart m (omega arith) in
        omega arith

    pub new_short : Short k
    new_short = are_short k d.keyCount c c_is passes

    module _ (size : ℕ) (sized : size ≡ size_of k) where
      long_by : length (added_image k st.body) ≡ d.tail + size
      long_by = let a = image_long in let b = key_length k in omega arith

      pub add_28 : length m - d.tail < size → (q : Refusal) → q ≡ because 28 0 → Adds m (Err q)
      add_28 h q f =
          let n = long_by in
          mends_not _ m 28 0 q
          (says_28 m st.body d.tail st.reads k (length m) passes_both.0 (addable_is ∙ passes_both.1) (lt-leb (length (added_image k st.body)) (length m) (let w = tail_within in omega arith)))
          f

      module _ (room : size ≤ length m - d.tail) where
        room_is : d.tail + size ≤ length m
        room_is = let w = tail_within in omega arith

        pub has_room : HasRoom m d k
        has_room =
            record {
              short = new_short;
              starts = keys_start;
              ended = keys_ended;
              fits = let r = room_is in omega arith;
              few = count_few k d.keyCount c c_is passes;
            }

        -- the stores are one
        longer : stored (stored m d.keysEnd (fresh ++ behind)) d.keysStart (write_uint16 (d.keyCount + 1)) ≡ filled (mended (added_image k st.body) d.tail) m
        unfolding zeros
        longer =
            let two = length_uint16 (d.keyCount + 1) in
            let o = old_long in
            let w = st.apart.within in
            let z = st.apart.ended in
            let n = long_by in
            let none : d.tail - length (added_image k st.body) ≡ 0 = omega arith in
            let wider : stored m d.keysEnd (fresh ++ behind) ≡ stored m (d.keysStart + 2) (old ++ (fresh ++ behind)) =
            ap (λ (l : List ℕ). stored l d.keysEnd (fresh ++ behind)) (stored_own m (d.keysStart + 2) (length old) (omega arith) ∙ ap (stored m (d.keysStart + 2)) old_there)
            ∙ stored_more m (d.keysStart + 2) old (fresh ++ behind) d.keysEnd o (omega arith) in
            ap (λ (l : List ℕ). stored l d.keysStart (write_uint16 (d.keyCount + 1))) wider
            ∙ stored_before m d.keysStart (write_uint16 (d.keyCount + 1)) (d.keysStart + 2) (old ++ (fresh ++ behind)) (omega arith) (omega arith)
            ∙ stored_filled m d.keysStart (write_uint16 (d.keyCount + 1) ++ (old ++ (fresh ++ behind))) (omega arith)
            ∙ ap (λ (l : List ℕ). filled l m)
            (ap (λ (l : List ℕ). take d.keysStart m ++ l) (ap (λ (l : List ℕ). write_uint16 (d.keyCount + 1) ++ l) (sym (append_assoc old fresh behind)) ∙ sym (append_assoc (write_uint16 (d.keyCount + 1)) (old ++ fresh) behind))
            ∙ sym image_is ∙ sym (append-nil (added_image k st.body)))
            ∙ ap (λ (j : ℕ). filled (added_image k st.body ++ zeros j) m) (sym none)

        pub add_whole : (m' : List ℕ) → m' ≡ stored (stored m d.keysEnd (fresh ++ behind)) d.keysStart (write_uint16 (d.keyCount + 1)) → Adds m' (Ok (d.tail + size))
        add_whole m' e =
            let n = long_by in
            mends_so _ m m' (added_image k st.body) d.tail (d.tail + size)
            (add_said m st.body d.tail st.reads k (length m) passes_both.0 (addable_is ∙ passes_both.1) (le-leb (length (added_image k st.body)) (length m) (let w = room_is in omega arith)))
            (sym n)
            (e ∙ longer)
