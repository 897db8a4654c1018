-- A key's bytes are those that it is written as; and the keys behind a place are the same while what stands before it changes.
-- Assumes nothing.
use Prim.Native.Nat.{ℕ, zero, suc, ◌+◌, ◌-◌, ◌/◌, ◌%◌, ◌≤◌, ◌<◌}
use native.Mathlib.Omega.{arith}
use mathlib.Core.Path.{◌≡◌, refl, sym, ap, ◌∙◌}
use mathlib.Core.List.{List, [], ◌∷◌, ◌++◌}
use lib.ListN.{length, get_or, drop}
use lib.Seq.{drop-cons, drop-drop, get_or-drop}
use Rattle.format.specs.Serialize.{Bytes, write_uint16, write_short_length_seq}
use Rattle.format.specs.Fields.{key_of}
use Rattle.format.specs.Keys.{write_encrypted_data_key}
use Rattle.format.specs.Lent.{bytes_at}
use Rattle.format.specs.Places.{number16, entry_here, entry_end, key_here, key_end}
use Rattle.steps.proofs.Numbers.{length_part}
use Rattle.wire.proofs.StoreLaws.{two_bytes}
use Rattle.moving.proofs.Laws.{bytes_add}

byte_small : (m : List ℕ) → Bytes m → (i : ℕ) → get_or m i 0 < 256
byte_small [] h i = omega arith
byte_small (x ∷ m) (a, h) zero = a
byte_small (x ∷ m) (a, h) (suc i) = byte_small m h i

module _ (m : List ℕ) (hb : Bytes m) where
  -- a number of two bytes, and an entry
  number_back : (s : ℕ) → s + 2 ≤ length m → write_uint16 (number16 m s) ≡ bytes_at m s 2
  number_back s h =
      let x = byte_small m hb s in
      let y = byte_small m hb (s + 1) in
      let n = number16 m s in
      let hi : n / 256 ≡ get_or m s 0 = omega arith in
      let lo : n % 256 ≡ get_or m (s + 1) 0 = omega arith in
      let e : s + 1 ≡ suc s = omega arith in
      sym (two_bytes n (omega arith)) ∙ rw (hi, lo, e, drop-cons m s 0 (omega arith), drop-cons m (suc s) 0 (omega arith)) refl

  entry_back : (s : ℕ) → entry_end m s ≤ length m → write_short_length_seq (entry_here m s).bytes ≡ bytes_at m s (entry_end m s - s)
  unfolding write_short_length_seq
  entry_back s h =
      let n = number16 m s in
      let l : length (bytes_at m (s + 2) n) ≡ n = length_part m (s + 2) n (omega arith) in
      let k : 2 + n ≡ entry_end m s - s = omega arith in
      ap (λ (j : ℕ). write_uint16 j ++ bytes_at m (s + 2) n) l
      ∙ ap (λ (l : List ℕ). l ++ bytes_at m (s + 2) n) (number_back s (omega arith))
      ∙ sym (bytes_add m s 2 n)
      ∙ ap (bytes_at m s) k

  two_back : (s t u : ℕ) → s ≤ t → t ≤ u → bytes_at m s (t - s) ++ bytes_at m t (u - t) ≡ bytes_at m s (u - s)
  two_back s t u h k =
      let e : s + (t - s) ≡ t = omega arith in
      let f : t - s + (u - t) ≡ u - s = omega arith in
      sym (bytes_add m s (t - s) (u - t) ∙ ap (λ (j : ℕ). bytes_at m s (t - s) ++ bytes_at m j (u - t)) e) ∙ ap (bytes_at m s) f

  pub key_back : (s : ℕ) → key_end m s ≤ length m → write_encrypted_data_key (key_of (key_here m s)) ≡ bytes_at m s (key_end m s - s)
  unfolding write_encrypted_data_key
  key_back s h =
      let t = entry_end m s in
      let u = entry_end m t in
      rw (entry_back s (omega arith), entry_back t (omega arith), entry_back u (omega arith), two_back t u (entry_end m u) (omega arith) (omega arith), two_back s t (entry_end m u) (omega arith) (omega arith)) refl

-- THE SAME BEHIND A PLACE
module _ (m m₀ : List ℕ) (s : ℕ) (e : drop s m ≡ drop s m₀) where
  same_byte : (j : ℕ) → s ≤ j → get_or m j 0 ≡ get_or m₀ j 0
  same_byte j h =
      let k : s + (j - s) ≡ j = omega arith in
      ap (λ (i : ℕ). get_or m i 0) (sym k) ∙ sym (get_or-drop s m (j - s) 0) ∙ ap (λ (l : List ℕ). get_or l (j - s) 0) e ∙ get_or-drop s m₀ (j - s) 0 ∙ ap (λ (i : ℕ). get_or m₀ i 0) k

  same_number : (t : ℕ) → s ≤ t → number16 m t ≡ number16 m₀ t
  same_number t h = rw (same_byte t h, same_byte (t + 1) (omega arith)) refl

  same_end : (t : ℕ) → s ≤ t → entry_end m t ≡ entry_end m₀ t
  same_end t h = ap (λ (n : ℕ). t + 2 + n) (same_number t h)

  pub same_key_end : key_end m s ≡ key_end m₀ s
  same_key_end =
      let a = same_end s (omega arith) in
      let b = same_end (entry_end m₀ s) (omega arith) in
      let c = same_end (entry_end m₀ (entry_end m₀ s)) (omega arith) in
      rw (a, b, c) refl

  pub same_provider : (key_here m s).keyProviderId.bytes ≡ (key_here m₀ s).keyProviderId.bytes
  same_provider = rw (same_number s (omega arith), ← drop-drop 2 s m, ← drop-drop 2 s m₀, e) refl
