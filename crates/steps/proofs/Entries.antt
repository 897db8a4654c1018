-- An entry, and a text, at a place; and what holds where one is accepted. Assumes nothing.
use mathlib.Core.Path.{◌≡◌, refl, sym, ap, ap₂, ◌∙◌}
use mathlib.Core.Bool.{true, false}
use mathlib.Core.List.{List}
use Prim.Native.Nat.{ℕ, suc, ◌+◌, ◌≤◌, ◌<◌}
use native.Mathlib.Omega.{arith}
use lib.ListN.{length}
use Rattle.format.specs.Read.{Reader, ◌>>=◌, ◌>>◌, End, no_end, end_at, past, held, accepted, refused, at}
use Rattle.format.specs.Serialize.{Part, read, read_uint16, read_short_length_seq}
use Rattle.format.specs.Utf8.{valid_utf8_seq}
use Rattle.format.specs.Context.{read_text}
use Rattle.format.specs.Places.{number16, entry_here, entry_end}
use Rattle.format.proofs.Tests.{is_nleb, nleb_is}
use Rattle.format.proofs.First.{is_number16}
use Rattle.steps.proofs.Tidy.{uint16_tidy, entry_tidy}
use Rattle.steps.proofs.Steps.{go, stop, pass, fail, gives, held_pass, held_fail, un_held, un_bind, un_test, un_return}
use Rattle.steps.proofs.Numbers.{There, read_got, read_no, read_known, uint16_got, uint16_no, uint16_known}

-- a place before one that is not past the end is not past it either
before_past : (e : End) (a b : ℕ) → a ≤ b → past e b ≡ false → past e a ≡ false
before_past no_end a b h k = refl
before_past (end_at e) a b h k = let j : b < suc e = is_nleb (suc e) b k in nleb_is (suc e) a (omega arith)

module _ (e : End) (m : List ℕ) (s : ℕ) where
  -- behind the tests of the end
  after : ℕ → Reader Part
  after n = held e n >> read n

  -- by where the length ends and where the bytes do: past the end, or where the message does not reach
  pub entry_past_length : past e (s + 2) ≡ true → at (read_short_length_seq e) m s ≡ refused 32 0
  unfolding read_short_length_seq
  entry_past_length h = held_fail e 2 _ m s h

  module _ (length_held : past e (s + 2) ≡ false) where
    entry_length : at (read_short_length_seq e) m s ≡ at (read_uint16 >>= after) m s
    unfolding read_short_length_seq after
    entry_length = held_pass e 2 _ m s length_held

    pub entry_no_length : length m < s + 2 → at (read_short_length_seq e) m s ≡ refused 2 (s + 2)
    entry_no_length h = entry_length ∙ stop after uint16_tidy m s 2 (s + 2) (uint16_no m s h)

    module _ (there : s + 2 ≤ length m) where
      entry_bytes : at (read_short_length_seq e) m s ≡ at (after (number16 m s)) m (s + 2)
      entry_bytes = entry_length ∙ go after uint16_tidy m s (number16 m s) (s + 2) (uint16_got m s there)

      pub entry_past_bytes : past e (entry_end m s) ≡ true → at (read_short_length_seq e) m s ≡ refused 32 0
      unfolding after
      entry_past_bytes h = entry_bytes ∙ held_fail e (number16 m s) _ m (s + 2) h

      module _ (bytes_held : past e (entry_end m s) ≡ false) where
        entry_read : at (read_short_length_seq e) m s ≡ at (read (number16 m s)) m (s + 2)
        unfolding after
        entry_read = entry_bytes ∙ held_pass e (number16 m s) _ m (s + 2) bytes_held

        pub entry_short : length m < entry_end m s → at (read_short_length_seq e) m s ≡ refused 2 (entry_end m s)
        entry_short h = entry_read ∙ read_no m (s + 2) (number16 m s) there h

  pub entry_got : past e (entry_end m s) ≡ false → entry_end m s ≤ length m → at (read_short_length_seq e) m s ≡ accepted (entry_here m s) (entry_end m s)
  entry_got k h = entry_read (before_past e (s + 2) (entry_end m s) (omega arith) k) (omega arith) k ∙ read_got m (s + 2) (number16 m s) h

  -- what was read stands there, and ends within the end
  pub entry_known : (p : Part) (t : ℕ) → at (read_short_length_seq e) m s ≡ accepted p t → There m (s + 2) (number16 m s) p t × (past e t ≡ false)
  unfolding read_short_length_seq
  entry_known p t h =
      let (a, h₁) = un_held e 2 _ m s p t h in
      let (n, t₁, h₂, h₃) = un_bind (λ n. held e n >> read n) uint16_tidy m s p t h₁ in
      let u = uint16_known m s n t₁ h₂ in
      let v : n ≡ number16 m s = u.is ∙ is_number16 m s u.there in
      let (b, h₄) = un_held e n (read n) m t₁ p t h₃ in
      let z = read_known m t₁ n (omega arith) p t h₄ in
      let c : past e t ≡ false = rw z.tail b in
      (rw (v, u.tail) at z, c)

-- an entry of UTF-8
module _ (e : End) (k : ℕ) (m : List ℕ) (s : ℕ) where
  pub text_stops : (j p : ℕ) → at (read_short_length_seq e) m s ≡ refused j p → at (read_text e k) m s ≡ refused j p
  unfolding read_text
  text_stops j p h = stop _ (entry_tidy e) m s j p h

  module _ (x : Part) (t : ℕ) (is : at (read_short_length_seq e) m s ≡ accepted x t) where
    pub text_good : valid_utf8_seq x.bytes ≡ true → at (read_text e k) m s ≡ accepted x t
    unfolding read_text
    text_good h = go _ (entry_tidy e) m s x t is ∙ pass k _ _ m t h ∙ gives x m t

    pub text_bad : valid_utf8_seq x.bytes ≡ false → at (read_text e k) m s ≡ refused k 0
    unfolding read_text
    text_bad h = go _ (entry_tidy e) m s x t is ∙ fail k _ _ m t h

  pub text_entry : (p : Part) (t : ℕ) → at (read_text e k) m s ≡ accepted p t → (at (read_short_length_seq e) m s ≡ accepted p t) × (valid_utf8_seq p.bytes ≡ true)
  unfolding read_text
  text_entry p t h =
      let z = un_bind _ (entry_tidy e) m s p t h in
      let u = un_test k _ _ m z.1 p t z.3 in
      let w = un_return z.0 m z.1 p t u.1 in
      (z.2 ∙ ap₂ accepted (sym w.0) (sym w.1), ap (λ (x : Part). valid_utf8_seq x.bytes) w.0 ∙ u.0)

  pub text_known : (p : Part) (t : ℕ) → at (read_text e k) m s ≡ accepted p t → There m (s + 2) (number16 m s) p t × (past e t ≡ false)
  text_known p t h = entry_known e m s p t (text_entry p t h).0
