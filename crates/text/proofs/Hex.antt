-- The loop that spells bytes, two digits each. Assumes nothing.
use mathlib.Core.Path.{◌≡◌, refl, sym, ap, ◌∙◌}
use mathlib.Core.List.{List, [], ◌∷◌, ◌++◌, append-nil}
use Prim.Native.Nat.{ℕ, ◌+◌, ◌*◌, ◌/◌, ◌%◌, ◌≤◌, ◌<◌}
use native.Mathlib.Omega.{arith}
use native.Mathlib.Numerals.{add-one}
use lib.ListN.{length, get_or, take}
use lib.Seq.{take-suc, take_all, length-take-le}
use Rattle.format.specs.Serialize.{images}
use Rattle.format.proofs.Serialize.{images_append}
use Rattle.wire.specs.Stored.{stored}
use Rattle.wire.proofs.StoreLaws.{length_stored, stored_none, stored_more}
use Rattle.text.specs.Text.{digit, hex, hex_byte}
use Rattle.text.proofs.Sizes.{hex_long}

pub two_digits : (b : ℕ) (d o p : List ℕ) (s x y : ℕ) → s + 2 ≤ length d → x ≡ digit (b / 16) → y ≡ digit (b % 16) → o ≡ stored d s (x ∷ []) → p ≡ stored o (s + 1) (y ∷ []) → p ≡ stored d s (hex_byte b)
two_digits b d o p s x y h ex ey e f =
    let g : stored o (s + 1) (y ∷ []) ≡ stored d s (x ∷ y ∷ []) = rw e (stored_more d s (x ∷ []) (y ∷ []) (s + 1) refl (omega arith)) in
    f ∙ g ∙ rw (ex, ey)

hex_one : (b : ℕ) → hex (b ∷ []) ≡ hex_byte b
unfolding images
hex_one b = append-nil (hex_byte b)

-- the first i bytes are spelled
pub record Spelled (bytes d : List ℕ) (at : ℕ) (o : List ℕ) (i : ℕ) : Type 0 where
  pub few : i ≤ length bytes
  pub room : at + 2 * length bytes ≤ length d
  pub long : length o ≡ length d
  pub is : o ≡ stored d at (hex (take i bytes))

module _ (bytes d : List ℕ) (at : ℕ) where
  pub spelled_start : at + length (hex bytes) ≤ length d → Spelled bytes d at d 0
  unfolding images
  spelled_start h = record { few = omega arith; room = rw (hex_long bytes) at h; long = refl; is = stored_none d at }

  module _ (o : List ℕ) (i : ℕ) (w : Spelled bytes d at o i) where
    pub spelled_room : i < length bytes → at + 2 * i + 2 ≤ length o
    spelled_room l = omega (arith, w.long, w.room)

    pub spelled_more : i < length bytes → (o' : List ℕ) → o' ≡ stored o (at + 2 * i) (hex_byte (get_or bytes i 0)) → Spelled bytes d at o' (i + 1)
    spelled_more l o' e = record { few = omega arith; room = w.room; long = ap length is ∙ length_stored d at (hex (take (i + 1) bytes)) (omega (arith, m, n, w.room)); is = is }
      where
        k : length (hex (take i bytes)) ≡ 2 * i
        k = let t = length-take-le i bytes (omega arith) in hex_long (take i bytes) ∙ ap (λ (x : ℕ). 2 * x) t

        m : length (hex (take (i + 1) bytes)) ≡ 2 * (i + 1)
        m = let t = length-take-le (i + 1) bytes (omega arith) in hex_long (take (i + 1) bytes) ∙ ap (λ (x : ℕ). 2 * x) t

        n : 2 * (i + 1) ≤ 2 * length bytes
        n = omega arith

        next : hex (take i bytes) ++ hex_byte (get_or bytes i 0) ≡ hex (take (i + 1) bytes)
        next =
            ap (λ (x : List ℕ). hex (take i bytes) ++ x) (sym (hex_one (get_or bytes i 0)))
            ∙ sym (images_append hex_byte (take i bytes) (get_or bytes i 0 ∷ []))
            ∙ ap hex (sym (rw add-one (take-suc bytes i 0 l)))

        is : o' ≡ stored d at (hex (take (i + 1) bytes))
        is = e ∙ ap (λ (x : List ℕ). stored x (at + 2 * i) (hex_byte (get_or bytes i 0))) w.is ∙ stored_more d at (hex (take i bytes)) (hex_byte (get_or bytes i 0)) (at + 2 * i) (omega (arith, k)) (omega (arith, k, w.room)) ∙ ap (stored d at) next

    pub spelled_behind : at + 2 * length bytes ≡ at + length (hex bytes)
    spelled_behind = rw (hex_long bytes) refl

    pub spelled_end : length bytes ≤ i → o ≡ stored d at (hex bytes)
    spelled_end h = w.is ∙ ap (λ (x : List ℕ). stored d at (hex x)) (take_all i bytes h)
