-- Laws of `stored`: one store, stores side by side, a store into a part; and the ways out of the functions that write.
-- Assumes nothing.
use mir.Syntax.{w16}
use mir.Val.{Fits}
use Prim.Native.Nat.{ℕ, suc, ◌+◌, ◌-◌, ◌/◌, ◌%◌, ◌≤◌, ◌<◌}
use mathlib.Core.Path.{◌≡◌, refl, sym, ap, ◌∙◌}
use mathlib.Core.List.{List, [], ◌∷◌, ◌++◌, append_assoc, append-nil}
use native.Mathlib.Omega.{arith}
use native.Mathlib.Nat.{add-zero, zero-add, add-sub_cancel_left}
use lib.ListN.{length, take, drop, set, length-append, length-take, length-drop, take-append-drop, drop_of_length-le}
use borrow.Rule.Slice.PartMut.{put_mid}
use lib.Seq.{set_split, take_all, take_at, drop_at, drop-drop, length-take-le, take-length}
use Rattle.format.specs.Serialize.{write_uint16, write_uint32, write_short_length_seq}
use Rattle.format.specs.Lent.{bytes_at}
use Rattle.format.proofs.Serialize.{length_uint16}
use Rattle.steps.proofs.Numbers.{length_part}
use Rattle.wire.specs.Stored.{stored}

-- what stands before the end of what was stored
head_length : (d : List ℕ) (s : ℕ) (a : List ℕ) → s ≤ length d → length (take s d ++ a) ≡ s + length a
head_length d s a h = simp (length-append, length-take-le s d h)

pub length_stored : (d : List ℕ) (s : ℕ) (a : List ℕ) → s + length a ≤ length d → length (stored d s a) ≡ length d
unfolding stored
length_stored d s a h = simp (length-append, length-take, length-drop) (omega arith)

pub stored_none : (d : List ℕ) (s : ℕ) → d ≡ stored d s []
unfolding stored
stored_none d s = rw (add-zero, take-append-drop) refl

pub stored_one : (d : List ℕ) (s x : ℕ) → s < length d → set d s x ≡ stored d s (x ∷ [])
unfolding stored
stored_one d s x h =
    let e : suc s ≡ s + 1 = omega arith in
    set_split d s x h ∙ ap (λ (k : ℕ). take s d ++ (x ∷ drop k d)) e

-- what is left after what was stored, and what stands before its end
pub drop_stored : (d : List ℕ) (s : ℕ) (a : List ℕ) (n : ℕ) → s + length a ≤ length d → drop (s + length a + n) (stored d s a) ≡ drop (s + length a + n) d
unfolding stored
drop_stored d s a n h =
    let le : s ≤ length d = omega arith in
    sym (drop-drop n (s + length a) (stored d s a))
    ∙ ap (λ (l : List ℕ). drop n (drop (s + length a) l)) (sym (append_assoc (take s d) a (drop (s + length a) d)))
    ∙ ap (λ (l : List ℕ). drop n l) (drop_at (take s d ++ a) (drop (s + length a) d) (s + length a) (head_length d s a le))
    ∙ drop-drop n (s + length a) d

pub take_stored : (d : List ℕ) (s : ℕ) (a : List ℕ) → s + length a ≤ length d → take (s + length a) (stored d s a) ≡ take s d ++ a
unfolding stored
take_stored d s a h =
    let le : s ≤ length d = omega arith in
    ap (take (s + length a)) (sym (append_assoc (take s d) a (drop (s + length a) d)))
    ∙ take_at (take s d ++ a) (drop (s + length a) d) (s + length a) (head_length d s a le)

-- a store at the end of a store is one store
pub stored_more : (d : List ℕ) (s : ℕ) (a b : List ℕ) (t : ℕ) → t ≡ s + length a → s + length a ≤ length d → stored (stored d s a) t b ≡ stored d s (a ++ b)
unfolding stored
stored_more d s a b t e h =
    let f : s + length a + length b ≡ s + (length a + length b) = omega arith in
    rw (e, take_stored d s a h, drop_stored d s a (length b) h, append_assoc (take s d) a, append_assoc a b, length-append a b, f) refl

-- an image that is written in two steps
stored_both : (d o p : List ℕ) (s t : ℕ) (a b image : List ℕ) → o ≡ stored d s a → p ≡ stored o t b → t ≡ s + length a → s + length a ≤ length d → a ++ b ≡ image → p ≡ stored d s image
stored_both d o p s t a b image e f g h k = f ∙ ap (λ (l : List ℕ). stored l t b) e ∙ stored_more d s a b t g h ∙ ap (stored d s) k

-- the bytes of 16 bits, and of 32 bits as twice 16
pub two_bytes : (x : ℕ) → x < 65536 → x / 256 ∷ x % 256 ∷ [] ≡ write_uint16 x
unfolding write_uint16
two_bytes x h = let e : x / 256 ≡ x / 256 % 256 = omega arith in ap (λ (y : ℕ). y ∷ x % 256 ∷ []) e

two_halves : (x : ℕ) → write_uint16 (x / 65536) ++ write_uint16 (x % 65536) ≡ write_uint32 x
unfolding write_uint16 write_uint32
two_halves x =
    let a : x / 65536 / 256 % 256 ≡ x / 256 / 256 / 256 % 256 = omega arith in
    let b : x / 65536 % 256 ≡ x / 256 / 256 % 256 = omega arith in
    let c : x % 65536 / 256 % 256 ≡ x / 256 % 256 = omega arith in
    let d : x % 65536 % 256 ≡ x % 256 = omega arith in
    rw (a, b, c, d) refl

-- the bytes of an entry
pub length_then_bytes : (text : List ℕ) (a n : ℕ) → a + n ≤ length text → write_uint16 n ++ take n (drop a text) ≡ write_short_length_seq (take n (drop a text))
unfolding write_short_length_seq
length_then_bytes text a n q = ap (λ (k : ℕ). write_uint16 k ++ take n (drop a text)) (sym (length_part text a n q))

module _ (d o p : List ℕ) (s : ℕ) where
  pub stored_uint16 : (x : ℕ) → Fits w16 x → s + 2 ≤ length d → o ≡ stored d s (x / 256 ∷ []) → p ≡ stored o (s + 1) (x % 256 ∷ []) → p ≡ stored d s (write_uint16 x)
  stored_uint16 x fit h e f = stored_both d o p s (s + 1) (x / 256 ∷ []) (x % 256 ∷ []) (write_uint16 x) e f refl (omega arith) (two_bytes x fit.fits)

  pub stored_uint32 : (x : ℕ) → s + 4 ≤ length d → o ≡ stored d s (write_uint16 (x / 65536)) → p ≡ stored o (s + 2) (write_uint16 (x % 65536)) → p ≡ stored d s (write_uint32 x)
  stored_uint32 x h e f =
      let l = length_uint16 (x / 65536) in
      stored_both d o p s (s + 2) (write_uint16 (x / 65536)) (write_uint16 (x % 65536)) (write_uint32 x) e f (omega arith) (omega arith) (two_halves x)

  pub stored_entry : (text : List ℕ) (a n : ℕ) → a + n ≤ length text → s + 2 + n ≤ length d → o ≡ stored d s (write_uint16 n) → p ≡ stored o (s + 2) (take n (drop a text))
      → p ≡ stored d s (write_short_length_seq (take n (drop a text)))
  stored_entry text a n q h e f =
      let l = length_uint16 n in
      stored_both d o p s (s + 2) (write_uint16 n) (take n (drop a text)) (write_short_length_seq (take n (drop a text))) e f (omega arith) (omega arith) (length_then_bytes text a n q)

-- what was written into a part of the output: from s to s + n, and from s to its end
stored_part : (d new bytes : List ℕ) (s n : ℕ) → length bytes ≡ n → new ≡ bytes → put_mid s (s + n - s) d new ≡ stored d s bytes
unfolding stored
stored_part d new bytes s n l e = rw (e, add-sub_cancel_left s n, l, drop-drop n s d) refl

pub stored_middle : (d text new : List ℕ) (s a n : ℕ) → a + n ≤ length text → new ≡ take (a + n - a) (drop a text) → put_mid s (s + n - s) d new ≡ stored d s (take n (drop a text))
stored_middle d text new s a n h e = stored_part d new (take n (drop a text)) s n (length_part text a n h) (e ∙ ap (λ (k : ℕ). take k (drop a text)) (add-sub_cancel_left a n))

pub stored_tail : (d new image : List ℕ) (s : ℕ) → s ≤ length d → new ≡ stored (take (length d - s) (drop s d)) 0 image → put_mid s (length d - s) d new ≡ stored d s image
unfolding stored
stored_tail d new image s h e =
    let n : length (drop s d) ≡ length d - s = length-drop s d in
    let all : take (length d - s) (drop s d) ≡ drop s d = take_all (length d - s) (drop s d) (omega arith) in
    let none : drop (length d - s) (drop s d) ≡ [] = drop_of_length-le (drop s d) {i = length d - s} (omega arith) in
    rw (e, all, none, append-nil, zero-add, drop-drop (length image) s d) refl

-- an entry of all the bytes that are lent
pub entry_stored : (d bytes : List ℕ) (at : ℕ) (out : List ℕ) → out ≡ stored d at (write_short_length_seq (bytes_at bytes 0 (length bytes))) → out ≡ stored d at (write_short_length_seq bytes)
entry_stored d bytes at out e = e ∙ ap (λ (l : List ℕ). stored d at (write_short_length_seq l)) (take-length bytes)
