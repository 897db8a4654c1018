-- Laws of storing one frame, part behind part. Assumes nothing.
use mir.Syntax.{w64}
use mir.Val.{Fits}
use Prim.Native.Nat.{ℕ, ◌+◌, ◌^◌, ◌≤◌, ◌<◌}
use native.Mathlib.Omega.{arith}
use mathlib.Core.Path.{◌≡◌, refl}
use mathlib.Core.List.{List, ◌++◌}
use lib.ListN.{length, length-append}
use Rattle.format.specs.Serialize.{write_uint32}
use Rattle.format.specs.Frames.{Frame, final_mark, write_regular_frame, write_final_frame}
use Rattle.format.specs.Lent.{bytes_at}
use Rattle.format.proofs.Serialize.{length_uint32}
use Rattle.wire.specs.Stored.{stored}
use Rattle.checks.proofs.Writers.{chain, still_long, whole_bytes}
use Rattle.frames_write.specs.Puts.{Puts}

-- stores one behind the other; and the room that each has
module _ (d : List ℕ) (s : ℕ) (a b : List ℕ) (fits : s + length (a ++ b) ≤ length d) where
  pub room_first : s + length a ≤ length d
  room_first = let l = length-append a b in omega arith

  module _ (x : List ℕ) (t : ℕ) (p : Puts d s a x t) where
    pub longs : length x ≡ length d
    longs = still_long d x s a p.output room_first

    pub room_next : t + length b ≤ length x
    room_next = let l = length-append a b in let k = longs in omega (arith, p.place)

    then_puts : (y : List ℕ) (u : ℕ) → Puts x t b y u → Puts d s (a ++ b) y u
    then_puts y u q =
        let l = length-append a b in
        record { output = chain d x y s t a b p.output p.place q.output room_first; place = omega (arith, p.place, q.place) }

-- a number
number_puts : (d x : List ℕ) (s n : ℕ) → x ≡ stored d s (write_uint32 n) → Puts d s (write_uint32 n) x (s + 4)
number_puts d x s n e = record { output = e; place = let l = length_uint32 n in omega arith }

-- bytes
pub bytes_put : (d x bytes : List ℕ) (at : ℕ) → x ≡ stored d at (bytes_at bytes 0 (length bytes)) → Puts d at bytes x (at + length bytes)
bytes_put d x bytes at e = record { output = rw (whole_bytes bytes) at e; place = refl }

-- content and tag
module _ (content tag d : List ℕ) (at : ℕ) (h : at + length (content ++ tag) ≤ length d) where
  pub sealed_content : at + length content ≤ length d
  sealed_content = room_first d at content tag h

  module _ (x : List ℕ) (t : ℕ) (p : Puts d at content x t) where
    pub sealed_tag : t + length tag ≤ length x
    sealed_tag = room_next d at content tag h x t p

    pub sealed_puts : (y : List ℕ) (u : ℕ) → Puts x t tag y u → Puts d at (content ++ tag) y u
    sealed_puts = then_puts d at content tag h x t p

-- behind a number
module _ (d : List ℕ) (s n : ℕ) (b : List ℕ) (h : s + length (write_uint32 n ++ b) ≤ length d) where
  number_room : s + 4 ≤ length d
  number_room = rw length_uint32 at (room_first d s (write_uint32 n) b h)

  module _ (x : List ℕ) (e : x ≡ stored d s (write_uint32 n)) where
    behind_number : s + 4 + length b ≤ length x
    behind_number = room_next d s (write_uint32 n) b h x (s + 4) (number_puts d x s n e)

    then_number : (y : List ℕ) (u : ℕ) → Puts x (s + 4) b y u → Puts d s (write_uint32 n ++ b) y u
    then_number = then_puts d s (write_uint32 n) b h x (s + 4) (number_puts d x s n e)

-- the frame of these parts
abbrev pub of : List ℕ → List ℕ → List ℕ → Frame
of iv content tag = record { iv = iv; content = content; tag = tag }

-- a regular frame
module _ (iv content tag d : List ℕ) (at n : ℕ) (h : at + length (write_regular_frame n (of iv content tag)) ≤ length d) where
  abbrev rest : List ℕ
  rest = content ++ tag

  pub regular_number : at + 4 ≤ length d
  unfolding write_regular_frame
  regular_number = number_room d at n (iv ++ rest) h

  module _ (x : List ℕ) (e : x ≡ stored d at (write_uint32 n)) where
    behind_iv : at + 4 + length (iv ++ rest) ≤ length x
    unfolding write_regular_frame
    behind_iv = behind_number d at n (iv ++ rest) h x e

    pub regular_iv : at + 4 + length iv ≤ length x
    regular_iv = room_first x (at + 4) iv rest behind_iv

    module _ (y : List ℕ) (t : ℕ) (p : Puts x (at + 4) iv y t) where
      pub regular_sealed : t + length (content ++ tag) ≤ length y
      regular_sealed = room_next x (at + 4) iv rest behind_iv y t p

      pub regular_puts : (z : List ℕ) (u : ℕ) → Puts y t (content ++ tag) z u → Puts d at (write_regular_frame n (of iv content tag)) z u
      unfolding write_regular_frame
      regular_puts z u q = then_number d at n (iv ++ rest) h x e z u (then_puts x (at + 4) iv rest behind_iv y t p z u q)

-- a content's length, and then content and tag
module _ (content tag d : List ℕ) (at : ℕ) (h : at + length (write_uint32 (length content) ++ (content ++ tag)) ≤ length d) where
  pub sized_length : at + 4 ≤ length d
  sized_length = number_room d at _ _ h

  pub sized_fits : length d < 2 ^ 64 → Fits w64 (at + 4)
  sized_fits q = record { fits = omega (arith, sized_length, q) }

  module _ (x : List ℕ) (e : x ≡ stored d at (write_uint32 (length content))) where
    pub sized_sealed : at + 4 + length (content ++ tag) ≤ length x
    sized_sealed = behind_number d at _ _ h x e

    pub sized_puts : (y : List ℕ) (u : ℕ) → Puts x (at + 4) (content ++ tag) y u → Puts d at (write_uint32 (length content) ++ (content ++ tag)) y u
    sized_puts = then_number d at _ _ h x e

-- the final frame
module _ (iv content tag d : List ℕ) (at n : ℕ) (h : at + length (write_final_frame n (of iv content tag)) ≤ length d) where
  abbrev rest_of : List ℕ
  rest_of = write_uint32 (length content) ++ (content ++ tag)

  pub final_mark_room : at + 4 ≤ length d
  unfolding write_final_frame
  final_mark_room = number_room d at final_mark (write_uint32 n ++ (iv ++ rest_of)) h

  -- whatever number was stored before
  module _ (k : ℕ) (x : List ℕ) (e : x ≡ stored d at (write_uint32 k)) where
    behind_mark : at + 4 + length (write_uint32 n ++ (iv ++ rest_of)) ≤ length x
    unfolding write_final_frame
    behind_mark =
        let l = length_uint32 k in
        let q = length-append (write_uint32 final_mark) (write_uint32 n ++ (iv ++ rest_of)) in
        let m = length_uint32 final_mark in
        let z = still_long d x at (write_uint32 k) e (omega arith) in
        omega arith

    pub final_number : at + 4 + 4 ≤ length x
    final_number = number_room x (at + 4) n (iv ++ rest_of) behind_mark

    module _ (y : List ℕ) (f : y ≡ stored x (at + 4) (write_uint32 n)) where
      behind : at + 8 + length (iv ++ rest_of) ≤ length y
      behind = let i : at + 4 + 4 ≡ at + 8 = omega arith in rw i at (behind_number x (at + 4) n (iv ++ rest_of) behind_mark y f)

      pub final_iv : at + 8 + length iv ≤ length y
      final_iv = room_first y (at + 8) iv rest_of behind

      module _ (z : List ℕ) (t : ℕ) (p : Puts y (at + 8) iv z t) where
        pub final_sized : t + length (write_uint32 (length content) ++ (content ++ tag)) ≤ length z
        final_sized = room_next y (at + 8) iv rest_of behind z t p

        pub final_stored : k ≡ 4294967295 → (out : List ℕ) (u : ℕ) → Puts z t (write_uint32 (length content) ++ (content ++ tag)) out u → out ≡ stored d at (write_final_frame n (of iv content tag))
        unfolding write_final_frame
        final_stored mark out u q =
            let i : at + 4 + 4 ≡ at + 8 = omega arith in
            let a : Puts y (at + 4 + 4) (iv ++ rest_of) out u = rw i (then_puts y (at + 8) iv rest_of behind z t p out u q) in
            (then_number d at final_mark _ h x (rw mark at e) out u (then_number x (at + 4) n _ behind_mark y f out u a)).output

-- a regular frame takes the same room with any number
pub any_number : (f : Frame) (n k : ℕ) → length (write_regular_frame n f) ≡ length (write_regular_frame k f)
unfolding write_regular_frame
any_number f n k = rw (length-append (write_uint32 n), length-append (write_uint32 k), length_uint32 n, length_uint32 k) refl
