-- Laws of moves within one buffer, and of stores side by side. Assumes nothing.
use Prim.Native.Nat.{ℕ, ◌+◌, ◌-◌, ◌≤◌}
use mathlib.Core.Path.{◌≡◌, refl, ap, ◌∙◌}
use mathlib.Core.List.{List, ◌++◌, append_assoc}
use native.Mathlib.Omega.{arith}
use native.Mathlib.Nat.{add-sub_cancel_left}
use borrow.Rule.Slice.PartMut.{put_mid}
use lib.ListN.{length, take, drop, length-append, replicate, length-replicate}
use lib.Seq.{drop-drop, take-add, drop_at, take-take, take-append-le, length-take-le}
use Rattle.std.specs.List.{copy_within}
use Rattle.format.specs.Auth.{zeros}
use Rattle.format.specs.Lent.{bytes_at}
use Rattle.steps.proofs.Numbers.{length_part}
use Rattle.wire.specs.Stored.{stored}

-- bytes behind others
pub bytes_add : (m : List ℕ) (from i n : ℕ) → bytes_at m from (i + n) ≡ bytes_at m from i ++ bytes_at m (from + i) n
bytes_add m from i n = take-add i n (drop from m) ∙ ap (λ (l : List ℕ). take i (drop from m) ++ take n l) (drop-drop i from m)

-- a store in front of a store is one store
pub stored_before : (d : List ℕ) (s : ℕ) (a : List ℕ) (t : ℕ) (b : List ℕ) → t ≡ s + length a → t ≤ length d → stored (stored d t b) s a ≡ stored d s (a ++ b)
unfolding stored
stored_before d s a t b e h =
    let n : length (take t d) ≡ t = length-take-le t d h in
    let x : take s (take t d ++ (b ++ drop (t + length b) d)) ≡ take s d = take-append-le s (take t d) (b ++ drop (t + length b) d) (omega arith) ∙ take-take s t d (omega arith) in
    let y : drop t (take t d ++ (b ++ drop (t + length b) d)) ≡ b ++ drop (t + length b) d = drop_at (take t d) (b ++ drop (t + length b) d) t n in
    let z : s + length (a ++ b) ≡ t + length b = (let w = length-append a b in omega arith) in
    rw (← e, x, y, z, append_assoc a b) refl

-- what `copy_within` leaves, and what a part filled with 00 leaves
pub moved_is : (m m' : List ℕ) (from to len : ℕ) → from + len ≤ length m → m' ≡ copy_within m from (from + len) to → m' ≡ stored m to (bytes_at m from len)
unfolding stored
moved_is m m' from to len h e = rw (e, add-sub_cancel_left from len, append_assoc, length_part m from len h) refl

pub cleared_is : (m part : List ℕ) (from to : ℕ) → to ≤ length m → from ≤ to → part ≡ replicate (length (take (to - from) (drop from m))) 0 → put_mid from (to - from) m part ≡ stored m from (zeros (to - from))
unfolding stored zeros
cleared_is m part from to h k e = let n : length (take (to - from) (drop from m)) ≡ to - from = length_part m from (to - from) (omega arith) in rw (e, n, length-replicate {A = ℕ} (to - from) 0, drop-drop (to - from) from m) refl
