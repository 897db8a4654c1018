-- Laws of storing frames, one behind the other. Assumes nothing.
use Prim.Native.Nat.{ℕ, suc, ◌+◌, ◌*◌, ◌-◌, ◌/◌, ◌≤◌, ◌<◌}
use native.Mathlib.Nat.{sub-zero}
use native.Mathlib.Numerals.{add-one}
use native.Mathlib.Omega.{arith}
use mathlib.Core.Path.{◌≡◌, refl, sym, subst, ◌∙◌}
use mathlib.Core.Bool.{true}
use mathlib.Core.List.{List, ◌++◌}
use lib.ListN.{length}
use Rattle.format.specs.Serialize.{every}
use Rattle.format.specs.Frames.{Frame, write_regular_frame, write_final_frame, write_frames_from, write_frames}
use Rattle.format.specs.Lent.{items, frame_in, frames_in, places, in_text}
use Rattle.wire.specs.Stored.{stored}
use Rattle.wire.proofs.StoreLaws.{stored_more}
use Rattle.checks.proofs.Items.{items_step, items_none}
use Rattle.frames_write.specs.Table.{FrameThere, FramesReady}
use Rattle.frames_write.specs.Puts.{Puts}
use Rattle.frames_write.proofs.Lengths.{frame_there}
use Rattle.frames_write.proofs.Stores.{room_first, longs, room_next, any_number}

-- frames are being stored: what it will store is what is left to store
pub record Putting (text table out₀ out : List ℕ) (i at : ℕ) : Type 0 where
  pub below : i < length table / 6
  pub long : length out ≡ length out₀
  pub left : at + length (write_frames_from (i + 1) (items (frame_in text table) 6 (length table / 6 - i) (6 * i))) ≤ length out
  pub same : stored out₀ 0 (write_frames (frames_in text table)) ≡ stored out at (write_frames_from (i + 1) (items (frame_in text table) 6 (length table / 6 - i) (6 * i)))

pub putting_start : (text table out : List ℕ) → FramesReady text table (length out) → Putting text table out out 0 0
putting_start text table out r = record { below = r.some; long = refl; left = rw sub-zero (let f = r.fits in omega arith); same = rw sub-zero }

module _ (text table out₀ out : List ℕ) (i at : ℕ) (p : Putting text table out₀ out i at) where
  pub putting_there : every (in_text text table) (places table) ≡ true → FrameThere text table (6 * i)
  putting_there e = frame_there text table e i (6 * i) p.below refl

  -- a frame before the last
  module _ (h : i < length table / 6 - 1) where
    abbrev rest : List ℕ
    rest = write_frames_from (suc (i + 1)) (items (frame_in text table) 6 (length table / 6 - (i + 1)) (6 * (i + 1)))

    split : write_frames_from (i + 1) (items (frame_in text table) 6 (length table / 6 - i) (6 * i)) ≡ write_regular_frame (i + 1) (frame_in text table (6 * i)) ++ rest
    unfolding write_frames_from
    split =
        let next : 6 * i + 6 ≡ 6 * (i + 1) = omega arith in
        rw (items_step (frame_in text table) 6 (length table / 6) i (6 * i) p.below, next, items_step (frame_in text table) 6 (length table / 6) (i + 1) (6 * (i + 1)) (omega arith)) refl

    room : at + length (write_regular_frame (i + 1) (frame_in text table (6 * i)) ++ rest) ≤ length out
    room = rw split at p.left

    room_as : (n : ℕ) → at + length (write_regular_frame n (frame_in text table (6 * i))) ≤ length out
    room_as n = rw (any_number (frame_in text table (6 * i)) n (i + 1)) (room_first out at (write_regular_frame (i + 1) (frame_in text table (6 * i))) rest room)

    pub putting_room : (f : Frame) → f ≡ frame_in text table (6 * i) → (n : ℕ) → at + length (write_regular_frame n f) ≤ length out
    putting_room f e n = rw e (room_as n)

    pub putting_more : (f : Frame) → f ≡ frame_in text table (6 * i) → (out' : List ℕ) (at' : ℕ) → Puts out at (write_regular_frame (i + 1) f) out' at' → Putting text table out₀ out' (i + 1) at'
    putting_more f e out' at' put =
        let q = rw e at put in
        let b = write_regular_frame (i + 1) (frame_in text table (6 * i)) in
        record {
          below = omega arith;
          long = longs out at b rest room out' at' q ∙ p.long;
          left = rw (add-one (i + 1)) (room_next out at b rest room out' at' q);
          same = p.same ∙ rw (split, add-one (i + 1)) (sym (rw q.output (stored_more out at b rest at' q.place (room_as (i + 1)))));
        }

  pub putting_last : length table / 6 - 1 ≤ i → Putting text table out₀ out (length table / 6 - 1) at
  putting_last h = let e : i ≡ length table / 6 - 1 = omega (arith, p.below) in subst (λ (k : ℕ). Putting text table out₀ out k at) e p

-- the last
module _ (text table out₀ out : List ℕ) (at : ℕ) (p : Putting text table out₀ out (length table / 6 - 1) at) where
  abbrev last : ℕ
  last = length table / 6 - 1

  alone : write_frames_from (last + 1) (items (frame_in text table) 6 (length table / 6 - last) (6 * last)) ≡ write_final_frame (last + 1) (frame_in text table (6 * last))
  unfolding write_frames_from
  alone = rw (items_step (frame_in text table) 6 (length table / 6) last (6 * last) p.below, items_none (frame_in text table) 6 (length table / 6) (last + 1) (6 * last + 6) (omega arith)) refl

  module _ (f : Frame) (e : f ≡ frame_in text table (6 * (length table / 6 - 1))) where
    pub final_room : at + length (write_final_frame (length table / 6 - 1 + 1) f) ≤ length out
    final_room = rw e (rw alone at p.left)

    pub putting_end : (out' : List ℕ) → out' ≡ stored out at (write_final_frame (length table / 6 - 1 + 1) f) → out' ≡ stored out₀ 0 (write_frames (frames_in text table))
    putting_end out' q = rw e at q ∙ sym (p.same ∙ rw alone refl)
