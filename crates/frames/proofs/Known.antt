-- What was read of a frame: where it ends, and that it goes on from where it began. Assumes nothing.
use mathlib.Core.Path.{◌≡◌, refl, ap, subst}
use mathlib.Core.Bool.{Bool, true, false}
use mathlib.Core.List.{List, [], ◌∷◌, ◌++◌}
use Prim.Native.Nat.{ℕ, zero, suc, ◌+◌, ◌≤◌, ◌<◌}
use native.Mathlib.Omega.{arith}
use lib.ListN.{length, drop, length-append}
use Rattle.format.specs.Read.{Item, followed, last, behind, until, run, accepted, at}
use Rattle.format.specs.Serialize.{Part}
use Rattle.format.specs.Frames.{FrameAt, next_number, read_sealed, read_frame_of, read_frame, read_next_frame, read_frames}
use Rattle.format.specs.Places.{final_here, frame_of_here, frame_here, frame_end}
use Rattle.format.proofs.Lines.{goes_accepted, goes_ended}
use Rattle.format.proofs.Frames.{frame_goes, frames_unbounded}
use Rattle.steps.proofs.Tidy.{Tidy, tidy, uint32_tidy}
use Rattle.steps.proofs.Steps.{refused_is_none, un_bind, un_return, inside, forward}
use Rattle.steps.proofs.Numbers.{uint32_known}
use Rattle.steps.proofs.Runs.{run_tidy, run_inside}
use Rattle.frames.specs.Codes.{Kinds}

pub sealed_tidy : (iv : Part) (n : ℕ) → Tidy (read_sealed iv n)
unfolding read_sealed
sealed_tidy iv n = search tidy depth 20

pub frame_of_tidy : (frame due : ℕ) (final : Bool) (number : ℕ) → Tidy (read_frame_of frame due final number)
unfolding read_frame_of
frame_of_tidy frame due true mark = search (tidy, sealed_tidy) depth 20
frame_of_tidy frame due false number = search (tidy, sealed_tidy) depth 20

pub frame_tidy : (frame due : ℕ) → Tidy (read_frame frame due)
unfolding read_frame
frame_tidy frame due = search (tidy, frame_of_tidy) depth 20

pub frames_tidy : (frame : ℕ) → Tidy (read_frames frame)
unfolding read_frames
frames_tidy frame = run_tidy (read_next_frame frame) (λ done. frame_tidy frame (next_number done)) _

-- a frame ends behind its start, and within the message
pub record Further (m : List ℕ) (s t : ℕ) : Type 0 where
  pub further : s < t
  pub within : t ≤ length m

pub frame_further : (frame due : ℕ) (m : List ℕ) (s : ℕ) (x : Item FrameAt) (t : ℕ) → at (read_frame frame due) m s ≡ accepted x t → Further m s t
unfolding read_frame
frame_further frame due m s x t e =
    let (n, u, p, q) = un_bind _ uint32_tidy m s x t e in
    let z = uint32_known m s n u p in
    let w = inside (frame_of_tidy frame due _ n) m u (omega (arith, z.tail, z.there)) x t q in
    let l = forward (frame_of_tidy frame due _ n) m u x t q in
    record { further = omega (arith, z.tail); within = w }

-- and frames, too, end within the message
pub frames_within : (frame : ℕ) (m : List ℕ) (s : ℕ) (fs : List FrameAt) (t : ℕ) → at (read_frames frame) m s ≡ accepted fs t → t ≤ length m
unfolding read_frames
frames_within frame m s fs t e =
    run_inside (read_next_frame frame) (λ done. frame_tidy frame (next_number done)) (frames_unbounded frame) m [] s (λ x u p. (frame_further frame 1 m s x u p).within) fs t e

-- the last frame that was read is final, and no other
module _ (frame : ℕ) (m : List ℕ) where
  kind_of : (due s : ℕ) (x : Item FrameAt) (t : ℕ) → at (read_frame frame due) m s ≡ accepted x t → (x ≡ frame_here frame m s) × (t ≡ frame_end frame m s)
  kind_of due s x t e = (goes_accepted (frame_goes frame due) m s x t e, goes_ended (frame_goes frame due) m s x t e)

  is_regular : (b : Bool) (s : ℕ) (a : FrameAt) → followed a ≡ frame_of_here frame b m s → b ≡ false
  unfolding frame_of_here
  is_regular true s a e = let z : ◌≡◌ {A = ℕ} 0 1 = cc in absurd (omega arith)
  is_regular false s a e = refl

  is_final : (b : Bool) (s : ℕ) (a : FrameAt) → last a ≡ frame_of_here frame b m s → b ≡ true
  unfolding frame_of_here
  is_final true s a e = refl
  is_final false s a e = let z : ◌≡◌ {A = ℕ} 0 1 = cc in absurd (omega arith)

  -- so many frames behind those before
  record Behind (done : List FrameAt) (s : ℕ) (fs : List FrameAt) : Type 0 where
    count : ℕ
    many : length fs ≡ length done + suc count
    kinds : Kinds frame m (suc count) s

  until_kinds : (n : ℕ) (done : List FrameAt) (s : ℕ) (fs : List FrameAt) (t : ℕ) → at (until n (read_next_frame frame) done) m s ≡ accepted fs t → Behind done s fs
  unfolding until at
  until_kinds zero done s fs t e = refused_is_none e
  until_kinds (suc n) done s fs t e =
      let (x, u, p, q) = un_bind (behind (until n (read_next_frame frame)) done) (frame_tidy frame (next_number done)) m s fs t e in
      let (here, end) = kind_of (next_number done) s x u p in
      by x u here end q (until_kinds n)
    where
      by : (x : Item FrameAt) (u : ℕ) → x ≡ frame_here frame m s → u ≡ frame_end frame m s → at (behind (until n (read_next_frame frame)) done x) m u ≡ accepted fs t
          → ((done : List FrameAt) (s : ℕ) (fs : List FrameAt) (t : ℕ) → at (until n (read_next_frame frame) done) m s ≡ accepted fs t → Behind done s fs) → Behind done s fs
      by (followed a) u here end q ih =
          let r = ih (done ++ (a ∷ [])) u fs t q in
          let l = length-append done (a ∷ []) in
          record { count = suc r.count; many = omega (arith, r.many, l); kinds = (is_regular (final_here m s) (s + 4) a here, subst (λ v. Kinds frame m (suc r.count) v) end r.kinds) }
      by (last a) u here end q ih =
          let w = un_return (done ++ (a ∷ [])) m u fs t q in
          let l = length-append done (a ∷ []) in
          let k = ap length w.0 in
          record { count = 0; many = omega (arith, l, k); kinds = is_final (final_here m s) (s + 4) a here }

  pub frames_kinds : (s : ℕ) (fs : List FrameAt) (t : ℕ) → at (read_frames frame) m s ≡ accepted fs t → Kinds frame m (length fs) s
  unfolding read_frames run at
  frames_kinds s fs t e =
      let r = until_kinds (suc (length (drop s m))) [] s fs t e in
      let c : length fs ≡ suc r.count = omega (arith, r.many) in
      rw c r.kinds
