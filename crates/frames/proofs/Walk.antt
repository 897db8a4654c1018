-- The loop over frames: what is left, read from here, is the whole, read from the start. Assumes nothing.
use mathlib.Core.Path.{◌≡◌, refl, sym, ap, ◌∙◌}
use mathlib.Core.List.{List, [], ◌∷◌, ◌++◌}
use Prim.Native.Nat.{ℕ, ◌+◌, ◌≤◌, ◌<◌}
use native.Mathlib.Omega.{arith}
use lib.ListN.{length, length-append}
use Rattle.std.specs.Prelude.{Result, Ok, Err}
use Rattle.format.specs.Read.{followed, at, run}
use Rattle.format.specs.Frames.{FrameAt, next_number, read_frame, read_next_frame, read_frames}
use Rattle.format.proofs.Frames.{frames_unbounded}
use Rattle.steps.proofs.Runs.{run_more, run_ends, run_stops}
use Rattle.wire.specs.declared.refusals.Refusal.{Refusal}
use Rattle.wire.specs.declared.SuccessfulRead.{SuccessfulRead}
use Rattle.wire.proofs.Answers.{read_no}
use Rattle.entries.specs.Codes.{counted}
use Rattle.frames.specs.Codes.{kind_of, frame_read_of}
use Rattle.frames.specs.declared.Kind.{Kind}
use Rattle.frames.specs.declared.Kind.TheVariants.{Regular, Final}
use Rattle.frames.proofs.Known.{frame_tidy, frame_further}
use Rattle.frames.proofs.Answers.{regular_got, final_got}

-- the frames before this number were read from `first` to s
pub record Walk (frame : ℕ) (m : List ℕ) (first number s : ℕ) : Type 0 where
  pub frames : List FrameAt
  pub due : next_number frames ≡ number
  pub few : number ≤ s + 1
  pub near : s < 4294967296
  pub left : at (read_frames frame) m first ≡ at (run (read_next_frame frame) frames) m s

pub walk_start : (frame : ℕ) (m : List ℕ) (first : ℕ) → first < 4294967296 → Walk frame m first 1 first
unfolding read_frames
walk_start frame m first h = record { frames = []; due = omega arith; few = omega arith; near = h; left = refl }

module _ (frame : ℕ) (m : List ℕ) (first number s : ℕ) (w : Walk frame m first number s) where
  pub walk_near : s < 4294967296
  walk_near = w.near

  module _ (x : Result (SuccessfulRead Kind) Refusal) (xIs : x ≡ frame_read_of (at (read_frame frame number) m s)) where
    step : at (read_next_frame frame w.frames) m s ≡ at (read_frame frame number) m s
    step = ap (λ n. at (read_frame frame n) m s) w.due

    module _ (r : SuccessfulRead Kind) (b : x ≡ Ok r) where
      pub walk_more : r.value ≡ Regular → length m < 4294967296 → Walk frame m first (number + 1) r.tail
      walk_more k h =
          let g = regular_got (at (read_frame frame number) m s) x xIs r b k in
          let z = frame_further frame number m s (followed g.item) r.tail g.is in
          let e = length-append w.frames (g.item ∷ []) in
          record {
            frames = w.frames ++ (g.item ∷ []);
            due = omega (arith, e, w.due);
            few = omega (arith, z.further, w.few);
            near = omega (arith, z.within);
            left = w.left ∙ run_more (read_next_frame frame) (λ d. frame_tidy frame (next_number d)) (frames_unbounded frame) m w.frames s g.item r.tail (step ∙ g.is);
          }

      -- any other ends them
      pub walk_final : r.value ≡ Final → ◌≡◌ {A = Result (SuccessfulRead ℕ) Refusal} (Ok (record { value = number; tail = r.tail })) (counted (at (read_frames frame) m first))
      walk_final k =
          let g = final_got (at (read_frame frame number) m s) x xIs r b k in
          let e = length-append w.frames (g.item ∷ []) in
          let many : number ≡ length (w.frames ++ (g.item ∷ [])) = omega (arith, e, w.due) in
          ap (λ n. Ok (record { value = n; tail = r.tail })) many
          ∙ sym (ap counted (w.left ∙ run_ends (read_next_frame frame) (λ d. frame_tidy frame (next_number d)) (frames_unbounded frame) m w.frames s g.item r.tail (step ∙ g.is)))

    pub walk_not : (q : Refusal) → x ≡ Err q → ◌≡◌ {A = Result (SuccessfulRead ℕ) Refusal} (Err q) (counted (at (read_frames frame) m first))
    walk_not q b =
        let z = read_no kind_of (at (read_frame frame number) m s) x xIs q b in
        sym (ap counted (w.left ∙ run_stops (read_next_frame frame) (λ d. frame_tidy frame (next_number d)) (frames_unbounded frame) m w.frames s q.number q.position (step ∙ z)))
