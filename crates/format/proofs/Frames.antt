-- The frames go by their list, refuse by their numbers and want what is near; and they have no bound but the bytes. Assumes nothing.
use mathlib.Core.Path.{refl}
use mathlib.Core.Bool.{Bool, true, false}
use mathlib.Core.List.{[], ◌∷◌}
use Prim.Native.Nat.{ℕ, ◌+◌, ◌≤◌, ◌<◌}
use native.Mathlib.Omega.{arith}
use lib.Dec.{leb}
use Rattle.format.specs.Serialize.{Part}
use Rattle.format.specs.Shared.{iv_length, tag_length}
use Rattle.format.specs.Frames.{next_number, read_sealed, read_frame_of, read_frame, read_next_frame, read_frames, read_frames_into}
use Rattle.format.specs.Places.{part_of, frame_of_here, frame_of_end, frame_here, frame_end, frames_here, frames_end}
use Rattle.format.specs.First.{lacks, frame_list_of, frame_list, frames_list, frames_into_list}
use Rattle.format.specs.FrameLaws.{Unbounded}
use Rattle.format.proofs.Tests.{is_leb}
use Rattle.format.proofs.Lines.{Goes, return_goes, bind_goes, test_goes, not_goes, read_goes}
use Rattle.format.proofs.First.{uint32_goes}
use Rattle.format.proofs.ListedLaws.{Listed, listed_as, bind_listed, then_listed, return_listed, test_listed, read_listed, uint32_listed}
use Rattle.format.proofs.WantedLaws.{Any, Wants, bind_wants, then_wants, return_wants, test_wants, tested_wants, read_wants, uint32_wants}
use Rattle.format.proofs.Takes.{Takes, any_takes, fewer_takes, return_takes, test_takes, bind_takes, read_takes, uint32_takes}
use Rattle.format.proofs.Runs.{run_goes, run_listed, run_wants, run_unbounded}

-- by their list
sealed_goes : (iv : Part) (n : ℕ)
    → Goes (read_sealed iv n) (λ m s. lacks n m s ∷ lacks 16 m (s + n) ∷ []) (λ m s. record { iv = iv; content = part_of m s n; tag = part_of m (s + n) 16 }) (λ m s. s + n + 16)
unfolding read_sealed
sealed_goes iv n = bind_goes (read_goes n) (λ c. bind_goes (read_goes 16) (λ t. return_goes _))

frame_of_goes : (frame due : ℕ) (final : Bool) (number : ℕ) → Goes (read_frame_of frame due final number) (frame_list_of frame due final number) (frame_of_here frame final) (frame_of_end frame final)
unfolding read_frame_of frame_list_of frame_of_here frame_of_end
frame_of_goes frame due true mark =
    bind_goes uint32_goes (λ number. test_goes 34 _ (bind_goes (read_goes 12) (λ iv. bind_goes uint32_goes (λ n. test_goes 35 _ (bind_goes (sealed_goes iv n) (λ f. return_goes _))))))
frame_of_goes frame due false number = test_goes 34 _ (bind_goes (read_goes 12) (λ iv. bind_goes (sealed_goes iv frame) (λ f. return_goes _)))

pub frame_goes : (frame due : ℕ) → Goes (read_frame frame due) (frame_list frame due) (frame_here frame) (frame_end frame)
unfolding read_frame frame_list
frame_goes frame due = bind_goes uint32_goes (λ number. frame_of_goes frame due _ number)

pub frames_goes : (frame : ℕ) → Goes (read_frames frame) (frames_list frame) (frames_here frame) (frames_end frame)
unfolding read_frames frames_list
frames_goes frame = run_goes (λ done. frame_goes frame (next_number done)) []

pub frames_into_goes : (frame room : ℕ) → Goes (read_frames_into frame room) (frames_into_list frame room) (frames_here frame) (frames_end frame)
unfolding read_frames_into frames_into_list
frames_into_goes frame room = not_goes 20 _ (bind_goes (frames_goes frame) (λ fs. test_goes 23 _ (return_goes fs)))

-- by their refusals
sealed_listed : (iv : Part) (n : ℕ) → Listed [] (read_sealed iv n)
unfolding read_sealed
sealed_listed iv n = bind_listed (read_listed n) (λ c. bind_listed (read_listed _) (λ t. return_listed _))

frame_of_listed : (frame due : ℕ) (final : Bool) (number : ℕ) → Listed (34 ∷ 35 ∷ []) (read_frame_of frame due final number)
unfolding read_frame_of
frame_of_listed frame due true mark =
    bind_listed uint32_listed (λ number. then_listed (test_listed 34 _) (bind_listed (read_listed _) (λ iv. bind_listed uint32_listed (λ n.
    then_listed (test_listed 35 _) (bind_listed (sealed_listed iv n) (λ f. return_listed _))))))
frame_of_listed frame due false number =
    listed_as (34 ∷ 35 ∷ []) refl (then_listed (test_listed 34 _) (bind_listed (read_listed _) (λ iv. bind_listed (sealed_listed iv frame) (λ f. return_listed _))))

pub frame_listed : (frame due : ℕ) → Listed (34 ∷ 35 ∷ []) (read_frame frame due)
unfolding read_frame
frame_listed frame due = bind_listed uint32_listed (λ number. frame_of_listed frame due _ number)

pub frames_into_listed : (frame room : ℕ) → Listed (20 ∷ 34 ∷ 35 ∷ 23 ∷ []) (read_frames_into frame room)
unfolding read_frames_into read_frames
frames_into_listed frame room = then_listed (test_listed 20 _) (bind_listed (run_listed (λ done. frame_listed frame (next_number done)) []) (λ fs. then_listed (test_listed 23 _) (return_listed _)))

-- by what they want: at most a tag or the content
module _ (frame b : ℕ) (tags : 16 < b) (contents : frame < b) where
  sealed_wants : (iv : Part) (n : ℕ) → n ≤ frame → Wants b Any (read_sealed iv n)
  unfolding read_sealed
  sealed_wants iv n h = bind_wants (read_wants n (omega arith)) (λ c g. bind_wants (read_wants tag_length tags) (λ t g. return_wants _))

  frame_of_wants : (due : ℕ) (final : Bool) (number : ℕ) → Wants b Any (read_frame_of frame due final number)
  unfolding read_frame_of
  frame_of_wants due true mark =
      bind_wants (uint32_wants (omega arith)) (λ number g. then_wants (test_wants 34 _) (bind_wants (read_wants iv_length (omega arith)) (λ iv g.
      bind_wants (uint32_wants (omega arith)) (λ n g. tested_wants 35 (leb n frame) (λ e. bind_wants (sealed_wants iv n (is_leb n frame e)) (λ f g. return_wants _))))))
  frame_of_wants due false number =
      then_wants (test_wants 34 _) (bind_wants (read_wants iv_length (omega arith)) (λ iv g. bind_wants (sealed_wants iv frame (omega arith)) (λ f g. return_wants _)))

  frame_wants : (due : ℕ) → Wants b Any (read_frame frame due)
  unfolding read_frame
  frame_wants due = bind_wants (uint32_wants (omega arith)) (λ number g. frame_of_wants due _ number)

  pub frames_into_wants : (room : ℕ) → Wants b Any (read_frames_into frame room)
  unfolding read_frames_into read_frames
  frames_into_wants room =
      then_wants (test_wants 20 _) (bind_wants (run_wants (omega arith) (λ done. frame_wants (next_number done)) []) (λ fs g. then_wants (test_wants 23 _) (return_wants _)))

-- and each takes a byte at least: its first number has four
sealed_takes : (iv : Part) (n : ℕ) → Takes 0 (read_sealed iv n)
unfolding read_sealed
sealed_takes iv n = bind_takes (any_takes (read_takes n)) (λ c. bind_takes (any_takes (read_takes tag_length)) (λ t. return_takes _))

frame_of_takes : (frame due : ℕ) (final : Bool) (number : ℕ) → Takes 0 (read_frame_of frame due final number)
unfolding read_frame_of
frame_of_takes frame due true mark =
    bind_takes (any_takes uint32_takes) (λ number. test_takes 34 _ (bind_takes (any_takes (read_takes iv_length)) (λ iv. bind_takes (any_takes uint32_takes) (λ n.
    test_takes 35 _ (bind_takes (sealed_takes iv n) (λ f. return_takes _))))))
frame_of_takes frame due false number = test_takes 34 _ (bind_takes (any_takes (read_takes iv_length)) (λ iv. bind_takes (sealed_takes iv frame) (λ f. return_takes _)))

pub frame_takes : (frame due : ℕ) → Takes 1 (read_frame frame due)
unfolding read_frame
frame_takes frame due = fewer_takes (bind_takes uint32_takes (λ number. frame_of_takes frame due _ number)) (omega arith)

pub frames_unbounded : (frame : ℕ) → Unbounded (read_next_frame frame)
frames_unbounded frame = run_unbounded (λ done. frame_takes frame (next_number done)) (λ done. frame_listed frame (next_number done))
