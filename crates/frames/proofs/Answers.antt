-- A frame that was read, by its kind. Assumes nothing.
use mathlib.Core.Path.{◌≡◌, ◌∙◌}
use Prim.Native.Nat.{ℕ}
use Rattle.std.specs.Prelude.{Result, Ok}
use Rattle.format.specs.Read.{Item, followed, last, Answer, accepted}
use Rattle.format.specs.Frames.{FrameAt}
use Rattle.wire.specs.declared.refusals.Refusal.{Refusal}
use Rattle.wire.specs.declared.SuccessfulRead.{SuccessfulRead}
use Rattle.wire.proofs.Answers.{read_got}
use Rattle.frames.specs.Codes.{kind_of, frame_read_of}
use Rattle.frames.specs.declared.Kind.{Kind}
use Rattle.frames.specs.declared.Kind.TheVariants.{Regular, Final}

pub record IsRegular (o : Answer (Item FrameAt)) (t : ℕ) : Type 0 where
  pub item : FrameAt
  pub is : o ≡ accepted (followed item) t

pub record IsFinal (o : Answer (Item FrameAt)) (t : ℕ) : Type 0 where
  pub item : FrameAt
  pub is : o ≡ accepted (last item) t

module _ (o : Answer (Item FrameAt)) (t : ℕ) where
  regular_of : (x : Item FrameAt) → o ≡ accepted x t → kind_of x ≡ Regular → IsRegular o t
  regular_of (followed f) e k = record { item = f; is = e }
  regular_of (last f) e k = cc

  final_of : (x : Item FrameAt) → o ≡ accepted x t → kind_of x ≡ Final → IsFinal o t
  final_of (followed f) e k = cc
  final_of (last f) e k = record { item = f; is = e }

module _ (o : Answer (Item FrameAt)) (x : Result (SuccessfulRead Kind) Refusal) (is : x ≡ frame_read_of o) (r : SuccessfulRead Kind) (b : x ≡ Ok r) where
  pub regular_got : r.value ≡ Regular → IsRegular o r.tail
  regular_got k = let g = read_got kind_of o x is r b in regular_of o r.tail g.item g.is (g.gives ∙ k)

  pub final_got : r.value ≡ Final → IsFinal o r.tail
  final_got k = let g = read_got kind_of o x is r b in final_of o r.tail g.item g.is (g.gives ∙ k)
