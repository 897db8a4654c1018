-- Frames are read exactly as they are written. Assumes nothing.
use mathlib.Core.Path.{◌≡◌, refl, ap}
use mathlib.Core.Bool.{Bool, true, false}
use mathlib.Core.List.{List, [], ◌∷◌, ◌++◌, append-nil}
use Prim.Native.Nat.{ℕ, suc, ◌+◌, ◌≤◌, ◌<◌}
use native.Mathlib.Omega.{arith}
use lib.Dec.{leb, eqb}
use lib.ListN.{length, length-append}
use Rattle.format.specs.Read.{Item, followed, last}
use Rattle.format.specs.Serialize.{Part, write_uint32}
use Rattle.format.specs.Shared.{iv_length, tag_length}
use Rattle.format.specs.Frames.{Frame, FrameAt, final_mark, next_number, write_regular_frame, write_final_frame, write_frames_from, read_sealed, read_frame_of, read_frame, read_next_frame, read_frames}
use Rattle.format.specs.FrameLaws.{Sealed}
use Rattle.format.proofs.Tests.{leb_is, is_leb, eqb_is, is_nleb, is_eqb, neqb_is, never}
use Rattle.format.proofs.Exact.{Exact, seq_exact, check_exact, give_exact, revalue}
use Rattle.format.proofs.Serialize.{read_exact, uint32_exact, length_uint32, part_at, Sized}
use Rattle.format.proofs.RunsExact.{alike, RunOk, run_image, run_puts, run_exact}

-- content and tag, behind an IV
sealed_exact : (iv : Part) (n : ℕ) → Exact (read_sealed iv n) (λ (w : List ℕ × List ℕ). Sized n w.0 × Sized tag_length w.1) (λ w. w.0 ++ w.1)
    (λ s w. record { iv = iv; content = part_at s w.0; tag = part_at (s + length w.0) w.1 })
unfolding read_sealed
sealed_exact iv n =
    revalue (λ (w : List ℕ × List ℕ). Sized n w.0 × Sized tag_length w.1) (λ w. w.0 ++ w.1) (λ s w. record { iv = iv; content = part_at s w.0; tag = part_at (s + length w.0) w.1 })
    (seq_exact _ (read_exact n) λ s c. seq_exact _ (read_exact tag_length) λ t tag. give_exact _)
    (λ w o. ((w.0, w.1.0), (o.0, o.1.0), simp append-nil, λ s. refl))
    (λ w o. ((w.0, (w.1, tt)), (o.0, (o.1, tt)), simp append-nil, λ s. refl))

-- an IV at one place, content and tag at another
abbrev pub sealed_at : ℕ → ℕ → Frame → FrameAt
sealed_at iv s f = record { iv = part_at iv f.iv; content = part_at s f.content; tag = part_at (s + length f.content) f.tag }

-- A final frame behind the mark, where that sequence number is due; the numbers fit their four bytes
pub record FinalOk (frame due : ℕ) (f : Frame) : Type 0 where
  pub sealed : Sealed f
  pub at_most : length f.content ≤ frame
  pub due_fits : due < 4294967296
  pub length_fits : length f.content < 4294967296

abbrev final_rest : ℕ → Frame → List ℕ
final_rest due f = write_uint32 due ++ (f.iv ++ (write_uint32 (length f.content) ++ (f.content ++ f.tag)))

abbrev pub final_at : ℕ → Frame → FrameAt
final_at s f = sealed_at (s + 4) (s + 4 + length f.iv + 4) f

final_exact : (frame due mark : ℕ) → Exact (read_frame_of frame due true mark) (FinalOk frame due) (final_rest due) (λ s f. last (final_at s f))
unfolding read_frame_of
final_exact frame due mark =
    revalue (FinalOk frame due) (final_rest due) (λ s f. last (final_at s f))
    (seq_exact _ uint32_exact λ s number. check_exact 34 _ (seq_exact _ (read_exact iv_length) λ s iv. seq_exact _ uint32_exact λ s n. check_exact 35 _ (seq_exact _ (sealed_exact (part_at _ iv) n) λ s w. give_exact _)))
    (λ (w, (iv, (n, ((content, tag), u)))) (fits, (is, (iv_long, (n_fits, (most, ((long, tag_long), v)))))).
    let due_is : w ≡ due = is_eqb w due is in
    let n_is : length content ≡ n = long in
    let n_most : n ≤ frame = is_leb n frame most in (
      record { iv = iv; content = content; tag = tag },
      record { sealed = record { iv = iv_long; tag = tag_long }; at_most = omega arith; due_fits = omega arith; length_fits = omega arith },
      rw (due_is, n_is, append-nil) refl,
      λ s. rw (length_uint32 w, length_uint32 n) refl,
    ))
    (λ f o. (
      (due, (f.iv, (length f.content, ((f.content, f.tag), tt)))),
      (o.due_fits, (eqb_is due due refl, (o.sealed.iv, (o.length_fits, (leb_is _ _ o.at_most, ((refl, o.sealed.tag), tt)))))),
      rw append-nil refl,
      λ s. rw (length_uint32 due, length_uint32 (length f.content)) refl,
    ))

-- a regular frame behind its number
record RegularOk (frame due number : ℕ) (f : Frame) : Type 0 where
  sealed : Sealed f
  exactly : length f.content ≡ frame
  due_is : number ≡ due

abbrev regular_rest : Frame → List ℕ
regular_rest f = f.iv ++ (f.content ++ f.tag)

abbrev pub regular_at : ℕ → Frame → FrameAt
regular_at s f = sealed_at s (s + length f.iv) f

regular_exact : (frame due number : ℕ) → Exact (read_frame_of frame due false number) (RegularOk frame due number) regular_rest (λ s f. followed (regular_at s f))
unfolding read_frame_of
regular_exact frame due number =
    revalue (RegularOk frame due number) regular_rest (λ s f. followed (regular_at s f))
    (check_exact 34 _ (seq_exact _ (read_exact iv_length) λ s iv. seq_exact _ (sealed_exact (part_at s iv) frame) λ s w. give_exact _))
    (λ w o. (
      record { iv = w.0; content = w.1.0.0; tag = w.1.0.1 },
      record { sealed = record { iv = o.1.0; tag = o.1.1.0.1 }; exactly = o.1.1.0.0; due_is = is_eqb number due o.0 },
      rw append-nil refl,
      λ s. refl,
    ))
    (λ f o. ((f.iv, ((f.content, f.tag), tt)), (eqb_is number due o.due_is, (o.sealed.iv, ((o.exactly, o.sealed.tag), tt))), rw append-nil refl, λ s. refl))

-- of either kind; true: the first number was the mark
abbrev KindOk : ℕ → ℕ → Bool → ℕ → Item Frame → Type 0
KindOk frame due true mark (last f) = FinalOk frame due f
KindOk frame due true mark (followed f) = ⊥
KindOk frame due false number (last f) = ⊥
KindOk frame due false number (followed f) = RegularOk frame due number f

abbrev kind_rest : ℕ → Item Frame → List ℕ
kind_rest due (last f) = final_rest due f
kind_rest due (followed f) = regular_rest f

abbrev pub kind_at : ℕ → Item Frame → FrameAt
kind_at s (last f) = final_at s f
kind_at s (followed f) = regular_at s f

kind_exact : (frame due : ℕ) (final : Bool) (number : ℕ) → Exact (read_frame_of frame due final number) (KindOk frame due final number) (kind_rest due) (λ s x. alike x (kind_at s x))
kind_exact frame due true mark =
    revalue (KindOk frame due true mark) (kind_rest due) (λ s x. alike x (kind_at s x)) (final_exact frame due mark) (λ f o. (last f, o, refl, λ s. refl)) back
  where
    back : (x : Item Frame) → KindOk frame due true mark x → (f : Frame) × FinalOk frame due f × (kind_rest due x ≡ final_rest due f) × ((s : ℕ) → alike x (kind_at s x) ≡ last (final_at s f))
    back (last f) o = (f, o, refl, λ s. refl)
    back (followed f) o = absurd o
kind_exact frame due false number =
    revalue (KindOk frame due false number) (kind_rest due) (λ s x. alike x (kind_at s x)) (regular_exact frame due number) (λ f o. (followed f, o, refl, λ s. refl)) back
  where
    back : (x : Item Frame) → KindOk frame due false number x → (f : Frame) × RegularOk frame due number f × (kind_rest due x ≡ regular_rest f) × ((s : ℕ) → alike x (kind_at s x) ≡ followed (regular_at s f))
    back (last f) o = absurd o
    back (followed f) o = (f, o, refl, λ s. refl)

-- A frame behind i others. The mark is no number of a regular one.
pub record InnerOk (frame i : ℕ) (f : Frame) : Type 0 where
  pub sealed : Sealed f
  pub exactly : length f.content ≡ frame
  pub below_mark : suc i < 4294967295

abbrev pub FrameOk : ℕ → ℕ → Item Frame → Type 0
FrameOk frame i (last f) = FinalOk frame (suc i) f
FrameOk frame i (followed f) = InnerOk frame i f

abbrev pub frame_image : ℕ → Item Frame → List ℕ
frame_image i (last f) = write_final_frame (suc i) f
frame_image i (followed f) = write_regular_frame (suc i) f

abbrev pub frame_at : ℕ → Item Frame → FrameAt
frame_at s x = kind_at (s + 4) x

module _ (frame i : ℕ) where
  forth : (number : ℕ) (final : Bool) → eqb number final_mark ≡ final → number < 4294967296 → (x : Item Frame) → KindOk frame (suc i) final number x
      → (y : Item Frame) × FrameOk frame i y × (write_uint32 number ++ kind_rest (suc i) x ≡ frame_image i y) × ((s : ℕ) → alike x (kind_at (s + length (write_uint32 number)) x) ≡ alike y (frame_at s y))
  unfolding write_final_frame write_regular_frame
  forth number true e fits (last f) o = (last f, o, ap (λ n. write_uint32 n ++ final_rest (suc i) f) (is_eqb number final_mark e), λ s. rw length_uint32 refl)
  forth number true e fits (followed f) o = absurd o
  forth number false e fits (last f) o = absurd o
  forth number false e fits (followed f) o =
      let due : number ≡ suc i = o.due_is in
      let small : number < 4294967295 = below number fits e in
      (followed f, record { sealed = o.sealed; exactly = o.exactly; below_mark = omega arith }, ap (λ n. write_uint32 n ++ regular_rest f) due, λ s. rw length_uint32 refl)
    where
      below : (number : ℕ) → number < 4294967296 → eqb number 4294967295 ≡ false → number < 4294967295
      below number fits e = by (leb number 4294967294) refl
        where
          by : (b : Bool) → leb number 4294967294 ≡ b → number < 4294967295
          by true q = let z = is_leb number 4294967294 q in omega arith
          by false q = let z = is_nleb number 4294967294 q in never (eqb_is number 4294967295 (omega arith)) e

  back : (x : Item Frame) → FrameOk frame i x
      → (w : ℕ × Item Frame) × ((w.0 < 4294967296) × KindOk frame (suc i) (eqb w.0 final_mark) w.0 w.1) × (frame_image i x ≡ write_uint32 w.0 ++ kind_rest (suc i) w.1)
      × ((s : ℕ) → alike x (frame_at s x) ≡ alike w.1 (kind_at (s + length (write_uint32 w.0)) w.1))
  unfolding write_final_frame write_regular_frame
  back (last f) o = ((final_mark, last f), (omega arith, o), refl, λ s. rw length_uint32 refl)
  back (followed f) o =
      let d = o.below_mark in
      let not_mark : eqb (suc i) final_mark ≡ false = neqb_is (suc i) final_mark (λ z. omega arith) in
      ((suc i, followed f), (omega arith, rw not_mark (record { sealed = o.sealed; exactly = o.exactly; due_is = refl })), refl, λ s. rw length_uint32 refl)

frame_exact : (frame : ℕ) (done : List FrameAt) → Exact (read_next_frame frame done) (FrameOk frame (length done)) (frame_image (length done)) (λ s x. alike x (frame_at s x))
unfolding read_frame
frame_exact frame done =
    revalue (FrameOk frame (length done)) (frame_image (length done)) (λ s x. alike x (frame_at s x))
    (seq_exact _ uint32_exact λ s number. kind_exact frame (next_number done) (eqb number final_mark) number)
    (λ w o. forth frame (length done) w.0 (eqb w.0 final_mark) refl o.0 w.1 o.1)
    (back frame (length done))

-- the frames
some_bytes : (frame i : ℕ) (x : Item Frame) → FrameOk frame i x → 0 < length (frame_image i x)
unfolding write_final_frame write_regular_frame
some_bytes frame i (last f) o = rw (length-append (write_uint32 final_mark), length_uint32) (omega arith)
some_bytes frame i (followed f) o = rw (length-append (write_uint32 (suc i)), length_uint32) (omega arith)

pub frames_exact : (frame : ℕ) → Exact (read_frames frame) (RunOk (FrameOk frame) 0) (run_image frame_image 0) (run_puts frame_image frame_at 0)
unfolding read_frames
frames_exact frame = run_exact (FrameOk frame) frame_image frame_at (read_next_frame frame) (frame_exact frame) (some_bytes frame) []

pub images_are : (i : ℕ) (fs : List Frame) → run_image frame_image i fs ≡ write_frames_from (suc i) fs
unfolding run_image write_frames_from
images_are i [] = refl
images_are i (f ∷ []) = refl
images_are i (f ∷ g ∷ fs) = ap (λ l. write_regular_frame (suc i) f ++ l) (images_are (suc i) (g ∷ fs))
