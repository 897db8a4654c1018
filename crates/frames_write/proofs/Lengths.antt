-- Laws of the frame writer's tests and of the length that it tells: in the numbers of a table, they are those of its frames. Assumes nothing.
use mir.Syntax.{w64}
use mir.Val.{Fits}
use Prim.Native.Nat.{ℕ, zero, suc, ◌+◌, ◌*◌, ◌-◌, ◌/◌, ◌%◌, ◌≤◌, ◌<◌}
use native.Mathlib.Nat.{mul-le-mul_right}
use native.Mathlib.Omega.{arith}
use mathlib.Core.Path.{◌≡◌, refl, sym, ap, ap₂, ◌∙◌}
use mathlib.Core.Bool.{true, not}
use mathlib.Core.Option.{none}
use mathlib.Core.List.{List, [], ◌∷◌, ◌++◌, map}
use lib.Dec.{leb, eqb}
use lib.ListN.{length, get_or}
use Rattle.format.specs.Serialize.{every}
use Rattle.format.specs.Frames.{Frame, write_frames}
use Rattle.format.specs.Checks.{Check, check, first, each, frame_checks, content_length, frames_checks}
use Rattle.format.specs.Lent.{items, here, part_in, places, in_text, frame_in, frames_in, table_checks, size_of, writing_frames}
use Rattle.format.specs.FramesWritten.{last_of, FramesToWrite}
use Rattle.format.proofs.Firsts.{holds, first_cong}
use Rattle.format.proofs.Tables.{items_length}
use Rattle.format.proofs.FrameLaws.{frames_length}
use Rattle.format.proofs.FramesWritten.{some_frames, taken}
use Rattle.wire.specs.Stored.{stored}
use Rattle.checks.specs.Answers.{Checked, checked, write_answer_of}
use Rattle.checks.proofs.Stages.{stage_none}
use Rattle.checks.proofs.Parts.{part_here, part_length}
use Rattle.checks.proofs.Writers.{told_none}
use Rattle.frames_write.specs.Table.{sealed_at, content_at, contents_in, lengths_checks, frames_size, FrameThere, FramesReady}
use Rattle.std.specs.Prelude.{Result, Ok}
use Rattle.wire.specs.declared.refusals.Refusal.{Refusal}

-- a frame of a table whose places are inside the text
module _ (text table : List ℕ) (p : every (in_text text table) (places table) ≡ true) where
  pub frame_there : (i at : ℕ) → i < length table / 6 → at ≡ 6 * i → FrameThere text table at
  frame_there i at h e =
      record {
        iv = part_here text table p (3 * i) at (omega arith) (omega arith);
        content = part_here text table p (3 * i + 1) (at + 2) (omega arith) (omega arith);
        tag = part_here text table p (3 * i + 2) (at + 2 + 2) (omega arith) (omega arith);
      }

  lengths_there : (at : ℕ) → FrameThere text table at
      → (length (part_in text table at) ≡ get_or table (at + 1) 0) × (length (part_in text table (at + 2)) ≡ get_or table (at + 3) 0) × (length (part_in text table (at + 2 + 2)) ≡ get_or table (at + 5) 0)
  lengths_there at w =
      let c : at + 2 + 1 ≡ at + 3 = omega arith in
      let t : at + 2 + 2 + 1 ≡ at + 5 = omega arith in
      (part_length text table at w.iv, rw c at (part_length text table (at + 2) w.content), rw t at (part_length text table (at + 2 + 2) w.tag))

  each_same : (n i at : ℕ) → i + n ≤ length table / 6 → at ≡ 6 * i → (done : List Frame) (before : List ℕ)
      → each frame_checks done (items (frame_in text table) 6 n at) ≡ each (sealed_at table) before (items here 6 n at)
  unfolding each items
  each_same zero i at h e done before = refl
  each_same (suc n) i at h e done before =
      let (iv, content, tag) = lengths_there at (frame_there i at (omega arith) e) in
      rw (iv, tag) (ap (λ (cs : List Check). sealed_at table before at ++ cs) (each_same n (suc i) (at + 6) (omega arith) (omega arith) _ _))

  contents_same : (n i at : ℕ) → i + n ≤ length table / 6 → at ≡ 6 * i → map content_length (items (frame_in text table) 6 n at) ≡ items (content_at table) 6 n at
  unfolding items
  contents_same zero i at h e = refl
  contents_same (suc n) i at h e =
      let (iv, content, tag) = lengths_there at (frame_there i at (omega arith) e) in
      ap₂ (λ (x : ℕ) (xs : List ℕ). x ∷ xs) content (contents_same n (suc i) (at + 6) (omega arith) (omega arith))

  contents_are : map content_length (frames_in text table) ≡ contents_in table
  contents_are = contents_same (length table / 6) 0 0 (omega arith) refl

counted : (text table : List ℕ) → length (frames_in text table) ≡ length table / 6
counted text table = items_length (frame_in text table) 6 (length table / 6) 0

-- the tests, in numbers
abbrev pub table_numbers : ℕ → List ℕ → List ℕ → List Check
table_numbers frame text table =
    check 20 (not (eqb frame 0))
    ∷ check 26 (eqb (length table % 6) 0)
    ∷ check 26 (every (in_text text table) (places table))
    ∷ check 36 (not (eqb (length table / 6) 0))
    ∷ check 27 (leb (length table / 6) 65535)
    ∷ lengths_checks frame table

module _ (frame : ℕ) (text table : List ℕ) where
  in_numbers : first (writing_frames frame text table).checks ≡ first (table_numbers frame text table)
  unfolding writing_frames frames_checks table_checks
  in_numbers =
      first_cong (check 20 (not (eqb frame 0)) ∷ table_checks 6 text table) _ _ λ e.
      let (t20, (whole, (inside, u))) = holds (check 20 (not (eqb frame 0)) ∷ table_checks 6 text table) e in
      rw (counted text table, each_same text table inside (length table / 6) 0 0 (omega arith) refl [] [], contents_are text table inside) refl

  pub frames_checked : (r : Checked) → r ≡ checked (first (table_numbers frame text table)) → r ≡ checked (first (writing_frames frame text table).checks)
  frames_checked r e = e ∙ sym (ap checked in_numbers)

-- the length told
last_item : (f : ℕ → ℕ) (n at : ℕ) → last_of (items f 6 (suc n) at) ≡ f (at + 6 * n)
unfolding last_of items
last_item f zero at = ap f (omega arith)
last_item f (suc n) at = last_item f n (at + 6) ∙ ap f (omega arith)

-- 65,535 contents of 4,294,967,295 bytes do not wrap
product_small : (n frame : ℕ) → n ≤ 65534 → frame < 4294967296 → n * (32 + frame) ≤ 281474974613504
product_small n frame h g = let p = mul-le-mul_right (32 + frame) h in omega arith

module _ (frame : ℕ) (table : List ℕ) where
  module _ (few : length table / 6 ≤ 65535) (below : frame < 4294967296) where
    small : (length table / 6 - 1) * (32 + frame) ≤ 281474974613504
    small = product_small (length table / 6 - 1) frame (omega arith) below

    pub product_fits : Fits w64 ((length table / 6 - 1) * (32 + frame))
    product_fits = record { fits = omega (arith, small) }

    pub sum_fits : (l : ℕ) → l < 4294967296 → Fits w64 ((length table / 6 - 1) * (32 + frame) + (40 + l))
    sum_fits l h = record { fits = omega (arith, small) }

  pub size_is : 0 < length table / 6 → (l : ℕ) → l ≡ get_or table (6 * (length table / 6 - 1) + 3) 0 → (length table / 6 - 1) * (32 + frame) + (40 + l) ≡ frames_size frame table
  unfolding frames_size
  size_is h l e =
      let n : length table / 6 ≡ suc (length table / 6 - 1) = omega arith in
      let z : last_of (contents_in table) ≡ get_or table (6 * (length table / 6 - 1) + 3) 0 = rw n (last_item (content_at table) (length table / 6 - 1) 0 ∙ ap (λ (k : ℕ). get_or table (k + 3) 0) (omega arith)) in
      rw (z, e) refl

-- what tests that passed give
module _ (frame : ℕ) (text table : List ℕ) (passes : first (writing_frames frame text table).checks ≡ none) where
  record Taken : Type 0 where
    frames : FramesToWrite frame (frames_in text table)
    inside : every (in_text text table) (places table) ≡ true
    some : 0 < length table / 6
    few : length table / 6 ≤ 65535

  is_taken : Taken
  unfolding writing_frames table_checks
  is_taken =
      let (w, t) = taken frame (table_checks 6 text table) (frames_in text table) passes in
      let (whole, (inside, u)) = holds (table_checks 6 text table) t in
      let n = counted text table in
      let some = some_frames frame (frames_in text table) w.frames in
      record { frames = w; inside = inside; some = omega arith; few = omega (arith, w.few) }

  long : length (writing_frames frame text table).image ≡ frames_size frame table
  unfolding writing_frames frames_size
  long =
      let t = is_taken in
      let n : length (frames_in text table) ≡ suc (length table / 6 - 1) = (let k = counted text table in omega (arith, t.some)) in
      rw (← contents_are text table t.inside) (frames_length frame 1 (length table / 6 - 1) (frames_in text table) t.frames.frames n)

module _ (frame : ℕ) (text table : List ℕ) (c : Checked) (is : c ≡ checked (first (writing_frames frame text table).checks)) (e : c ≡ Ok tt) where
  pub size_some : 0 < length table / 6
  size_some = (is_taken frame text table (stage_none _ c is e)).some

  pub size_few : length table / 6 ≤ 65535
  size_few = (is_taken frame text table (stage_none _ c is e)).few

  pub size_long : (w : ℕ) → w ≡ frame → (n : ℕ) → n ≡ frames_size w table → n ≡ length (writing_frames frame text table).image
  size_long w f n q = q ∙ rw f (sym (long frame text table (stage_none _ c is e)))

-- what a length that was told gives the stores
module _ (frame : ℕ) (text table : List ℕ) where
  pub sized_ready : (s : Result ℕ Refusal) → s ≡ write_answer_of (size_of (writing_frames frame text table)) → (n : ℕ) → s ≡ Ok n → (room : ℕ) → n ≤ room → FramesReady text table room
  unfolding writing_frames
  sized_ready s is n e room h =
      let (p, d) = told_none (writing_frames frame text table) s is n e in
      let t = is_taken frame text table p in
      record { inside = t.inside; some = t.some; few = t.few; fits = rw d at h }

  pub image_stored : (out after : List ℕ) → after ≡ stored out 0 (write_frames (frames_in text table)) → after ≡ stored out 0 (writing_frames frame text table).image
  unfolding writing_frames
  image_stored out after q = q
