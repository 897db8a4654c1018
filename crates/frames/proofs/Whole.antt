-- The ways out of the reader of frames with their table, one law each. Assumes nothing.
use mathlib.Core.Path.{◌≡◌, refl, sym, ap, ap₂, ◌∙◌}
use mathlib.Core.Bool.{not}
use mathlib.Core.List.{List, [], ◌∷◌, ◌++◌}
use Prim.Native.Nat.{ℕ, zero, suc, ◌/◌, ◌≤◌, ◌<◌}
use native.Mathlib.Omega.{arith}
use lib.ListN.{length}
use borrow.Author.Tests.{eq-eqb, ne_eqb}
use Rattle.format.specs.Read.{Item, followed, last, item, accepted, at}
use Rattle.format.specs.Serialize.{images}
use Rattle.format.specs.Frames.{FrameAt, read_frames, read_frames_into}
use Rattle.format.specs.Lent.{filled, frame_numbers}
use Rattle.format.specs.Places.{with_item, run_here, behind_item, run_end, run_bound, items_here, items_end, frame_here, frame_end, frames_here, frames_end}
use Rattle.format.proofs.Lines.{goes_accepted, goes_ended}
use Rattle.format.proofs.Frames.{frames_goes}
use Rattle.steps.proofs.Steps.{pass, fail}
use Rattle.std.specs.Prelude.{Result, Ok, Err}
use Rattle.wire.specs.Codes.{because}
use Rattle.wire.specs.declared.refusals.Refusal.{Refusal}
use Rattle.wire.specs.declared.SuccessfulRead.{SuccessfulRead}
use Rattle.entries.specs.Codes.{Reads, counted}
use Rattle.entries.proofs.Sections.{counted_got, tabled_not, tabled_short, tabled_whole}
use Rattle.entries.proofs.Tables.{refuses}
use Rattle.frames.specs.Codes.{frames_tabled, parts_here, part_numbers, Kinds}
use Rattle.frames.proofs.Known.{frames_tidy, frames_within, frames_kinds}

abbrev Number : Type 0
Number = Result (SuccessfulRead ℕ) Refusal

-- a run's items, counted, and where they end
module _ {A : Type 0} (here : List ℕ → ℕ → Item A) (end : List ℕ → ℕ → ℕ) (m : List ℕ) where
  abbrev items : ℕ → ℕ → List A
  items n s = items_here (λ m s. item (here m s)) end m n s

  one_item : (s : ℕ) (x : Item A) → here m s ≡ x → (rest : List A) → rest ≡ items (length rest) (end m s) → with_item x rest ≡ items (length (with_item x rest)) s
  unfolding items_here
  one_item s (followed a) e rest ih = ap₂ (λ (b : A) (l : List A). b ∷ l) (sym (ap item e)) ih
  one_item s (last a) e rest ih = ap (λ (b : A). b ∷ []) (sym (ap item e))

  run_items : (k s : ℕ) → run_here here end m k s ≡ items (length (run_here here end m k s)) s
  unfolding run_here items_here
  run_items zero s = refl
  run_items (suc k) s = one_item s (here m s) refl (run_here here end m k (end m s)) (run_items k (end m s))

  one_end : (s : ℕ) (x : Item A) (rest : List A) (t : ℕ) → t ≡ items_end end m (length rest) (end m s) → behind_item x (end m s) t ≡ items_end end m (length (with_item x rest)) s
  unfolding items_end
  one_end s (followed a) rest t ih = ih
  one_end s (last a) rest t ih = refl

  run_ended : (k s : ℕ) → run_end here end m k s ≡ items_end end m (length (run_here here end m k s)) s
  unfolding run_end run_here items_end
  run_ended zero s = refl
  run_ended (suc k) s = one_end s (here m s) (run_here here end m k (end m s)) (run_end here end m k (end m s)) (run_ended k (end m s))

-- the six numbers of each, one behind the other
numbers_of : (fs : List FrameAt) → frame_numbers fs ≡ images part_numbers fs
unfolding images
numbers_of [] = refl
numbers_of (f ∷ fs) = ap (λ (l : List ℕ). part_numbers f ++ l) (numbers_of fs)

-- frames that were read stand there, and end within the message
module _ (frame : ℕ) (m : List ℕ) (start : ℕ) (fs : List FrameAt) (t : ℕ) (is : at (read_frames frame) m start ≡ accepted fs t) where
  frames_are : fs ≡ items_here (parts_here frame) (frame_end frame) m (length fs) start
  frames_are = let e : fs ≡ frames_here frame m start = goes_accepted (frames_goes frame) m start fs t is in rw (← e) at (run_items (frame_here frame) (frame_end frame) m (run_bound m start) start)

  frames_ended : t ≡ items_end (frame_end frame) m (length fs) start
  frames_ended =
      let e : fs ≡ frames_here frame m start = goes_accepted (frames_goes frame) m start fs t is in
      let d : t ≡ frames_end frame m start = goes_ended (frames_goes frame) m start fs t is in
      d ∙ (rw (← e) at (run_ended (frame_here frame) (frame_end frame) m (run_bound m start) start))

module _ (frame : ℕ) (m : List ℕ) (start : ℕ) (a : Number) (aIs : a ≡ counted (at (read_frames frame) m start)) where
  module _ (r : SuccessfulRead ℕ) (b : a ≡ Ok r) where
    pub frames_inside : 0 < r.value → items_end (frame_end frame) m r.value start ≤ length m
    frames_inside h =
        let c = counted_got (at (read_frames frame) m start) a aIs r b in
        let e = frames_ended frame m start c.items r.tail c.is in
        let w = frames_within frame m start c.items r.tail c.is in
        let same : r.tail ≡ items_end (frame_end frame) m r.value start = e ∙ ap (λ k. items_end (frame_end frame) m k start) c.long in
        rw (← same) w

    pub frames_of_kinds : Kinds frame m r.value start
    frames_of_kinds =
        let c = counted_got (at (read_frames frame) m start) a aIs r b in
        rw c.long at (frames_kinds frame m start c.items r.tail c.is)

  -- with refusal 23
  module _ (table : List ℕ) where
    abbrev pub Into : List ℕ → Number → Type 0
    Into = Reads counted frame_numbers (at (frames_tabled frame (length table)) m start) table

    pub into_not : (q : Refusal) → a ≡ Err q → Into table (Err q)
    into_not = tabled_not (frames_tidy frame) frame_numbers m start a aIs 23 6 table

    module _ (r : SuccessfulRead ℕ) (b : a ≡ Ok r) where
      pub into_23 : length table / 6 < r.value → (q : Refusal) → q ≡ because 23 0 → Into table (Err q)
      into_23 g = tabled_short (frames_tidy frame) frame_numbers m start a aIs 23 6 table r b (omega arith)

      pub into_whole : r.value ≤ length table / 6 → (after : List ℕ) → after ≡ filled (images part_numbers (items_here (parts_here frame) (frame_end frame) m r.value start)) table → Into after (Ok r)
      into_whole g after e =
          tabled_whole (frames_tidy frame) frame_numbers m start a aIs 23 6 table r b (omega arith) after
          (λ fs is long.
          let are : fs ≡ items_here (parts_here frame) (frame_end frame) m r.value start = rw long at (frames_are frame m start fs r.tail is) in
          e ∙ ap (λ (l : List ℕ). filled l table) (ap (images part_numbers) (sym are) ∙ sym (numbers_of fs)))

-- with refusal 20
module _ (frame : ℕ) (m : List ℕ) (start : ℕ) (table : List ℕ) where
  pub length_0 : frame ≡ 0 → (q : Refusal) → q ≡ because 20 0 → Reads counted frame_numbers (at (read_frames_into frame (length table)) m start) table table (Err q)
  unfolding read_frames_into
  length_0 h q f = refuses counted frame_numbers _ table (Err q) 20 0 (fail 20 _ _ m start (ap not (eq-eqb frame 0 h))) (rw f)

  pub length_some : (frame ≡ 0 → ⊥) → (after : List ℕ) (r : Number) → Reads counted frame_numbers (at (frames_tabled frame (length table)) m start) table after r
      → Reads counted frame_numbers (at (read_frames_into frame (length table)) m start) table after r
  unfolding read_frames_into
  length_some h after r f = rw (pass 20 _ _ m start (ap not (ne_eqb frame 0 h))) f
