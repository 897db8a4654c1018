-- The frame writer takes frames of the frame length and nothing else; what it writes is read back, and what was read is written back.
-- Assumes nothing.
use mathlib.Core.Path.{◌≡◌, refl, sym, ap, subst, ◌∙◌}
use mathlib.Core.Bool.{true, not}
use mathlib.Core.Option.{none, some}
use mathlib.Core.List.{List, [], ◌∷◌, ◌++◌, map, append-nil}
use Prim.Native.Nat.{ℕ, ◌+◌, ◌*◌, ◌-◌, ◌≤◌, ◌<◌}
use native.Mathlib.Omega.{arith}
use native.Mathlib.Nat.{zero-add}
use lib.Dec.{leb, eqb}
use lib.ListN.{length, take, drop, length-map}
use lib.Seq.{take-append_seam}
use Rattle.format.specs.Read.{accepted, refused, operation}
use Rattle.format.specs.Serialize.{Bytes, images}
use Rattle.format.specs.Frames.{Frame, FrameAt, frame_of, frame_places, write_frames, read_frames_into}
use Rattle.format.specs.FrameLaws.{FramesOf}
use Rattle.format.specs.Checks.{Check, check, first, each, frame_checks, content_checks, content_length, frames_checks}
use Rattle.format.specs.Lent.{bytes_at, filled, frame_numbers, table_checks, frames_in, Writing, written, output_after, writing_frames}
use Rattle.format.specs.Demand3.{Held, Each}
use Rattle.format.specs.FramesWritten.{FramesToWrite, ReadsBack, frames_again, WritesBack, FramesWritten}
use Rattle.format.proofs.Tests.{leb_is, is_leb, nleb_is, eqb_is, is_eqb, neqb_is}
use Rattle.format.proofs.Firsts.{Holds, holds, unheld, split, join, first_pass, first_stop, first_none}
use Rattle.format.proofs.Filled.{frame_numbers_long, frames_there}
use Rattle.format.proofs.WrittenBack.{passes, front, just_those}
use Rattle.format.proofs.Writers.{writer_law}
use Rattle.format.proofs.Size.{size_law}
use Rattle.format.proofs.FrameLaws.{frame_laws, frames_length, frames_read, frames_within, frames_end, above_0}

-- what passes is of the frame length
module _ (frame : ℕ) where
  frames_of : (done fs : List Frame) → 0 < length fs → Holds (each frame_checks done fs) → Holds (content_checks frame (map content_length fs)) → FramesOf frame fs
  unfolding each content_checks
  frames_of done [] e h k = absurd (omega arith)
  frames_of done (f ∷ []) e (iv, (tag, h)) (most, k) = (record { iv = is_eqb _ _ iv; tag = is_eqb _ _ tag }, is_leb _ _ most)
  frames_of done (f ∷ g ∷ fs) e (iv, (tag, h)) (exactly, k) = (record { iv = is_eqb _ _ iv; tag = is_eqb _ _ tag }, is_eqb _ _ exactly, frames_of (done ++ (f ∷ [])) (g ∷ fs) (omega arith) h k)

  of_frames : (done fs : List Frame) → FramesOf frame fs → Holds (each frame_checks done fs) × Holds (content_checks frame (map content_length fs))
  unfolding each content_checks
  of_frames done [] o = absurd o
  of_frames done (f ∷ []) (sealed, most) = ((eqb_is _ _ sealed.iv, (eqb_is _ _ sealed.tag, tt)), (leb_is _ _ most, tt))
  of_frames done (f ∷ g ∷ fs) (sealed, exactly, r) =
      let (h, k) = of_frames (done ++ (f ∷ [])) (g ∷ fs) r in
      ((eqb_is _ _ sealed.iv, (eqb_is _ _ sealed.tag, h)), (eqb_is _ _ exactly, k))

  pub some_frames : (fs : List Frame) → FramesOf frame fs → 0 < length fs
  some_frames [] o = absurd o
  some_frames (f ∷ fs) o = omega arith

  not_none : (fs : List Frame) → FramesOf frame fs → not (eqb (length fs) 0) ≡ true
  not_none fs o = let n = some_frames fs o in ap not (neqb_is (length fs) 0 (λ z. omega arith))

  module _ (table : List Check) (fs : List Frame) where
    abbrev behind_table : List Check
    behind_table = check 36 (not (eqb (length fs) 0)) ∷ check 27 (leb (length fs) 65535) ∷ (each frame_checks [] fs ++ content_checks frame (map content_length fs))

    pub taken : first (frames_checks frame table fs) ≡ none → FramesToWrite frame fs × (first table ≡ none)
    unfolding frames_checks
    taken e =
        let (t20, h) = holds (frames_checks frame table fs) e in
        let (t26, k) = split table behind_table h in
        let (sealed, contents) = split (each frame_checks [] fs) (content_checks frame (map content_length fs)) k.1.1 in
        (record { some_length = above_0 frame t20; few = is_leb _ _ k.1.0; frames = frames_of [] fs (above_0 (length fs) k.0) sealed contents }, unheld table t26)

    pub takes : FramesToWrite frame fs → first table ≡ none → first (frames_checks frame table fs) ≡ none
    unfolding frames_checks
    takes w e =
        let (sealed, contents) = of_frames [] fs w.frames in
        let l = w.some_length in
        unheld (frames_checks frame table fs)
        (ap not (neqb_is frame 0 (λ z. omega arith)), join table behind_table (holds table e) (not_none fs w.frames, (leb_is _ _ w.few, join (each frame_checks [] fs) _ sealed contents)))

    too_many : 0 < frame → FramesOf frame fs → 65535 < length fs → first table ≡ none → first (frames_checks frame table fs) ≡ some 27
    unfolding frames_checks
    too_many l o h e =
        first_pass 20 _ _ (ap not (neqb_is frame 0 (λ z. omega arith))) ∙ first_none table _ e ∙ first_pass 36 _ _ (not_none fs o) ∙ first_stop 27 _ _ (nleb_is _ _ h)

-- what was written stands there
module _ (frame : ℕ) (text table out : List ℕ) (n : ℕ) (e : written (writing_frames frame text table) out ≡ accepted tt n) where
  record Wrote : Type 0 where
    taken : FramesToWrite frame (frames_in text table)
    long : n ≡ length (write_frames (frames_in text table))
    bytes : take n (output_after (writing_frames frame text table) out) ≡ write_frames (frames_in text table)

  wrote : Wrote
  unfolding writing_frames
  wrote =
      let image = write_frames (frames_in text table) in
      let (c, d, room, o) = (writer_law (writing_frames frame text table) out).only_then n e in
      record { taken = (taken frame (table_checks 6 text table) (frames_in text table) c).0; long = d; bytes = rw (o, d) (take-append_seam image (drop (length image) out)) }

  module _ (room : ℕ) (holds_it : 6 * length (frames_in text table) ≤ room) where
    in_a_message : (m : List ℕ) (s : ℕ) (after : List ℕ) → length m ≤ 4294967295 → drop s m ≡ take n (output_after (writing_frames frame text table) out) ++ after
        → (places : List FrameAt) × (operation (read_frames_into frame room) m s ≡ accepted places (s + n)) × (map frame_of places ≡ frames_in text table)
    in_a_message m s after fits is =
        let w = wrote in
        let (places, read, same, held) = frames_read frame room m s fits (frames_in text table)
        (record { some_length = w.taken.some_length; frames = w.taken.frames; after = after; bytes = is ∙ ap (λ b. b ++ after) w.bytes; held = holds_it }) in
        (places, read ∙ ap (λ (k : ℕ). accepted places (s + k)) (sym w.long), same)

    read_back : ReadsBack frame text table out n room
    read_back =
        let b = take n (output_after (writing_frames frame text table) out) in
        record {
          alone = λ h.
              let long : length b ≡ n = ap length wrote.bytes ∙ sym wrote.long in
              let (places, read, same) = in_a_message b 0 [] (omega arith) (sym (append-nil b)) in
              (places, read ∙ ap (accepted places) (zero-add n), same);
          in_a_message = in_a_message;
        }

-- what was read is handed over
frames_back : (m : List ℕ) (fs : List FrameAt) → Each (Held m) (images frame_places fs) → frames_in m (frame_numbers fs) ≡ map frame_of fs
frames_back m fs h = just_those 6 (frame_numbers fs) _ fs _ (let e = frame_numbers_long fs in omega arith) (frames_there m (frame_numbers fs) fs [] 0 h)

module _ (frame room : ℕ) (m : List ℕ) (s : ℕ) (hb : Bytes m) (fs : List FrameAt) (t : ℕ) (e : operation (read_frames_into frame room) m s ≡ accepted fs t) where
  abbrev value : List Frame
  value = map frame_of fs

  -- between start and tail stand the frames, as they are written
  record Between : Type 0 where
    some_length : 0 < frame
    frames : FramesOf frame value
    long : length (write_frames value) ≡ t - s
    forward : s ≤ t
    bytes : write_frames value ≡ bytes_at m s (t - s)

  between : Between
  between =
      let (stand, tail, held) = (frame_laws.frames frame room m s hb).only fs t e in
      let long : length (write_frames value) ≡ t - s = omega arith in
      record {
        some_length = stand.some_length;
        frames = stand.frames;
        long = long;
        forward = omega arith;
        bytes = rw (← long, stand.bytes) (sym (take-append_seam (write_frames value) stand.after));
      }

  module _ (table : List ℕ) where
    -- the writer is handed them
    handed : frames_again frame m fs t table ≡ writing_frames frame m (frame_numbers fs)
    handed = ap (writing_frames frame m) (front (frame_numbers fs) table (6 * length fs) (frame_numbers_long fs))

    are : frames_in m (frame_numbers fs) ≡ value
    are = frames_back m fs ((frame_laws.frames frame room m s hb).only fs t e).2

    inside : first (table_checks 6 m (frame_numbers fs)) ≡ none
    inside = passes 6 m (images frame_places fs) (let l = frame_numbers_long fs in omega arith) (frames_within frame room m s hb fs t e)

    back : length fs ≤ 65535 → (out : List ℕ) → t - s ≤ length out
        → (written (frames_again frame m fs t table) out ≡ accepted tt (t - s)) × (output_after (frames_again frame m fs t table) out ≡ filled (bytes_at m s (t - s)) out)
    unfolding writing_frames
    back few out fits =
        let b = between in
        let w = writing_frames frame m (frame_numbers fs) in
        let c : first w.checks ≡ none = rw are (takes frame _ value (record { some_length = b.some_length; few = rw (length-map fs frame_of) few; frames = b.frames }) inside) in
        let i : w.image ≡ bytes_at m s (t - s) = rw are b.bytes in
        let l : length w.image ≡ t - s = rw are b.long in
        let (a, o) = (writer_law w out).writes c (rw l fits) in
        subst (λ (x : Writing). (written x out ≡ accepted tt (t - s)) × (output_after x out ≡ filled (bytes_at m s (t - s)) out)) (sym handed)
        (a ∙ ap (accepted tt) l, o ∙ ap (λ (x : List ℕ). filled x out) i)

    refused_27 : 65535 < length fs → (out : List ℕ) → written (frames_again frame m fs t table) out ≡ refused 27 0
    unfolding writing_frames
    refused_27 many out =
        let b = between in
        let w = writing_frames frame m (frame_numbers fs) in
        let c : first w.checks ≡ some 27 = rw are (too_many frame _ value b.some_length b.frames (rw (length-map fs frame_of) many) inside) in
        ap (λ (x : Writing). written x out) handed ∙ ((size_law w).refuses 27 0 (rw c refl) out).0

  written_back : WritesBack frame m s fs t
  written_back =
      record {
        forward = between.forward;
        within = frames_end frame room m s hb fs t e;
        back = λ few table out fits. back table few out fits;
        too_many = λ many table out. refused_27 table many out;
      }

pub frames_written : FramesWritten
unfolding first
frames_written =
    record {
      takes = λ frame fs. record { onward = λ e. (taken frame [] fs e).0; back = λ w. takes frame [] fs w refl };
      long = λ frame fs o n e. frames_length frame 1 n fs o e;
      read_back = λ frame text table out n e room h. read_back frame text table out n e room h;
      written_back = λ frame room m s hb fs t e. written_back frame room m s hb fs t e;
    }
