-- What the frame reader accepts are frames as they are written, and all of those. Assumes nothing.
use mathlib.Core.Path.{◌≡◌, refl, sym, ap, ◌∙◌}
use mathlib.Core.Bool.{true, not, false≢true}
use mathlib.Core.List.{List, [], ◌∷◌, ◌++◌, append-nil, map}
use Prim.Native.Nat.{ℕ, zero, suc, ◌+◌, ◌*◌, ◌-◌, ◌≤◌, ◌<◌}
use native.Mathlib.Omega.{arith}
use native.Mathlib.Nat.{zero-add, zero-mul, suc-mul}
use lib.Dec.{leb, eqb}
use lib.ListN.{length, drop, length-append, length-drop}
use Rattle.format.specs.Read.{accepted, operation}
use Rattle.format.specs.Serialize.{Part, Bytes, images, write_uint32}
use Rattle.format.specs.Frames.{Frame, FrameAt, frame_of, frame_places, final_mark, write_regular_frame, write_final_frame, write_frames_from, write_frames, read_frames_into}
use Rattle.format.specs.Demand3.{Held, Each}
use Rattle.format.specs.FrameLaws.{Sealed, FramesOf, FramesStand, FramesLaw, FrameLaws}
use Rattle.format.specs.Checks.{content_length}
use Rattle.format.specs.FramesWritten.{last_of}
use Rattle.format.proofs.Tests.{leb_is, is_leb, neqb_is}
use Rattle.format.proofs.Exact.{Exact, seq_exact, check_exact, check_as, give_exact, revalue}
use Rattle.format.proofs.Serialize.{length_uint32, part_at}
use Rattle.format.proofs.RunsExact.{RunOk, run_image, run_puts}
use Rattle.format.proofs.Frames.{frames_unbounded}
use Rattle.format.proofs.FramesExact.{FrameOk, frame_image, frame_at, frames_exact, images_are}
use Rattle.format.proofs.Held.{Within, Here, left, right, reached, held}
use Rattle.format.proofs.Messages.{accepted_took}
use Rattle.format.proofs.Sections.{start_fits, reads}

abbrev frames_at : ℕ → ℕ → List Frame → List FrameAt
frames_at i s fs = run_puts frame_image frame_at i s fs

-- frames placed are as many, and have their bytes
frames_long : (i s : ℕ) (fs : List Frame) → length (frames_at i s fs) ≡ length fs
unfolding run_puts
frames_long i s [] = refl
frames_long i s (f ∷ []) = refl
frames_long i s (f ∷ g ∷ fs) = ap suc (frames_long (suc i) _ (g ∷ fs))

frames_same : (i s : ℕ) (fs : List Frame) → map frame_of (frames_at i s fs) ≡ fs
unfolding run_puts
frames_same i s [] = refl
frames_same i s (f ∷ []) = refl
frames_same i s (f ∷ g ∷ fs) = ap (λ (l : List Frame). f ∷ l) (frames_same (suc i) _ (g ∷ fs))

-- with 20 and 23
record FramesRoom (frame room : ℕ) (fs : List Frame) : Type 0 where
  t20 : not (eqb frame 0) ≡ true
  frames : RunOk (FrameOk frame) 0 fs
  t23 : leb (6 * length fs) room ≡ true

frames_into_exact : (frame room : ℕ) → Exact (read_frames_into frame room) (FramesRoom frame room) (run_image frame_image 0) (frames_at 0)
unfolding read_frames_into
frames_into_exact frame room =
    revalue (FramesRoom frame room) (run_image frame_image 0) (frames_at 0)
    (check_exact 20 _ (seq_exact _ (frames_exact frame) λ s fs. check_as 23 (leb (6 * length fs) room) (rw (frames_long 0 s fs) refl) (give_exact _)))
    (λ w o. (w.0, record { t20 = o.0; frames = o.1.0; t23 = o.1.1.0 }, append-nil (run_image frame_image 0 w.0), λ s. refl))
    (λ fs o. ((fs, tt), (o.t20, (o.frames, (o.t23, tt))), rw append-nil refl, λ s. refl))

pub above_0 : (frame : ℕ) → not (eqb frame 0) ≡ true → 0 < frame
above_0 zero e = absurd (false≢true e)
above_0 (suc n) e = omega arith

-- what is read is frames of the frame length
then_of : (frame i : ℕ) (fs : List Frame) → RunOk (FrameOk frame) i fs → FramesOf frame fs
then_of frame i [] r = r
then_of frame i (f ∷ []) r = (r.sealed, r.at_most)
then_of frame i (f ∷ g ∷ fs) (o, r) = (o.sealed, o.exactly, then_of frame (suc i) (g ∷ fs) r)

-- a frame's bytes are so many
long_regular : (frame i : ℕ) (f : Frame) → Sealed f → length f.content ≡ frame → length (write_regular_frame i f) ≡ 32 + frame
unfolding write_regular_frame
long_regular frame i f o e =
    let a = o.iv in
    let b = o.tag in
    rw (length-append (write_uint32 i), length-append f.iv, length-append f.content, length_uint32) (omega arith)

long_final : (i : ℕ) (f : Frame) → Sealed f → length (write_final_frame i f) ≡ 40 + length f.content
unfolding write_final_frame
long_final i f o =
    let a = o.iv in
    let b = o.tag in
    rw (
      length-append (write_uint32 final_mark),
      length-append (write_uint32 i),
      length-append f.iv,
      length-append (write_uint32 (length f.content)),
      length-append f.content,
      length_uint32 final_mark,
      length_uint32 i,
      length_uint32 (length f.content),
    )
    (omega arith)

-- and frames of a message are few enough for their numbers
of_then : (frame i : ℕ) (fs : List Frame) → FramesOf frame fs → i + length (write_frames_from (suc i) fs) ≤ 4294967295 → RunOk (FrameOk frame) i fs
unfolding write_frames_from
of_then frame i [] o h = o
of_then frame i (f ∷ []) (sealed, most) h =
    let l = long_final (suc i) f sealed in
    record { sealed = sealed; at_most = most; due_fits = omega arith; length_fits = omega arith }
of_then frame i (f ∷ g ∷ fs) (sealed, exactly, r) h =
    let l = long_regular frame (suc i) f sealed exactly in
    let a = length-append (write_regular_frame (suc i) f) (write_frames_from (suc (suc i)) (g ∷ fs)) in
    (record { sealed = sealed; exactly = exactly; below_mark = omega arith }, of_then frame (suc i) (g ∷ fs) r (omega arith))

pub frames_length : (frame i n : ℕ) (fs : List Frame) → FramesOf frame fs → length fs ≡ suc n → length (write_frames_from i fs) ≡ n * (32 + frame) + (40 + last_of (map content_length fs))
unfolding write_frames_from last_of
frames_length frame i n [] o e = absurd o
frames_length frame i zero (f ∷ []) (sealed, most) e = rw (zero-mul, zero-add) (long_final i f sealed)
frames_length frame i (suc n) (f ∷ []) o e = absurd (omega arith)
frames_length frame i zero (f ∷ g ∷ fs) o e = absurd (omega arith)
frames_length frame i (suc n) (f ∷ g ∷ fs) (sealed, exactly, r) e =
    let l = long_regular frame i f sealed exactly in
    let a = length-append (write_regular_frame i f) (write_frames_from (suc i) (g ∷ fs)) in
    let b = frames_length frame (suc i) n (g ∷ fs) r (omega arith) in
    let c = suc-mul n (32 + frame) in
    omega arith

-- what holds of bytes at a place of the message holds of each frame's parts
record There (m : List ℕ) (s : ℕ) (b : List ℕ) : Type 0 where
  place : s ≤ length m
  here : Here m s b

module _ (m : List ℕ) where
  front : (s : ℕ) (b c : List ℕ) → There m s (b ++ c) → There m s b
  front s b c t = record { place = t.place; here = left m s b c t.here }

  rest : (s : ℕ) (b c : List ℕ) → There m s (b ++ c) → There m (s + length b) c
  rest s b c t = record { place = reached m s b t.place (left m s b c t.here); here = right m s b c t.here }

  behind_number : (s n : ℕ) (b : List ℕ) → There m s (write_uint32 n ++ b) → There m (s + 4) b
  behind_number s n b t = rw length_uint32 at (rest s (write_uint32 n) b t)

module _ (m : List ℕ) (P : Part → Type 0) (part : (s : ℕ) (b : List ℕ) → There m s b → P (part_at s b)) where
  record SealedAll (iv s : ℕ) (f : Frame) : Type 0 where
    ivs : P (part_at iv f.iv)
    contents : P (part_at s f.content)
    tags : P (part_at (s + length f.content) f.tag)

  sealed_all : (iv s : ℕ) (f : Frame) → There m iv f.iv → There m s (f.content ++ f.tag) → SealedAll iv s f
  sealed_all iv s f t u = record { ivs = part iv f.iv t; contents = part s f.content (front m s f.content f.tag u); tags = part (s + length f.content) f.tag (rest m s f.content f.tag u) }

  regular_all : (s i : ℕ) (f : Frame) → There m s (write_regular_frame i f) → SealedAll (s + 4) (s + 4 + length f.iv) f
  unfolding write_regular_frame
  regular_all s i f t =
      let a = behind_number m s i (f.iv ++ (f.content ++ f.tag)) t in
      sealed_all (s + 4) (s + 4 + length f.iv) f (front m (s + 4) f.iv (f.content ++ f.tag) a) (rest m (s + 4) f.iv (f.content ++ f.tag) a)

  final_all : (s i : ℕ) (f : Frame) → There m s (write_final_frame i f) → SealedAll (s + 4 + 4) (s + 4 + 4 + length f.iv + 4) f
  unfolding write_final_frame
  final_all s i f t =
      let sealed = write_uint32 (length f.content) ++ (f.content ++ f.tag) in
      let a = behind_number m (s + 4) i (f.iv ++ sealed) (behind_number m s final_mark (write_uint32 i ++ (f.iv ++ sealed)) t) in
      sealed_all (s + 4 + 4) (s + 4 + 4 + length f.iv + 4) f (front m (s + 4 + 4) f.iv sealed a)
      (behind_number m (s + 4 + 4 + length f.iv) (length f.content) (f.content ++ f.tag) (rest m (s + 4 + 4) f.iv sealed a))

  frames_all : (i s : ℕ) (fs : List Frame) → There m s (run_image frame_image i fs) → Each P (images frame_places (frames_at i s fs))
  unfolding run_image run_puts images
  frames_all i s [] t = tt
  frames_all i s (f ∷ []) t = let x = final_all s (suc i) f t in (x.ivs, (x.contents, (x.tags, tt)))
  frames_all i s (f ∷ g ∷ fs) t =
      let b = write_regular_frame (suc i) f in
      let more = run_image frame_image (suc i) (g ∷ fs) in
      let x = regular_all s (suc i) f (front m s b more t) in
      (x.ivs, (x.contents, (x.tags, frames_all (suc i) (s + length b) (g ∷ fs) (rest m s b more t))))

-- the bytes stand at the places, and the places are places of the message
module _ (m : List ℕ) (s : ℕ) (fs : List Frame) (t : There m s (run_image frame_image 0 fs)) where
  frames_held : Each (Held m) (images frame_places (frames_at 0 s fs))
  frames_held = frames_all m (Held m) (λ i b h. held m i b h.here) 0 s fs t

  frames_inside : Each (Within m) (images frame_places (frames_at 0 s fs))
  frames_inside = frames_all m (Within m) (λ i b h. reached m i b h.place h.here) 0 s fs t

not_empty : (frame i : ℕ) (fs : List Frame) → FramesOf frame fs → 0 < length (write_frames_from i fs)
not_empty frame i [] o = absurd o
not_empty frame i (f ∷ fs) o = let z = frames_length frame i (length fs) (f ∷ fs) o refl in omega arith

-- from where frames stand on, the message goes on
stands : (frame : ℕ) (m : List ℕ) (s : ℕ) (fs : List Frame) → FramesOf frame fs → (after : List ℕ) → drop s m ≡ write_frames fs ++ after → There m s (run_image frame_image 0 fs)
stands frame m s fs o after e =
    let d : length m - s ≡ length (write_frames fs ++ after) = sym (length-drop s m) ∙ ap length e in
    let a = length-append (write_frames fs) after in
    let n = not_empty frame 1 fs o in
    record { place = omega arith; here = record { after = after; is = e ∙ ap (λ b. b ++ after) (sym (images_are 0 fs)) } }

module _ (frame room : ℕ) (m : List ℕ) (s : ℕ) where
  pub frames_read : length m ≤ 4294967295 → (fs : List Frame) → FramesStand frame room m s fs
      → (places : List FrameAt) × (operation (read_frames_into frame room) m s ≡ accepted places (s + length (write_frames fs))) × (map frame_of places ≡ fs) × Each (Held m) (images frame_places places)
  frames_read fits fs h =
      let is = images_are 0 fs in
      let bytes : drop s m ≡ run_image frame_image 0 fs ++ h.after = h.bytes ∙ ap (λ b. b ++ h.after) (sym is) in
      let c = length-append (write_frames fs) h.after in
      let d : length m - s ≡ length (write_frames fs ++ h.after) = sym (length-drop s m) ∙ ap length h.bytes in
      let short : 0 + length (write_frames fs) ≤ 4294967295 = omega arith in
      let p = h.some_length in
      let o : FramesRoom frame room fs = record { t20 = ap not (neqb_is frame 0 (λ z. omega arith)); frames = of_then frame 0 fs h.frames short; t23 = leb_is _ _ h.held } in
      let near : s ≤ 4294967295 = start_fits m s (write_frames fs) h.after (not_empty frame 1 fs h.frames) fits h.bytes in
      (frames_at 0 s fs, reads (frames_into_exact frame room) m s fits near fs o h.after bytes ∙ ap (λ b. accepted (frames_at 0 s fs) (s + length b)) is, frames_same 0 s fs, frames_held m s fs (stands frame m s fs h.frames h.after h.bytes))

module _ (frame room : ℕ) (m : List ℕ) (s : ℕ) (hb : Bytes m) where
  record Had (fs : List FrameAt) (t : ℕ) : Type 0 where
    value : List Frame
    good : FramesRoom frame room value
    after : List ℕ
    bytes : drop s m ≡ write_frames value ++ after
    tail : t ≡ s + length (write_frames value)
    same : map frame_of fs ≡ value
    long : length fs ≡ length value
    places : Each (Held m) (images frame_places fs)
    inside : Each (Within m) (images frame_places fs)
    end : t ≤ length m

  had : (fs : List FrameAt) (t : ℕ) → operation (read_frames_into frame room) m s ≡ accepted fs t → Had fs t
  had fs t e =
      let (l, x) = accepted_took (frames_into_exact frame room) m s hb fs t e in
      let v : List Frame = x.value in
      let is = images_are 0 v in
      let bytes : drop s m ≡ write_frames v ++ l = x.split ∙ ap (λ b. b ++ l) is in
      let there = stands frame m s v (then_of frame 0 v x.good.frames) l bytes in
      record {
        value = v;
        good = x.good;
        after = l;
        bytes = bytes;
        tail = x.tail ∙ ap (λ b. s + length b) is;
        same = ap (map frame_of) x.placed ∙ frames_same 0 s v;
        long = ap length x.placed ∙ frames_long 0 s v;
        places = rw x.placed (frames_held m s v there);
        inside = rw x.placed (frames_inside m s v there);
        end = (let r = reached m s (run_image frame_image 0 v) there.place there.here in let z = x.tail in omega arith);
      }

  pub frames_within : (fs : List FrameAt) (t : ℕ) → operation (read_frames_into frame room) m s ≡ accepted fs t → Each (Within m) (images frame_places fs)
  frames_within fs t e = (had fs t e).inside

  pub frames_end : (fs : List FrameAt) (t : ℕ) → operation (read_frames_into frame room) m s ≡ accepted fs t → t ≤ length m
  frames_end fs t e = (had fs t e).end

  frames_law : FramesLaw frame room m s
  frames_law =
      record {
        only = λ fs t e. let x = had fs t e in (
          rw x.same (record { some_length = above_0 frame x.good.t20; frames = then_of frame 0 x.value x.good.frames; after = x.after; bytes = x.bytes; held = is_leb _ _ x.good.t23 }),
          rw x.same x.tail,
          x.places,
        );
        all = frames_read frame room m s;
        how_many = λ fs t e n k. let x = had fs t e in
            let a = frames_length frame 1 n x.value (then_of frame 0 x.value x.good.frames) (sym x.long ∙ k) in
            let b = x.tail in
            omega arith;
      }

mark : write_uint32 final_mark ≡ (0xFF ∷ 0xFF ∷ 0xFF ∷ 0xFF ∷ [])
unfolding write_uint32
mark = refl

pub frame_laws : FrameLaws
frame_laws = record { mark = mark; unbounded = frames_unbounded; frames = frames_law }
