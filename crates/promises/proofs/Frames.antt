-- The frame reader's promise, from its contract and the laws of frames. Assumes nothing.
use Prim.Native.Nat.{ℕ, ◌+◌, ◌*◌}
use mathlib.Core.Path.{◌≡◌, refl, sym, ap, ◌∙◌}
use mathlib.Core.List.{List, map}
use lib.ListN.{length, drop, length-map}
use lib.Seq.{drop-append_seam}
use Rattle.format.specs.Read.{Answer, accepted, operation}
use Rattle.format.specs.Serialize.{Bytes, images}
use Rattle.format.specs.Frames.{Frame, FrameAt, frame_of, frame_places, write_frames, read_frames_into}
use Rattle.format.specs.Lent.{frame_numbers, filled}
use Rattle.format.specs.Demand3.{Held, Each}
use Rattle.format.proofs.FrameLaws.{frame_laws}
use Rattle.format.proofs.Filled.{frame_numbers_long, frame_table}
use Rattle.entries.proofs.Sections.{counted_got}
use Rattle.promises.specs.Frames.{Call, Meets, GivesFrames, Promise, FramesPromises}
use Rattle.promises.proofs.Codes.{as_read, answering, kept}

module _ (c : Call) (hb : Bytes c.message) (meets : Meets c) where
  abbrev o : Answer (List FrameAt)
  o = operation (read_frames_into c.frame (length c.before)) c.message c.start

  gives : (places : List FrameAt) (t : ℕ) → o ≡ accepted places t → t ≡ c.start + length (write_frames (map frame_of places)) → Each (Held c.message) (images frame_places places)
      → GivesFrames c (map frame_of places)
  gives places t e tail held =
      let long = length-map places frame_of in
      let after : c.after ≡ filled (frame_numbers places) c.before = (answering meets e).table in
      let six : 6 * length (map frame_of places) ≡ length (frame_numbers places) = ap (λ n. 6 * n) long ∙ sym (frame_numbers_long places) in
      record {
        answer = (answering meets e).answer ∙ rw (long, tail) refl;
        frames = rw (after, long) (frame_table c.message c.before places held);
        beyond = rw (six, after) (drop-append_seam (frame_numbers places) (drop (length (frame_numbers places)) c.before));
      }

  promise : Promise c
  promise =
      let law = frame_laws.frames c.frame (length c.before) c.message c.start hb in
      record {
        only = λ n t a.
            let g = counted_got o c.answer meets.answer _ a in
            let (stand, tail, held) = law.only g.items t g.is in
            (map frame_of g.items, stand, gives g.items t g.is tail held);
        all = λ fits fs stand.
            let (places, e, same, held) = law.all fits fs stand in
            rw same at (gives places (c.start + length (write_frames fs)) e (ap (λ (l : List Frame). c.start + length (write_frames l)) (sym same)) held);
        how_many = λ n t a. let g = counted_got o c.answer meets.answer _ a in law.how_many g.items t g.is n g.long;
        keeps = kept (as_read length) frame_numbers o c.before c.after c.answer meets;
      }

pub frames_promises : FramesPromises
frames_promises = record { every_call = promise }
