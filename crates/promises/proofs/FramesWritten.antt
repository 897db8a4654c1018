-- The frame writer's promises: the definitions' theorems, by both contracts. Assumes nothing.
use Prim.Native.Nat.{ℕ, ◌+◌, ◌*◌, ◌-◌, ◌≤◌, ◌<◌}
use mathlib.Core.Path.{◌≡◌, refl, sym, ap, ap₂, ◌∙◌}
use mathlib.Core.List.{List}
use lib.ListN.{length, take, drop}
use lib.Seq.{take-append_seam}
use Rattle.std.specs.Prelude.{Ok, Err}
use Rattle.format.specs.Read.{accepted, operation}
use Rattle.format.specs.Serialize.{Bytes}
use Rattle.format.specs.Frames.{FrameAt, write_frames, read_frames_into}
use Rattle.format.specs.Lent.{bytes_at, filled, frame_numbers, Writing, written, output_after, writing_frames}
use Rattle.format.specs.FramesWritten.{frames_again}
use Rattle.format.proofs.Writers.{writer_law}
use Rattle.format.proofs.FramesWritten.{taken, frames_written}
use Rattle.wire.specs.Codes.{because}
use Rattle.entries.proofs.Sections.{counted_got}
use Rattle.checks.specs.Answers.{write_answer_of}
use Rattle.checks.proofs.Writers.{written_is}
use Rattle.promises.specs.Frames.{Call, Meets, GivesFrames}
use Rattle.promises.specs.FramesWritten.{Write, MeetsWriter, frames, Lends, Hands, FramesWrittenPromises}
use Rattle.promises.proofs.Codes.{answering}
use Rattle.promises.proofs.Frames.{frames_promises}
use Rattle.promises.proofs.Writer.{writer_promises}

-- what was written stands in the reader's message
module _ (w : Write) (call : MeetsWriter w) (n : ℕ) (e : w.answer ≡ Ok n) (c : Call) (hb : Bytes c.message) (meets : Meets c) (lends : Lends w n c) where
  abbrev writing : Writing
  writing = writing_frames w.frame w.text w.table

  read_back : GivesFrames c (frames w) × (c.answer ≡ Ok (record { value = length (frames w); tail = c.start + n }))
  unfolding writing_frames
  read_back =
      let a : written writing w.before ≡ accepted tt n = written_is w.answer _ call.answer n e in
      let (p, long, room, o) = (writer_law writing w.before).only_then n a in
      let (good, inside) = taken w.frame _ (frames w) p in
      let image = write_frames (frames w) in
      let bytes : take n w.after ≡ image = rw (call.output, o, long) (take-append_seam image (drop (length image) w.before)) in
      let gives = (frames_promises.every_call c hb meets).all lends.fits (frames w)
      (record {
        some_length = rw lends.frame good.some_length;
        frames = rw lends.frame good.frames;
        after = lends.behind;
        bytes = lends.bytes ∙ rw bytes refl;
        held = lends.room;
      }) in
      (gives, gives.answer ∙ ap (λ (k : ℕ). Ok (record { value = length (frames w); tail = c.start + k })) (sym long))

-- what was read is handed over
module _ (c : Call) (hb : Bytes c.message) (meets : Meets c) (n t : ℕ) (a : c.answer ≡ Ok (record { value = n; tail = t })) (w : Write) (call : MeetsWriter w) (hands : Hands c n w) where
  record Again : Type 0 where
    places : List FrameAt
    read : operation (read_frames_into c.frame (length c.before)) c.message c.start ≡ accepted places t
    many : length places ≡ n
    handed : writing_frames w.frame w.text w.table ≡ frames_again c.frame c.message places t c.before

  again : Again
  again =
      let g = counted_got (operation (read_frames_into c.frame (length c.before)) c.message c.start) c.answer meets.answer _ a in
      let after : c.after ≡ filled (frame_numbers g.items) c.before = (answering meets g.is).table in
      let table : w.table ≡ take (6 * length g.items) (filled (frame_numbers g.items) c.before) = hands.table ∙ ap₂ (λ (k : ℕ) (l : List ℕ). take (6 * k) l) (sym g.long) after in
      record { places = g.items; read = g.is; many = g.long; handed = same hands.frame hands.text table }
    where
      same : {f g : ℕ} {x y t u : List ℕ} → f ≡ g → x ≡ y → t ≡ u → writing_frames f x t ≡ writing_frames g y u
      same p q r = rw (p, q, r) refl

  written_back : n ≤ 65535 → t - c.start ≤ length w.before
      → (w.answer ≡ Ok (t - c.start)) × (w.after ≡ filled (bytes_at c.message c.start (t - c.start)) w.before)
  written_back few fits =
      let x = again in
      let (r, o) = (frames_written.written_back c.frame (length c.before) c.message c.start hb x.places t x.read).back (rw x.many few) c.before w.before fits in
      (call.answer ∙ ap (λ (y : Writing). write_answer_of (written y w.before)) x.handed ∙ ap write_answer_of r, call.output ∙ ap (λ (y : Writing). output_after y w.before) x.handed ∙ o)

  too_many : 65535 < n → (w.answer ≡ Err (because 27 0)) × (w.after ≡ w.before)
  too_many many =
      let x = again in
      let r = (frames_written.written_back c.frame (length c.before) c.message c.start hb x.places t x.read).too_many (rw x.many many) c.before w.before in
      let q = ap (λ (y : Writing). written y w.before) x.handed ∙ r in
      (call.answer ∙ ap write_answer_of q, call.output ∙ ((writer_law (writing_frames w.frame w.text w.table) w.before).keeps 27 0 q).1)

pub frames_written_promises : FramesWrittenPromises
frames_written_promises =
    record {
      checked = λ w call. writer_promises.writers _ _ _ _ call;
      read_back = read_back;
      written_back = λ c hb meets n t a w call hands few fits. written_back c hb meets n t a w call hands few fits;
      too_many = λ c hb meets n t a w call hands many. too_many c hb meets n t a w call hands many;
    }
