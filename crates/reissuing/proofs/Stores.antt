-- Laws of what a reissued body takes, and of its stores. Assumes nothing.
use Prim.Native.Nat.{ℕ, ◌+◌, ◌-◌, ◌≤◌}
use native.Mathlib.Omega.{arith}
use mathlib.Core.Path.{◌≡◌, refl, ◌∙◌}
use mathlib.Core.Bool.{false}
use mathlib.Core.List.{List, ◌++◌}
use lib.Dec.{eqb}
use lib.ListN.{length, take, drop, length-append}
use borrow.Rule.Slice.PartMut.{put_mid}
use Rattle.format.specs.Lent.{bytes_at}
use Rattle.format.specs.Reissuing.{Reissue}
use Rattle.wire.specs.Stored.{stored}
use Rattle.wire.proofs.StoreLaws.{stored_tail}
use Rattle.checks.proofs.Writers.{chain, still_long, whole_bytes}
use Rattle.ends_write.specs.Ends.{write_opening}
use Rattle.ends_write.specs.declared.opening.Opening.{Opening}
use Rattle.ends_write.proofs.Ends.{opening_long, closing_long}
use Rattle.reissuing.specs.Codes.{added, opening_of, sections, front, back, body_kept, body_size, CanStore}
use Rattle.reissuing.specs.declared.Reissue.{Reissue as Handed}
use Rattle.reissuing.specs.declared.storing.Draft.{Draft}

sections_long : (d : Draft) → length (sections d) ≡ length d.context.now + length d.keys.now
sections_long d = length-append d.context.now d.keys.now

pub size_of : (a : Reissue) (d : Draft) → length a.messageId ≡ 32 → length a.suiteData ≡ 32 → length (body_kept a d) ≡ body_size d
size_of a d i s =
    let f = opening_long false 2 0 a.suite a.messageId i in
    let b = closing_long false d.contentType 0 d.frameLength a.suiteData s in
    let l = sections_long d in
    rw (length-append (front a) (sections d ++ back a d), length-append (sections d) (back a d)) (omega arith)

pub sections_put : (d : Draft) (out o p : List ℕ) (at : ℕ) → at + (length d.context.now + length d.keys.now) ≤ length out → o ≡ stored out at (bytes_at d.context.now 0 (length d.context.now))
    → p ≡ stored o (at + length d.context.now) (bytes_at d.keys.now 0 (length d.keys.now)) → p ≡ stored out at (sections d)
sections_put d out o p at h e f =
    chain out o p at (at + length d.context.now) d.context.now d.keys.now (rw (whole_bytes d.context.now) at e) refl (rw (whole_bytes d.keys.now) at f) (omega arith)

module _ (r : Handed) (d : Draft) (out : List ℕ) (can : CanStore (added r) d (length out)) (o : Opening) (o_is : o ≡ opening_of r) (x : List ℕ)
    (e : x ≡ stored out 0 (write_opening (eqb o.version 1) o.version o.messageType o.suite o.messageId.now)) where
  abbrev a : Reissue
  a = added r

  opens : length (front a) ≡ 35
  opens = opening_long false 2 0 a.suite a.messageId can.id

  opening_put : x ≡ stored out 0 (front a)
  opening_put = rw o_is at e

  first_long : length x ≡ length out
  first_long = still_long out x 0 (front a) opening_put (omega (arith, opens, can.fits))

  pub sections_room : 35 + (length d.context.now + length d.keys.now) ≤ length x
  sections_room = omega (arith, first_long, can.fits)

  module _ (p : List ℕ) (f : p ≡ stored x 35 (sections d)) (end : ℕ) (end_is : end ≡ 35 + (length d.context.now + length d.keys.now)) where
    second_long : length p ≡ length out
    second_long = let l = sections_long d in still_long x p 35 (sections d) f (omega (arith, sections_room)) ∙ first_long

    pub end_inside : end ≤ length p
    end_inside = omega (arith, second_long, can.fits)

    pub body_put : (y : List ℕ) → y ≡ stored (take (length p - end) (drop end p)) 0 (back a d) → put_mid end (length p - end) p y ≡ stored out 0 (body_kept a d)
    body_put y g =
        let l = sections_long d in
        let last = stored_tail p y (back a d) end end_inside g in
        let two = chain x p _ 35 end (sections d) (back a d) f (omega arith) last (omega (arith, sections_room)) in
        chain out x _ 0 35 (front a) (sections d ++ back a d) opening_put (omega (arith, opens)) two (omega (arith, opens, can.fits))
