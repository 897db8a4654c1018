-- What the definition reads where a body was measured: its parts, and the body, with tables or without. Assumes nothing.
use Prim.Native.Nat.{ℕ, ◌*◌}
use mathlib.Core.Path.{◌≡◌, refl, ap, ◌∙◌}
use mathlib.Core.Bool.{true, false, not, ◌||◌}
use mathlib.Core.List.{List}
use lib.Dec.{eqb}
use lib.ListN.{length}
use Rattle.format.specs.Read.{Answer, accepted, refused, at}
use Rattle.format.specs.Shared.{frame_fits}
use Rattle.format.specs.Fields.{HeaderBody}
use Rattle.format.specs.Context.{form_between}
use Rattle.format.specs.Keys.{within}
use Rattle.format.specs.Keys.{Max as Room}
use Rattle.format.specs.Body.{tests_frames, whole, read_opening, read_closing, read_body}
use Rattle.wire.proofs.Answers.{Got, read_got}
use Rattle.request.specs.Codes.{which_of, policy_of}
use Rattle.request.specs.declared.Request.{Request}
use Rattle.context.proofs.Whole as pairs
use Rattle.keys.proofs.Whole as keys
use Rattle.ends.specs.Codes.{opening_code, closing_code, closing_of}
use Rattle.ends.specs.declared.Opening.{Opening}
use Rattle.ends.specs.declared.Closing.{Closing}
use Rattle.body_measure.specs.Codes.{frame_test, asks, Stages}
use Rattle.body_measure.specs.declared.Measurement.{Measurement}
use Rattle.body_measure.proofs.Stages.{at_22, at_23, at_whole}

module _ (q : Request) (m : List ℕ) (start : ℕ) (x : Measurement) (stages : Stages q m start x) where
  pub opened : Got opening_code (at (read_opening (which_of q.which) (policy_of q.policy)) m start) (record { value = x.opening; tail = x.contextStart })
  opened = read_got opening_code (at (read_opening (which_of q.which) (policy_of q.policy)) m start) _ refl (record { value = x.opening; tail = x.contextStart }) stages.opens

  pub paired : pairs.Had q.mode m x.contextStart (record { value = x.pairCount; tail = x.keysStart })
  paired = pairs.had q.mode m x.contextStart _ refl (record { value = x.pairCount; tail = x.keysStart }) stages.pairs

  pub keyed : keys.Had q.max m x.keysStart (record { value = x.keyCount; tail = x.keysEnd })
  keyed = keys.had q.max m x.keysStart _ refl (record { value = x.keyCount; tail = x.keysEnd }) stages.keys

  pub closed : Got closing_code (at (read_closing (eqb opened.item.version 1)) m x.keysEnd) (record { value = x.closing; tail = x.tail })
  closed =
      read_got closing_code (at (read_closing (eqb opened.item.version 1)) m x.keysEnd) _ refl (record { value = x.closing; tail = x.tail })
      (ap (λ (y : Opening). closing_of (at (read_closing (eqb y.version 1)) m x.keysEnd)) opened.gives ∙ stages.closes)

  tested : not (tests_frames (which_of q.which)) || frame_fits closed.item.contentType closed.item.frameLength ≡ true
  tested = ap (λ (y : Closing). frame_test q.which y.contentType y.frameLength) closed.gives ∙ stages.fits

  -- the body itself, behind its last test
  abbrev pub body : HeaderBody
  body = whole opened.item (record { form = form_between x.contextStart x.keysStart; pairs = paired.items }) keyed.items closed.item

  module _ (pairRoom keyRoom : Room) where
    abbrev pub said : Answer HeaderBody
    said = at (read_body (asks q pairRoom keyRoom)) m start

    pub no_pair_room : within (4 * x.pairCount) pairRoom ≡ false → said ≡ refused 22 0
    no_pair_room e =
        at_22 (asks q pairRoom keyRoom) m start opened.item x.contextStart opened.is paired.items x.keysStart paired.is keyed.items x.keysEnd keyed.is closed.item x.tail closed.is tested
        (ap (λ n. within (4 * n) pairRoom) paired.long ∙ e)

    module _ (e : within (4 * x.pairCount) pairRoom ≡ true) where
      held : within (4 * length paired.items) pairRoom ≡ true
      held = ap (λ n. within (4 * n) pairRoom) paired.long ∙ e

      pub no_key_room : within (6 * x.keyCount) keyRoom ≡ false → said ≡ refused 23 0
      no_key_room f =
          at_23 (asks q pairRoom keyRoom) m start opened.item x.contextStart opened.is paired.items x.keysStart paired.is keyed.items x.keysEnd keyed.is closed.item x.tail closed.is tested held
          (ap (λ n. within (6 * n) keyRoom) keyed.long ∙ f)

      pub read_whole : within (6 * x.keyCount) keyRoom ≡ true → said ≡ accepted body x.tail
      read_whole f =
          at_whole (asks q pairRoom keyRoom) m start opened.item x.contextStart opened.is paired.items x.keysStart paired.is keyed.items x.keysEnd keyed.is closed.item x.tail closed.is tested held
          (ap (λ n. within (6 * n) keyRoom) keyed.long ∙ f)
