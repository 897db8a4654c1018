-- The checks of what is added: those of a version 2 opening, of which 3, 5 and 39 pass, and 25. Assumes nothing.
use mathlib.Core.Path.{◌≡◌, refl, sym, ◌∙◌}
use mathlib.Core.List.{List, [], ◌∷◌}
use lib.Dec.{eqb}
use lib.ListN.{length}
use borrow.Author.Tests.{eq-eqb, ne_eqb}
use Rattle.std.specs.Prelude.{Ok, Err}
use Rattle.format.specs.Shared.{known, of_version}
use Rattle.format.specs.Policies.{no_policy}
use Rattle.format.specs.Checks.{Check, check, first, opening_checks}
use Rattle.format.specs.Reissued.{added_checks}
use Rattle.wire.specs.Codes.{because}
use Rattle.wire.specs.declared.refusals.Refusal.{Refusal}
use Rattle.checks.specs.Answers.{Checked, checked}
use Rattle.checks.proofs.Stages.{stage_passes, stage_fails}
use Rattle.ends_write.specs.declared.opening.Opening.{Opening}
use Rattle.reissuing.specs.Codes.{added, opening_of}
use Rattle.reissuing.specs.declared.Reissue.{Reissue}

module _ (r : Reissue) where
  abbrev front : List Check
  front = check 6 (known r.suite) ∷ check 7 (of_version 2 r.suite) ∷ check 24 (eqb (length r.messageId.now) 32) ∷ []

  abbrev behind : List Check
  behind = check 25 (eqb (length r.suiteData.now) 32) ∷ []

  module _ (o : Opening) (o_is : o ≡ opening_of r) (x : Checked) (is : x ≡ checked (first (opening_checks no_policy o.version o.messageType o.suite (length o.messageId.now)))) where
    -- 3, 5 and 39 pass of a version 2 opening
    here : x ≡ checked (first front)
    unfolding first
    here = rw o_is at is

    pub front_fails : (q : Refusal) → x ≡ Err q → ◌≡◌ {A = Checked} (Err q) (checked (first (added_checks (added r))))
    front_fails q e = sym (stage_fails front x here behind q e)

    module _ (e : x ≡ Ok tt) (y : Checked) where
      last : y ≡ checked (first behind) → y ≡ checked (first (added_checks (added r)))
      last h = h ∙ sym (stage_passes front x here behind e)

      pub data_passes : length r.suiteData.now ≡ 32 → y ≡ Ok tt → y ≡ checked (first (added_checks (added r)))
      unfolding first
      data_passes h f = last (f ∙ rw (eq-eqb (length r.suiteData.now) 32 h) refl)

      pub data_fails : (length r.suiteData.now ≡ 32 → ⊥) → y ≡ Err (because 25 0) → y ≡ checked (first (added_checks (added r)))
      unfolding first
      data_fails h f = last (f ∙ rw (ne_eqb (length r.suiteData.now) 32 h) refl)
