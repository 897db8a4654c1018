-- The ways out of 33, one law each. Assumes nothing.
use Prim.Native.Nat.{ℕ}
use mathlib.Core.Path.{◌≡◌, sym, ap, ◌∙◌}
use mathlib.Core.Bool.{true, false}
use mathlib.Core.List.{[]}
use lib.Dec.{eqb}
use borrow.Author.Tests.{eq-eqb, ne_eqb}
use Rattle.std.specs.Prelude.{Ok, Err}
use Rattle.format.specs.Checks.{first, fits_form, form_checks}
use Rattle.format.proofs.Firsts.{unheld, first_stop}
use Rattle.fields.specs.Codes.{form_of, form_named}
use Rattle.fields.specs.declared.Form.{Form}
use Rattle.fields.specs.declared.Form.TheVariants.{Today, Old}
use Rattle.wire.specs.Codes.{because}
use Rattle.checks.specs.Answers.{Checked, checked}

module _ (n pairs : ℕ) (form : Form) (is : form ≡ form_named n) where
  abbrev Checks : Checked → Type 0
  Checks r = r ≡ checked (first (form_checks (form_of (form_named n)) pairs))

  fits_passes : fits_form (form_of form) pairs ≡ true → Checks (Ok tt)
  fits_passes e = let f : fits_form (form_of (form_named n)) pairs ≡ true = rw is at e in sym (ap checked (unheld (form_checks (form_of (form_named n)) pairs) (f, tt)))

  pub today_passes : form ≡ Today → Checks (Ok tt)
  today_passes e = fits_passes (ap (λ (f : Form). fits_form (form_of f) pairs) e)

  module _ (isOld : form ≡ Old) where
    old_fits : fits_form (form_of form) pairs ≡ eqb pairs 0
    old_fits = ap (λ (f : Form). fits_form (form_of f) pairs) isOld

    pub old_without_a_pair : pairs ≡ 0 → Checks (Ok tt)
    old_without_a_pair e = fits_passes (old_fits ∙ eq-eqb _ _ e)

    pub old_with_a_pair : (pairs ≡ 0 → ⊥) → (r : Checked) → r ≡ Err (because 33 0) → Checks r
    old_with_a_pair h r e =
        let f : fits_form (form_of (form_named n)) pairs ≡ false = rw is at (old_fits ∙ ne_eqb _ _ h) in
        e ∙ sym (ap checked (first_stop 33 (fits_form (form_of (form_named n)) pairs) [] f))
