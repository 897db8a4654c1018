-- The ways out of the checks of an opening behind those up to 7, one law each. Assumes nothing.
use Prim.Native.Nat.{ℕ}
use mathlib.Core.Path.{◌≡◌, sym, ◌∙◌}
use mathlib.Core.Bool.{Bool, true, false}
use mathlib.Core.List.{List, [], ◌∷◌}
use lib.Dec.{eqb}
use Rattle.std.specs.Prelude.{Ok, Err}
use Rattle.format.specs.Shared.{by, id_length}
use Rattle.format.specs.Policies.{lets_write}
use Rattle.format.specs.Checks.{Check, check, first, lead_checks, opening_checks}
use Rattle.wire.specs.Codes.{because}
use Rattle.wire.specs.declared.refusals.Refusal.{Refusal}
use Rattle.request.specs.Codes.{policy_of}
use Rattle.request.specs.declared.Policy.{Policy}
use Rattle.checks.specs.Answers.{Checked, checked}
use Rattle.checks.proofs.Stages.{stage_fails, stage_passes, check_stop, check_pass, check_end}
use Rattle.ends_write.proofs.VersionLaws.{check_by, pass_by}

module _ (policy : Policy) (version messageType suite id : ℕ) (a : Checked) (aIs : a ≡ checked (first (lead_checks version messageType suite))) where
  abbrev behind : List Check
  behind = check 39 (lets_write (policy_of policy) version) ∷ check 24 (eqb id (id_length version)) ∷ []

  abbrev Checks : Checked → Type 0
  Checks r = r ≡ checked (first (opening_checks (policy_of policy) version messageType suite id))

  pub no_lead : (r : Refusal) → a ≡ Err r → Checks (Err r)
  no_lead r e = sym (stage_fails (lead_checks version messageType suite) a aIs behind r e)

  module _ (e : a ≡ Ok tt) (b : Bool) (bIs : b ≡ lets_write (policy_of policy) version) (r : Checked) where
    led : r ≡ checked (first behind) → Checks r
    led h = h ∙ sym (stage_passes (lead_checks version messageType suite) a aIs behind e)

    pub check_39 : b ≡ false → r ≡ Err (because 39 0) → Checks r
    check_39 g h = led (check_stop 39 _ _ r b bIs g h)

    module _ (g : b ≡ true) (n : ℕ) (nIs : n ≡ by version 16 32) where
      lets : r ≡ checked (first (check 24 (eqb id (id_length version)) ∷ [])) → Checks r
      lets h = led (check_pass 39 _ _ r b bIs g h)

      pub check_24 : (id ≡ n → ⊥) → r ≡ Err (because 24 0) → Checks r
      check_24 h q = lets (check_by 24 id (id_length version) [] r n nIs h q)

      pub all_checked : id ≡ n → r ≡ Ok tt → Checks r
      all_checked h q = lets (pass_by 24 id (id_length version) [] r n nIs h (check_end r q))
