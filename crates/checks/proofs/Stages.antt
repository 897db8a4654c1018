-- Laws of the first refusal that applies: of a check, and of checks in stages. Assumes nothing.
use Prim.Native.Nat.{ℕ, ◌≤◌, ◌<◌}
use mathlib.Core.Path.{◌≡◌, refl, sym, ap, ◌∙◌}
use mathlib.Core.Option.{Option, none, some}
use mathlib.Core.Bool.{Bool, true, false, not}
use mathlib.Core.List.{List, [], ◌∷◌, ◌++◌}
use lib.Dec.{leb, eqb}
use borrow.Author.Tests.{eq-eqb, ne_eqb, le-leb, lt-leb}
use Rattle.format.specs.Checks.{Check, check, first}
use Rattle.format.proofs.Firsts.{holds, unheld, split, first_pass, first_stop, first_none, first_some}
use Rattle.wire.specs.Codes.{because}
use Rattle.wire.specs.declared.refusals.Refusal.{Refusal}
use Rattle.checks.specs.Answers.{Checked, checked}
use Rattle.std.specs.Prelude.{Ok, Err}

-- checks in two stages that all pass
pub front : (a b : List Check) → first (a ++ b) ≡ none → first a ≡ none
front a b e = unheld a (split a b (holds (a ++ b) e)).0

pub back : (a b : List Check) → first (a ++ b) ≡ none → first b ≡ none
back a b e = unheld b (split a b (holds (a ++ b) e)).1

pub passes_none : (o : Option ℕ) → checked o ≡ Ok tt → o ≡ none
passes_none none e = refl
passes_none (some k) e = cc

-- what the code found of a stage
module _ (a : List Check) (c : Checked) (is : c ≡ checked (first a)) where
  pub stage_none : c ≡ Ok tt → first a ≡ none
  stage_none e = passes_none (first a) (sym is ∙ e)

  pub stage_some : (r : Refusal) → c ≡ Err r → (k : ℕ) × (first a ≡ some k) × (◌≡◌ {A = Checked} (Err r) (checked (some k)))
  stage_some r e = go (first a) refl
    where
      go : (o : Option ℕ) → first a ≡ o → (k : ℕ) × (first a ≡ some k) × (◌≡◌ {A = Checked} (Err r) (checked (some k)))
      go none q = let f = sym is ∙ e in cc
      go (some k) q = (k, q, sym e ∙ is ∙ ap checked q)

  pub stage_passes : (b : List Check) → c ≡ Ok tt → checked (first (a ++ b)) ≡ checked (first b)
  stage_passes b e = ap checked (first_none a b (stage_none e))

  pub stage_fails : (b : List Check) (r : Refusal) → c ≡ Err r → checked (first (a ++ b)) ≡ Err r
  stage_fails b r e = let (k, q, f) = stage_some r e in ap checked (first_some a b k q) ∙ sym f

-- one check of a chain, which the code tests by t
module _ (k : ℕ) (b : Bool) (cs : List Check) (r : Checked) (t : Bool) (is : t ≡ b) where
  pub check_stop : t ≡ false → r ≡ Err (because k 0) → r ≡ checked (first (check k b ∷ cs))
  check_stop f e = e ∙ sym (ap checked (first_stop k b cs (sym is ∙ f)))

  pub check_pass : t ≡ true → r ≡ checked (first cs) → r ≡ checked (first (check k b ∷ cs))
  check_pass f e = e ∙ sym (ap checked (first_pass k b cs (sym is ∙ f)))

-- and where it compares two numbers
module _ (k x y : ℕ) (cs : List Check) (r : Checked) where
  pub check_eq : (x ≡ y → ⊥) → r ≡ Err (because k 0) → r ≡ checked (first (check k (eqb x y) ∷ cs))
  check_eq h e = e ∙ sym (ap checked (first_stop k (eqb x y) cs (ne_eqb _ _ h)))

  pub pass_eq : x ≡ y → r ≡ checked (first cs) → r ≡ checked (first (check k (eqb x y) ∷ cs))
  pass_eq h e = e ∙ sym (ap checked (first_pass k (eqb x y) cs (eq-eqb _ _ h)))

module _ (k x y : ℕ) (cs : List Check) (r : Checked) where
  pub check_ne : x ≡ y → r ≡ Err (because k 0) → r ≡ checked (first (check k (not (eqb x y)) ∷ cs))
  check_ne h e = e ∙ sym (ap checked (first_stop k (not (eqb x y)) cs (ap not (eq-eqb _ _ h))))

  pub pass_ne : (x ≡ y → ⊥) → r ≡ checked (first cs) → r ≡ checked (first (check k (not (eqb x y)) ∷ cs))
  pass_ne h e = e ∙ sym (ap checked (first_pass k (not (eqb x y)) cs (ap not (ne_eqb _ _ h))))

module _ (k x y : ℕ) (cs : List Check) (r : Checked) where
  pub check_le : y < x → r ≡ Err (because k 0) → r ≡ checked (first (check k (leb x y) ∷ cs))
  check_le h e = e ∙ sym (ap checked (first_stop k (leb x y) cs (lt-leb _ _ h)))

  pub pass_le : x ≤ y → r ≡ checked (first cs) → r ≡ checked (first (check k (leb x y) ∷ cs))
  pass_le h e = e ∙ sym (ap checked (first_pass k (leb x y) cs (le-leb _ _ h)))

pub check_end : (r : Checked) → r ≡ Ok tt → r ≡ checked (first [])
unfolding first
check_end r e = e
