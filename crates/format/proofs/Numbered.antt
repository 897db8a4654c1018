-- Which refusals checks can find, as a judgement that composes: lists one behind the other, a check, the checks of each item. Assumes nothing.
use mathlib.Core.Path.{◌≡◌, refl, sym, ◌∙◌}
use mathlib.Core.Bool.{Bool, true, false}
use mathlib.Core.Option.{Option, none, some}
use mathlib.Core.List.{List, [], ◌∷◌, ◌++◌}
use Prim.Native.Nat.{ℕ}
use native.Mathlib.Omega.{arith}
use Rattle.format.specs.Checks.{Check, check, first, each}
use Rattle.format.proofs.Firsts.{first_none, first_some}
use Rattle.format.proofs.Members.{has, has_all, is_member, member_is, members}

-- the refusal that they find is of the list
pub record Numbered (ks : List ℕ) (cs : List Check) : Type 0 where
  pub found : (k : ℕ) → first cs ≡ some k → has ks k ≡ true

pub none_numbered : {ks : List ℕ} → Numbered ks []
unfolding first
none_numbered = record { found = λ k e. (let z : ◌≡◌ {A = ℕ} 0 1 = cc in absurd (omega arith)) }

pub then_numbered : {ks : List ℕ} {xs ys : List Check} → Numbered ks xs → Numbered ks ys → Numbered ks (xs ++ ys)
then_numbered {ks} {xs} {ys} hx hy = record { found = λ k e. go k (first xs) refl e }
  where
    go : (k : ℕ) (o : Option ℕ) → first xs ≡ o → first (xs ++ ys) ≡ some k → has ks k ≡ true
    go k none q e = hy.found k (sym (first_none xs ys q) ∙ e)
    go k (some j) q e = hx.found k (q ∙ sym (first_some xs ys j q) ∙ e)

pub check_numbered : {ks : List ℕ} {cs : List Check} (k : ℕ) {b : Bool} → has ks k ≡ true → Numbered ks cs → Numbered ks (check k b ∷ cs)
unfolding first
check_numbered {ks} {cs} k {b} h rest = record { found = λ j e. go j b e }
  where
    go : (j : ℕ) (b : Bool) → ◌≡◌ {A = Option ℕ} (elim b as (λ x. Option ℕ) [ true ↦ first cs | false ↦ some k ]) (some j) → has ks j ≡ true
    go j true e = rest.found j e
    go j false e = let z : k ≡ j = cc in rw z at h

-- a check that never fails
pub sure_numbered : {ks : List ℕ} {cs : List Check} (k : ℕ) → Numbered ks cs → Numbered ks (check k true ∷ cs)
unfolding first
sure_numbered k rest = record { found = rest.found }

-- by a list that has every number of the other
pub numbered_as : {ks : List ℕ} (js : List ℕ) → has_all js ks ≡ true → {cs : List Check} → Numbered ks cs → Numbered js cs
numbered_as {ks} js e h = record { found = λ k f. member_is js k (members js ks e k (is_member ks k (h.found k f))) }

pub each_numbered : {A : Type 0} {ks : List ℕ} (f : List A → A → List Check) → ((done : List A) (x : A) → Numbered ks (f done x)) → (done xs : List A) → Numbered ks (each f done xs)
unfolding each
each_numbered f h done [] = none_numbered
each_numbered f h done (x ∷ xs) = then_numbered (h done x) (each_numbered f h (done ++ (x ∷ [])) xs)
