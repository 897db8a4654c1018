-- The first refusal of a list of checks: there is none just where every check passes, and else it is the first that fails.
-- Assumes nothing.
use mathlib.Core.Path.{◌≡◌, refl, sym, ap, ◌∙◌}
use mathlib.Core.Bool.{Bool, true, false, ◌&&◌, ◌||◌}
use mathlib.Core.Logic.{◌⊎◌, inl, inr}
use mathlib.Core.Option.{Option, none, some}
use mathlib.Core.List.{List, [], ◌∷◌, ◌++◌}
use Prim.Native.Nat.{ℕ}
use native.Mathlib.Omega.{arith}
use Rattle.format.specs.Serialize.{every}
use Rattle.format.specs.Checks.{Check, check, first}
use Rattle.format.specs.Pinned.{FirstFails}

abbrev pub Holds : List Check → Type 0
Holds [] = Unit {0}
Holds (c ∷ cs) = (c.passes ≡ true) × Holds cs

pub holds : (cs : List Check) → first cs ≡ none → Holds cs
unfolding first
holds [] e = tt
holds (c ∷ cs) e = go c.passes refl e (holds cs)
  where
    go : (b : Bool) → c.passes ≡ b → ◌≡◌ {A = Option ℕ} (elim b as (λ x. Option ℕ) [ true ↦ first cs | false ↦ some c.number ]) none → (first cs ≡ none → Holds cs) → (c.passes ≡ true) × Holds cs
    go true h e k = (h, k e)
    go false h e k = let z : ◌≡◌ {A = ℕ} 0 1 = cc in absurd (omega arith)

pub unheld : (cs : List Check) → Holds cs → first cs ≡ none
unfolding first
unheld [] h = refl
unheld (c ∷ cs) (e, h) = rw (e, first) (unheld cs h)

pub split : (xs ys : List Check) → Holds (xs ++ ys) → Holds xs × Holds ys
split [] ys h = (tt, h)
split (x ∷ xs) ys (e, h) = let z = split xs ys h in ((e, z.0), z.1)

pub join : (xs ys : List Check) → Holds xs → Holds ys → Holds (xs ++ ys)
join [] ys h k = k
join (x ∷ xs) ys (e, h) k = (e, join xs ys h k)

pub both : (a b : Bool) → (a && b) ≡ true → (a ≡ true) × (b ≡ true)
both true b e = (refl, e)
both false b e = let z : ◌≡◌ {A = ℕ} 0 1 = cc in absurd (omega arith)

pub and : {a b : Bool} → a ≡ true → b ≡ true → (a && b) ≡ true
and e f = rw (e, f) refl

pub or_cases : (a b : Bool) → (a || b) ≡ true → (a ≡ true) ⊎ (b ≡ true)
or_cases true b e = inl refl
or_cases false b e = inr e

pub or_right : (a : Bool) {b : Bool} → b ≡ true → (a || b) ≡ true
or_right true e = refl
or_right false e = e

-- the first of one check, and of two lists: of the second where none of the first applies
pub first_pass : (m : ℕ) (b : Bool) (cs : List Check) → b ≡ true → first (check m b ∷ cs) ≡ first cs
unfolding first
first_pass m b cs e = rw e

pub first_stop : (m : ℕ) (b : Bool) (cs : List Check) → b ≡ false → first (check m b ∷ cs) ≡ some m
unfolding first
first_stop m b cs e = rw e

abbrev branch : Bool → Option ℕ → Check → Option ℕ
branch t o c = elim t [ true ↦ o | false ↦ some c.number ]

pub first_none : (a b : List Check) → first a ≡ none → first (a ++ b) ≡ first b
unfolding first
first_none [] b e = refl
first_none (c ∷ a) b e = go c.passes (first_none a b) e
  where
    go : (t : Bool) → (first a ≡ none → first (a ++ b) ≡ first b) → branch t (first a) c ≡ none → branch t (first (a ++ b)) c ≡ first b
    go true f e = f e
    go false f e = let z : ◌≡◌ {A = ℕ} 0 1 = cc in absurd (omega arith)

pub first_some : (a b : List Check) (k : ℕ) → first a ≡ some k → first (a ++ b) ≡ some k
unfolding first
first_some [] b k e = let z : ◌≡◌ {A = ℕ} 0 1 = cc in absurd (omega arith)
first_some (c ∷ a) b k e = go c.passes (first_some a b k) e
  where
    go : (t : Bool) → (first a ≡ some k → first (a ++ b) ≡ some k) → branch t (first a) c ≡ some k → branch t (first (a ++ b)) c ≡ some k
    go true f e = f e
    go false f e = e

-- checks that find the same find the same behind others, where those pass, and in front of others
pub first_cong : (a x y : List Check) → (first a ≡ none → first x ≡ first y) → first (a ++ x) ≡ first (a ++ y)
first_cong a x y f = go (first a) refl
  where
    go : (o : Option ℕ) → first a ≡ o → first (a ++ x) ≡ first (a ++ y)
    go none q = first_none a x q ∙ f q ∙ sym (first_none a y q)
    go (some k) q = first_some a x k q ∙ sym (first_some a y k q)

pub first_front : (x y c : List Check) → first x ≡ first y → first (x ++ c) ≡ first (y ++ c)
first_front x y c e = go (first x) refl
  where
    go : (o : Option ℕ) → first x ≡ o → first (x ++ c) ≡ first (y ++ c)
    go none q = first_none x c q ∙ sym (first_none y c (sym e ∙ q))
    go (some k) q = first_some x c k q ∙ sym (first_some y c k (sym e ∙ q))

pub first_fails : (checks : List Check) (k : ℕ) → first checks ≡ some k → FirstFails checks k
unfolding first every
first_fails [] k e = let z : ◌≡◌ {A = ℕ} 0 1 = cc in absurd (omega arith)
first_fails (c ∷ cs) k e = go c.passes refl e (first_fails cs k)
  where
    go : (b : Bool) → c.passes ≡ b → ◌≡◌ {A = Option ℕ} (elim b as (λ x. Option ℕ) [ true ↦ first cs | false ↦ some c.number ]) (some k) → (first cs ≡ some k → FirstFails cs k) → FirstFails (c ∷ cs) k
    go true h e ih =
        let z = ih e in
        record {
          before = c ∷ z.before;
          failing = z.failing;
          behind = z.behind;
          listed = ap (λ (xs : List Check). c ∷ xs) z.listed;
          before_pass = and h z.before_pass;
          fails = z.fails;
          its_number = z.its_number;
        }
    go false h e ih = record { before = []; failing = c; behind = cs; listed = refl; before_pass = refl; fails = h; its_number = cc }

pub fails_first : (checks : List Check) (k : ℕ) → FirstFails checks k → first checks ≡ some k
unfolding first every
fails_first checks k h = ap first h.listed ∙ skip h.before h.before_pass
  where
    skip : (ys : List Check) → every (λ (c : Check). c.passes) ys ≡ true → first (ys ++ (h.failing ∷ h.behind)) ≡ some k
    skip [] e = rw (h.fails, first) (ap some h.its_number)
    skip (y ∷ ys) e = let z = both y.passes _ e in rw (z.0, first) (skip ys z.1)
