-- What a table of calls answers, number by number. Assumes nothing.
use mathlib.Core.Path.{◌≡◌, refl, sym, ap, ◌∙◌}
use mathlib.Core.Bool.{true}
use mathlib.Core.Logic.{◌⊎◌, ⊎_elim}
use mathlib.Core.Option.{Option, some}
use mathlib.Core.List.Memᴰ
use mathlib.Core.List.{List, [], ◌∷◌, map, Memᴰ}
use Prim.Native.Nat.{ℕ}
use native.Mathlib.Omega.{arith}
use Rattle.format.specs.Read.{Reader, Answer, accepted, refused, operation}
use Rattle.format.proofs.Members.{has_all, members}
use Rattle.cases.specs.Occurs.{Answers}
use Rattle.cases.proofs.Calls.{number_of, Call, said}

-- a number that is answered by a call
pub answered : {A : Type 0} (r : Reader A) (c : Call) (k : ℕ) → said r c ≡ some k → Answers r k
unfolding said
answered {A} r (m, s) k e = go (operation r m s) refl e
  where
    go : (a : Answer A) → operation r m s ≡ a → number_of a ≡ some k → Answers r k
    go (accepted a t) q e = let z : ◌≡◌ {A = ℕ} 0 1 = cc in absurd (omega arith)
    go (refused j p) q e = let same : j ≡ k = cc in record { message = m; start = s; position = p; answers = q ∙ ap (λ n. refused n p) same }

-- answers that are the numbers of a list answer each of them
pub among : {C : Type 0} (f : C → Option ℕ) (cs : List C) (ks : List ℕ) → map f cs ≡ map some ks → (k : ℕ) → Memᴰ k ks → (c : C) × (f c ≡ some k)
among f [] [] e k h = absurd (Memᴰ.not-nil h)
among f [] (j ∷ ks) e k h = let z : ◌≡◌ {A = ℕ} 0 1 = cc in absurd (omega arith)
among f (c ∷ cs) [] e k h = let z : ◌≡◌ {A = ℕ} 0 1 = cc in absurd (omega arith)
among f (c ∷ cs) (j ∷ ks) e k h =
    let e₁ : f c ≡ some j = cc in
    let e₂ : map f cs ≡ map some ks = cc in
    ⊎_elim (λ q. (c, e₁ ∙ ap some (sym q))) (among f cs ks e₂ k) (Memᴰ.cases_cons h)

pub each_answered : {A : Type 0} (r : Reader A) (cs : List Call) (ks : List ℕ) → map (said r) cs ≡ map some ks → (k : ℕ) → Memᴰ k ks → Answers r k
each_answered r cs ks e k h = let (c, q) = among (said r) cs ks e k h in answered r c k q

-- a list is made of another and of one number more
pub one_apart : (x : ℕ) (js ks : List ℕ) → has_all (x ∷ js) ks ≡ true → (k : ℕ) → Memᴰ k ks → (k ≡ x) ⊎ Memᴰ k js
one_apart x js ks e k h = Memᴰ.cases_cons (members (x ∷ js) ks e k h)
