-- What a reader says of the first bytes, it says of more of them, as a judgement that composes: sequence, test, counted repetition, an enclosed
-- section, a run of items; and the leaves. Assumes nothing.
use mathlib.Core.Path.{◌≡◌, refl, ap}
use mathlib.Core.Bool.{Bool, true, false}
use mathlib.Core.List.{List, [], ◌∷◌, ◌++◌}
use Prim.Native.Nat.{ℕ, zero, suc, ◌+◌, ◌-◌, ◌≤◌, ◌<◌}
use native.Mathlib.Omega.{arith}
use lib.Dec.{leb, eqb}
use lib.ListN.{length, drop, length-append, length-drop}
use lib.Seq.{take-append-le, drop-append-le}
use Rattle.format.specs.Read.{ReadResult, success, more_needed, error, Reader, go_on, ◌>>=◌, ◌>>◌, return, test, End, end_at, held, repeat, enclosed, Item, followed, last, behind, until, run}
use Rattle.format.specs.Serialize.{read, read_uint, read_uint8, read_uint16, read_uint32}
use Rattle.format.specs.FrameLaws.{Unbounded}
use Rattle.format.proofs.Tests.{is_leb, is_nleb, is_eqb}
use Rattle.format.proofs.Exact.{enclosed_fits, enclosed_short}
use Rattle.format.proofs.Serialize.{read_fits, read_short}

-- a result that ends at p or behind it; a refusal counts as one
abbrev pub Reaches : {A : Type 0} → ℕ → ReadResult A → Type 0
Reaches p (success a l t) = p ≤ t
Reaches p (more_needed q) = Unit {0}
Reaches p (error k) = Unit {0}

-- x is the result on bytes from s up to n, and y the one where the bytes e follow them. What is accepted or refused stays as it is; what is
-- wanted is wanted until it is there, and what is then accepted ends behind it.
abbrev pub Grows : {A : Type 0} → List ℕ → ℕ → ℕ → ReadResult A → ReadResult A → Type 0
Grows e s n (success a l t) y = (y ≡ success a (l ++ e) t) × (t + length l ≡ n) × (s ≤ t)
Grows e s n (more_needed p) y = (n + length e < p → y ≡ more_needed p) × Reaches p y
Grows e s n (error k) y = y ≡ error k

pub record Steady {A : Type 0} (r : Reader A) : Type 0 where
  pub grows : (l e : List ℕ) (s : ℕ) → Grows e s (s + length l) (r l s) (r (l ++ e) s)

module _ {A : Type 0} where
  -- a reader ends behind its start
  forwards : (s p n : ℕ) (x y : ReadResult A) → p ≤ s → Grows [] s n x y → Reaches p x
  forwards s p n (success a l t) y h g = let z = g.2 in omega arith
  forwards s p n (more_needed q) y h g = tt
  forwards s p n (error k) y h g = tt

  from_behind : (s p n : ℕ) (e : List ℕ) (x y : ReadResult A) → p ≤ s → Grows e s n x y → Grows e p n x y
  from_behind s p n e (success a l t) y h g = let z = g.2 in (g.0, g.1, omega arith)
  from_behind s p n e (more_needed q) y h g = g
  from_behind s p n e (error k) y h g = g

module _ {A B : Type 0} where
  reaches_on : (f : A → Reader B) → ((a : A) → Steady (f a)) → (p : ℕ) (y : ReadResult A) → Reaches p y → Reaches p (go_on y f)
  reaches_on f hf p (success a l t) h = forwards t p (t + length l) (f a l t) (f a (l ++ []) t) h ((hf a).grows l [] t)
  reaches_on f hf p (more_needed q) h = tt
  reaches_on f hf p (error k) h = tt

  pub goes_on : (f : A → Reader B) → ((a : A) → Steady (f a)) → (e : List ℕ) (s n : ℕ) (x y : ReadResult A) → Grows e s n x y → Grows e s n (go_on x f) (go_on y f)
  goes_on f hf e s n (success a l t) y (p, q, h) = rw (p, ← q) (from_behind t s (t + length l) e (f a l t) (f a (l ++ e) t) h ((hf a).grows l e t))
  goes_on f hf e s n (more_needed p) y (h, k) = (λ z. rw (h z), reaches_on f hf p y k)
  goes_on f hf e s n (error k) y h = rw h

  pub bind_steady : {r : Reader A} {f : A → Reader B} → Steady r → ((a : A) → Steady (f a)) → Steady (r >>= f)
  unfolding ◌>>=◌
  bind_steady {r} {f} hr hf = record { grows = λ l e s. goes_on f hf e s (s + length l) (r l s) (r (l ++ e) s) (hr.grows l e s) }

  pub then_steady : {r : Reader A} {q : Reader B} → Steady r → Steady q → Steady (r >> q)
  unfolding ◌>>◌
  then_steady {r} {q} hr hq = record { grows = λ l e s. goes_on (λ a. q) (λ a. hq) e s (s + length l) (r l s) (r (l ++ e) s) (hr.grows l e s) }

pub return_steady : {A : Type 0} (a : A) → Steady (return a)
unfolding return
return_steady a = record { grows = λ l e s. (refl, refl, omega arith) }

pub test_steady : (k : ℕ) (b : Bool) → Steady (test k b)
unfolding test
test_steady k true = record { grows = λ l e s. (refl, refl, omega arith) }
test_steady k false = record { grows = λ l e s. refl }

pub held_steady : (e : End) (n : ℕ) → Steady (held e n)
unfolding held
held_steady e n = record { grows = λ l e s. (test_steady 32 _).grows l e s }

-- a reader that wants n bytes before all else: where they are there, it goes on steadily, and ends behind them
needs_steady : {A : Type 0} (n : ℕ) {r : Reader A} → ((l : List ℕ) (s : ℕ) → length l < n → r l s ≡ more_needed (s + n))
    → ((l e : List ℕ) (s : ℕ) → n ≤ length l → Grows e s (s + length l) (r l s) (r (l ++ e) s)) → ((l : List ℕ) (s : ℕ) → n ≤ length l → Reaches (s + n) (r l s)) → Steady r
needs_steady n {r} short fits ends = record { grows = λ l e s. go l e s (leb n (length l)) refl }
  where
    go : (l e : List ℕ) (s : ℕ) (b : Bool) → leb n (length l) ≡ b → Grows e s (s + length l) (r l s) (r (l ++ e) s)
    go l e s true h = fits l e s (is_leb _ _ h)
    go l e s false h = rw (short l s (is_nleb _ _ h)) (later (leb n (length (l ++ e))) refl)
      where
        later : (b : Bool) → leb n (length (l ++ e)) ≡ b → Grows e s (s + length l) (more_needed (s + n)) (r (l ++ e) s)
        later true z = let k : n ≤ length (l ++ e) = is_leb _ _ z in let d = length-append l e in (λ f. absurd (omega arith), ends (l ++ e) s k)
        later false z = rw (short (l ++ e) s (is_nleb _ _ z)) (λ f. refl, tt)

pub read_steady : (n : ℕ) → Steady (read n)
read_steady n = needs_steady n (read_short n) fits (λ l s h. rw (read_fits n l s h) (omega arith))
  where
    fits : (l e : List ℕ) (s : ℕ) → n ≤ length l → Grows e s (s + length l) (read n l s) (read n (l ++ e) s)
    fits l e s h =
        let d : length (drop n l) ≡ length l - n = length-drop n l in
        rw (read_fits n l s h, read_fits n (l ++ e) s (simp length-append (omega arith)), take-append-le n l e h, drop-append-le n l e h) (refl, omega arith, omega arith)

-- numbers
uint_steady : (width : ℕ) → Steady (read_uint width)
unfolding read_uint
uint_steady width = bind_steady (read_steady width) (λ p. return_steady _)

pub uint8_steady : Steady read_uint8
unfolding read_uint8
uint8_steady = uint_steady 1

pub uint16_steady : Steady read_uint16
unfolding read_uint16
uint16_steady = uint_steady 2

pub uint32_steady : Steady read_uint32
unfolding read_uint32
uint32_steady = uint_steady 4

module _ {A : Type 0} where
  pub repeat_steady : (n : ℕ) {step : List A → Reader A} → ((acc : List A) → Steady (step acc)) → (acc : List A) → Steady (repeat n step acc)
  unfolding repeat
  repeat_steady zero h acc = return_steady acc
  repeat_steady (suc n) h acc = bind_steady (h acc) (λ a. repeat_steady n h (acc ++ (a ∷ [])))

  ends_there : (s n k : ℕ) (a : A) → Steady (λ l' t. go_on (test k (eqb t (s + n)) l' t) (λ u. return a))
  unfolding ◌>>◌
  ends_there s n k a = record { grows = λ l e t. (then_steady (test_steady k (eqb t (s + n))) (return_steady a)).grows l e t }

  at_its_end : (s n k : ℕ) (x : ReadResult A) → Reaches (s + n) (go_on x (λ a l' t. go_on (test k (eqb t (s + n)) l' t) (λ u. return a)))
  unfolding test return
  at_its_end s n k (success a l t) = by (eqb t (s + n)) refl
    where
      by : (b : Bool) → eqb t (s + n) ≡ b → Reaches (s + n) (go_on (test k b l t) (λ u. return a))
      by true h = let z = is_eqb t (s + n) h in omega arith
      by false h = tt
  at_its_end s n k (more_needed p) = tt
  at_its_end s n k (error j) = tt

  pub enclosed_steady : (n k : ℕ) {r : End → Reader A} → ((e : End) → Steady (r e)) → Steady (enclosed n k r)
  unfolding ◌>>=◌
  enclosed_steady n k {r} hr = needs_steady n (enclosed_short n k r) fits (λ l s h. rw (enclosed_fits n k r l s h) (at_its_end s n k (r (end_at (s + n)) l s)))
    where
      fits : (l e : List ℕ) (s : ℕ) → n ≤ length l → Grows e s (s + length l) (enclosed n k r l s) (enclosed n k r (l ++ e) s)
      fits l e s h =
          rw (enclosed_fits n k r l s h, enclosed_fits n k r (l ++ e) s (simp length-append (omega arith))) ((bind_steady (hr (end_at (s + n))) (ends_there s n k)).grows l e s)

-- a run of items: its bound is one above the bytes left, and any larger one gives the same
module _ {A : Type 0} {step : List A → Reader (Item A)} (h : (acc : List A) → Steady (step acc)) where
  behind_steady : {rest : List A → Reader (List A)} → ((acc : List A) → Steady (rest acc)) → (acc : List A) (x : Item A) → Steady (behind rest acc x)
  behind_steady g acc (followed a) = g (acc ++ (a ∷ []))
  behind_steady g acc (last a) = return_steady _

  until_steady : (n : ℕ) (acc : List A) → Steady (until n step acc)
  unfolding until
  until_steady zero acc = record { grows = λ l e s. (λ z. (let d = length-append l e in let q : s + suc (length (l ++ e)) ≡ s + suc (length l) = omega arith in ap more_needed q), tt) }
  until_steady (suc n) acc = record { grows = λ l e s. (bind_steady (h acc) (behind_steady (until_steady n) acc)).grows l e s }

  pub run_steady : Unbounded step → (acc : List A) → Steady (run step acc)
  run_steady u acc = record { grows = λ l e s. go l e s }
    where
      go : (l e : List ℕ) (s : ℕ) → Grows e s (s + length l) (run step acc l s) (run step acc (l ++ e) s)
      go l e s =
          let d = length-append l e in
          let n = suc (length (l ++ e)) in
          rw (← u.any_bound n acc l s (omega arith), ← u.any_bound n acc (l ++ e) s (omega arith)) ((until_steady n acc).grows l e s)

pub ruleset steady = (bind_steady, then_steady, return_steady, test_steady, held_steady, read_steady, uint8_steady, uint16_steady, uint32_steady, repeat_steady, enclosed_steady)
