-- What a reader wants is near, as a judgement that composes: sequence, test, counted repetition, an enclosed section; and the leaves.
-- Assumes nothing.
use mathlib.Core.Path.{◌≡◌, refl}
use mathlib.Core.Bool.{Bool, true, false}
use mathlib.Core.List.{List, [], ◌∷◌, ◌++◌}
use Prim.Native.Nat.{ℕ, zero, suc, ◌+◌, ◌-◌, ◌≤◌, ◌<◌}
use native.Mathlib.Omega.{arith}
use lib.Dec.{leb, eqb}
use lib.ListN.{length, drop, length-drop}
use Rattle.format.specs.Read.{ReadResult, success, more_needed, error, Reader, go_on, ◌>>=◌, ◌>>◌, return, test, End, end_at, held, repeat, enclosed}
use Rattle.format.specs.Serialize.{Bytes, read, read_uint, read_uint8, read_uint16, read_uint32}
use Rattle.format.proofs.Tests.{is_leb, is_nleb}
use Rattle.format.proofs.Exact.{enclosed_fits, enclosed_short}
use Rattle.format.proofs.Serialize.{read_fits, read_short, uint16_exact}
use Rattle.format.proofs.Messages.{bytes_drop}

-- of a reader that had the bytes up to the place n: where it succeeds, what it read is good and those behind its tail are left;
-- and what it wants lies fewer than b bytes behind n
abbrev pub Near : {A : Type 0} → ℕ → (A → Type 0) → ℕ → ReadResult A → Type 0
Near b good n (success a l t) = good a × Bytes l × (t + length l ≡ n)
Near b good n (more_needed p) = p < n + b
Near b good n (error k) = Unit {0}

pub record Wants {A : Type 0} (b : ℕ) (good : A → Type 0) (r : Reader A) : Type 0 where
  pub near : (l : List ℕ) (s : ℕ) → Bytes l → Near b good (s + length l) (r l s)

abbrev pub Any : {A : Type 0} → A → Type 0
Any a = Unit {0}

module _ {A B : Type 0} {b : ℕ} where
  pub goes_on : (good : A → Type 0) (fine : B → Type 0) (f : A → Reader B) → ((a : A) → good a → Wants b fine (f a)) → (n : ℕ) (x : ReadResult A) → Near b good n x → Near b fine n (go_on x f)
  goes_on good fine f hf n (success a l t) h = rw h.2 at ((hf a h.0).near l t h.1)
  goes_on good fine f hf n (more_needed p) h = h
  goes_on good fine f hf n (error k) h = h

  pub bind_wants : {good : A → Type 0} {fine : B → Type 0} {r : Reader A} {f : A → Reader B} → Wants b good r → ((a : A) → good a → Wants b fine (f a)) → Wants b fine (r >>= f)
  unfolding ◌>>=◌
  bind_wants {good} {fine} {r} {f} hr hf = record { near = λ l s hb. goes_on good fine f hf (s + length l) (r l s) (hr.near l s hb) }

  pub then_wants : {good : A → Type 0} {fine : B → Type 0} {r : Reader A} {q : Reader B} → Wants b good r → Wants b fine q → Wants b fine (r >> q)
  unfolding ◌>>◌
  then_wants {good} {fine} {r} {q} hr hq = record { near = λ l s hb. goes_on good fine (λ a. q) (λ a h. hq) (s + length l) (r l s) (hr.near l s hb) }

pub return_wants : {A : Type 0} {b : ℕ} (a : A) → Wants b Any (return a)
unfolding return
return_wants a = record { near = λ l s hb. (tt, hb, refl) }

pub test_wants : {b : ℕ} (k : ℕ) (c : Bool) → Wants b Any (test k c)
unfolding test
test_wants k true = record { near = λ l s hb. (tt, hb, refl) }
test_wants k false = record { near = λ l s hb. tt }

-- behind a test it is known that it passed
pub tested_wants : {A : Type 0} {b : ℕ} (k : ℕ) (c : Bool) {q : Reader A} → (c ≡ true → Wants b Any q) → Wants b Any (test k c >> q)
unfolding test ◌>>◌
tested_wants {b = b} k c {q} h = by c refl
  where
    by : (d : Bool) → c ≡ d → Wants b Any (test k d >> q)
    by true e = record { near = (h e).near }
    by false e = record { near = λ l s hb. tt }

pub held_wants : {b : ℕ} (e : End) (n : ℕ) → Wants b Any (held e n)
unfolding held
held_wants e n = record { near = λ l s. (test_wants 32 _).near l s }

pub read_wants : {b : ℕ} (n : ℕ) → n < b → Wants b Any (read n)
read_wants {b} n few = record { near = λ l s hb. go l s hb (leb n (length l)) refl }
  where
    go : (l : List ℕ) (s : ℕ) → Bytes l → (c : Bool) → leb n (length l) ≡ c → Near b Any (s + length l) (read n l s)
    go l s hb true e =
        let h : n ≤ length l = is_leb _ _ e in
        let d : length (drop n l) ≡ length l - n = length-drop n l in
        rw (read_fits n l s h) (tt, bytes_drop n l hb, omega arith)
    go l s hb false e = let h : length l < n = is_nleb _ _ e in rw (read_short n l s h) (omega arith)

module _ {A : Type 0} {b : ℕ} where
  pub repeat_wants : (n : ℕ) {step : List A → Reader A} → ((acc : List A) → Wants b Any (step acc)) → (acc : List A) → Wants b Any (repeat n step acc)
  unfolding repeat return
  repeat_wants zero h acc = record { near = λ l s hb. (tt, hb, refl) }
  repeat_wants (suc n) h acc = bind_wants (h acc) (λ a g. repeat_wants n h (acc ++ (a ∷ [])))

  end_wants : (s n k : ℕ) (a : A) → Wants b Any (λ l' t. go_on (test k (eqb t (s + n)) l' t) (λ u. return a))
  unfolding test return
  end_wants s n k a = record { near = λ l t hb. go (eqb t (s + n)) l t hb }
    where
      go : (c : Bool) (l : List ℕ) (t : ℕ) → Bytes l → Near b Any (t + length l) (go_on (test k c l t) (λ u. return a))
      go true l t hb = (tt, hb, refl)
      go false l t hb = tt

  pub enclosed_wants : (n k : ℕ) (r : End → Reader A) → n < b → ((e : End) → Wants b Any (r e)) → Wants b Any (enclosed n k r)
  enclosed_wants n k r few hr = record { near = λ l s hb. go l s hb (leb n (length l)) refl }
    where
      go : (l : List ℕ) (s : ℕ) → Bytes l → (c : Bool) → leb n (length l) ≡ c → Near b Any (s + length l) (enclosed n k r l s)
      go l s hb true e = rw (enclosed_fits n k r l s (is_leb _ _ e)) ((bind_wants (hr (end_at (s + n))) (λ a g. end_wants s n k a)).near l s hb)
      go l s hb false e = let h : length l < n = is_nleb _ _ e in rw (enclosed_short n k r l s h) (omega arith)

-- of what stands in a header: a length of two bytes is below 65,536
abbrev pub Header : {A : Type 0} → (A → Type 0) → Reader A → Type 0
Header good r = Wants 65536 good r

-- the leaves
uint_wants : {b : ℕ} (width : ℕ) → width < b → Wants b Any (read_uint width)
unfolding read_uint
uint_wants width h = bind_wants (read_wants width h) (λ p g. return_wants _)

pub uint8_wants : Header Any read_uint8
unfolding read_uint8
uint8_wants = uint_wants 1 (omega arith)

pub uint32_wants : {b : ℕ} → 4 < b → Wants b Any read_uint32
unfolding read_uint32
uint32_wants h = uint_wants 4 h

uint16_any : Header Any read_uint16
unfolding read_uint16
uint16_any = uint_wants 2 (omega arith)

pub uint16_wants : Header (λ n. n < 65536) read_uint16
uint16_wants = record { near = λ l s hb. go l s hb (read_uint16 l s) refl (uint16_any.near l s hb) }
  where
    go : (l : List ℕ) (s : ℕ) → Bytes l → (x : ReadResult ℕ) → read_uint16 l s ≡ x → Near 65536 Any (s + length l) x → Near 65536 (λ n. n < 65536) (s + length l) x
    go l s hb (success a l' t) e h = let w = uint16_exact.sound l s a l' t hb e in (rw w.placed w.good, h.1, h.2)
    go l s hb (more_needed p) e h = h
    go l s hb (error k) e h = h
