-- The places at which the parts of a message end that a reader reads: what it wants of less of the message is among them. A judgement that composes:
-- sequence, test, counted repetition; and the leaves. Assumes nothing.
use mathlib.Core.Path.{◌≡◌, refl, subst}
use mathlib.Core.Bool.{Bool, true, false, not}
use mathlib.Core.List.Memᴰ
use mathlib.Core.List.{List, [], ◌∷◌, ◌++◌, Memᴰ}
use Prim.Native.Nat.{ℕ, zero, suc, ◌+◌, ◌*◌, ◌≤◌}
use native.Mathlib.Omega.{arith}
use native.Mathlib.Nat.{suc-mul}
use lib.Dec.{leb}
use lib.ListN.{length, length-append}
use Rattle.format.specs.Read.{ReadResult, success, more_needed, error, Reader, go_on, ◌>>=◌, ◌>>◌, return, test, End, past, held, repeat}
use Rattle.format.specs.Serialize.{Bytes, read, read_uint, read_uint8, read_uint16, read_uint32}
use Rattle.format.proofs.Tests.{is_leb, is_nleb}
use Rattle.format.proofs.Serialize.{read_fits, read_short}
use Rattle.format.proofs.Helps.{Asks, asks_as}
use Rattle.format.proofs.SteadyLaws.{Grows, Steady, read_steady}
use Rattle.format.proofs.WantedLaws.{Near, Wants}
use Rattle.format.proofs.Exact.{more_is_no_success, error_is_no_success}
use Rattle.format.proofs.Takes.{un_go_on, un_test}

-- what is wanted, if anything is, is among the places
abbrev pub Among : {A : Type 0} → List ℕ → ReadResult A → Type 0
Among ps x = Asks (λ p. Memᴰ p ps) x

-- places for each message, such that a run on less of it wants one of them
abbrev pub Covers : {A : Type 0} → (List ℕ → ℕ → List ℕ) → Reader A → Type 0
Covers places r = (l e : List ℕ) (s : ℕ) → Among (places (l ++ e) s) (r l s)

pub among_behind : {A : Type 0} (ps qs : List ℕ) (x : ReadResult A) → Among qs x → Among (ps ++ qs) x
among_behind ps qs x h = asks_as (λ p. Memᴰ p qs) (λ p. Memᴰ p (ps ++ qs)) (λ p z. Memᴰ.append_right ps z) x h

-- behind a success, the places of what follows it
abbrev pub places_behind : {A : Type 0} → (A → List ℕ → ℕ → List ℕ) → ReadResult A → List ℕ
places_behind next (success a l t) = next a l t
places_behind next (more_needed p) = []
places_behind next (error k) = []

module _ {A B : Type 0} where
  covers_both : (r : Reader A) (f : A → Reader B) (places : List ℕ → ℕ → List ℕ) (next : A → List ℕ → ℕ → List ℕ) → Steady r → Covers places r → ((a : A) → Covers (next a) (f a))
      → Covers (λ l s. places l s ++ places_behind next (r l s)) (r >>= f)
  unfolding ◌>>=◌
  covers_both r f places next hs hr hf l e s = go (r l s) (r (l ++ e) s) (hs.grows l e s) (hr l e s)
    where
      go : (x y : ReadResult A) → Grows e s (s + length l) x y → Among (places (l ++ e) s) x → Among (places (l ++ e) s ++ places_behind next y) (go_on x f)
      go (success a l' t) y g h = rw g.0 (among_behind (places (l ++ e) s) (next a (l' ++ e) t) (f a l' t) (hf a l' e t))
      go (more_needed p) y g h = Memᴰ.append_left _ h
      go (error k) y g h = tt

-- at most n places, whatever the message
pub record Parts {A : Type 0} (n : ℕ) (r : Reader A) : Type 0 where
  pub places : List ℕ → ℕ → List ℕ
  pub covers : Covers places r
  pub few : (l : List ℕ) (s : ℕ) → length (places l s) ≤ n

module _ {A : Type 0} where
  pub more_parts : {n : ℕ} (k : ℕ) {r : Reader A} → Parts n r → n ≤ k → Parts k r
  more_parts k h f = record { places = h.places; covers = h.covers; few = λ l s. (let z = h.few l s in omega arith) }

module _ {A B : Type 0} where
  pub bind_parts : {n k : ℕ} {r : Reader A} {f : A → Reader B} → Steady r → Parts n r → ((a : A) → Parts k (f a)) → Parts (n + k) (r >>= f)
  bind_parts {n} {k} {r} {f} hs hr hf =
      record {
        places = λ l s. hr.places l s ++ places_behind (λ a. (hf a).places) (r l s);
        covers = covers_both r f hr.places (λ a. (hf a).places) hs hr.covers (λ a. (hf a).covers);
        few = λ l s. (let z = hr.few l s in let y = rest (r l s) in let x = length-append (hr.places l s) (places_behind (λ a. (hf a).places) (r l s)) in omega arith);
      }
    where
      rest : (x : ReadResult A) → length (places_behind (λ a. (hf a).places) x) ≤ k
      rest (success a l t) = (hf a).few l t
      rest (more_needed p) = omega arith
      rest (error j) = omega arith

module _ {A : Type 0} where
  pub return_parts : (a : A) → Parts 0 (return a)
  unfolding return
  return_parts a = record { places = λ l s. []; covers = λ l e s. tt; few = λ l s. omega arith }

  -- a test wants nothing
  test_covers : (k : ℕ) (b : Bool) (q : Reader A) (places : List ℕ → ℕ → List ℕ) → Covers places q → Covers places (test k b >> q)
  unfolding test ◌>>◌
  test_covers k true q places h l e s = h l e s
  test_covers k false q places h l e s = tt

  pub test_parts : {n : ℕ} (k : ℕ) (b : Bool) {q : Reader A} → Parts n q → Parts n (test k b >> q)
  test_parts k b {q} h = record { places = h.places; covers = test_covers k b q h.places h.covers; few = h.few }

  pub held_parts : {n : ℕ} (x : End) (k : ℕ) {q : Reader A} → Parts n q → Parts n (held x k >> q)
  unfolding held ◌>>◌
  held_parts x k {q} h = record { places = h.places; covers = λ l e s. test_covers 32 (not (past x (s + k))) q h.places h.covers l e s; few = h.few }

pub read_parts : (n : ℕ) → Parts 1 (read n)
read_parts n = record { places = λ l s. (s + n) ∷ []; covers = λ l e s. go l s (leb n (length l)) refl; few = λ l s. omega arith }
  where
    go : (l : List ℕ) (s : ℕ) (b : Bool) → leb n (length l) ≡ b → Among ((s + n) ∷ []) (read n l s)
    go l s true h = rw (read_fits n l s (is_leb _ _ h)) tt
    go l s false h = rw (read_short n l s (is_nleb _ _ h)) (Memᴰ.head refl)

uint_parts : (width : ℕ) → Parts 1 (read_uint width)
unfolding read_uint
uint_parts width = more_parts 1 (bind_parts (read_steady width) (read_parts width) (λ p. return_parts _)) (omega arith)

pub uint8_parts : Parts 1 read_uint8
unfolding read_uint8
uint8_parts = uint_parts 1

pub uint16_parts : Parts 1 read_uint16
unfolding read_uint16
uint16_parts = uint_parts 2

pub uint32_parts : Parts 1 read_uint32
unfolding read_uint32
uint32_parts = uint_parts 4

module _ {A : Type 0} {k : ℕ} where
  pub repeat_parts : (n : ℕ) {step : List A → Reader A} → ((acc : List A) → Steady (step acc)) → ((acc : List A) → Parts k (step acc)) → (acc : List A) → Parts (n * k) (repeat n step acc)
  unfolding repeat
  repeat_parts zero hs h acc = more_parts (0 * k) (return_parts acc) (omega arith)
  repeat_parts (suc n) hs h acc = more_parts (suc n * k) (bind_parts (hs acc) (h acc) (λ a. repeat_parts n hs h (acc ++ (a ∷ [])))) (rw (suc-mul n k) (omega arith))

-- what a reader gives, if it gives anything
pub record Gives {A : Type 0} (P : A → Type 0) (r : Reader A) : Type 0 where
  pub given : (l : List ℕ) (s : ℕ) (a : A) (l' : List ℕ) (t : ℕ) → r l s ≡ success a l' t → P a

module _ {A : Type 0} {P : A → Type 0} where
  pub return_gives : (a : A) → P a → Gives P (return a)
  unfolding return
  return_gives a h = record { given = λ l s b l' t e. (let z : a ≡ b = cc in subst P z h) }

  pub test_gives : (k : ℕ) (b : Bool) {q : Reader A} → Gives P q → Gives P (test k b >> q)
  test_gives k b {q} h = record { given = λ l s a l' t e. h.given l s a l' t (un_test k b q l s a l' t e) }

module _ {A B : Type 0} {P : B → Type 0} where
  pub bind_gives : (r : Reader A) {f : A → Reader B} → ((a : A) → Gives P (f a)) → Gives P (r >>= f)
  unfolding ◌>>=◌
  bind_gives r {f} h = record { given = λ l s c l' t e. (let (a, l₁, t₁, e₁, e₂) = un_go_on f (r l s) c l' t e in (h a).given l₁ t₁ c l' t e₂) }

-- at most so many as what was read says
pub record Valued {A : Type 0} (value : A → ℕ) (r : Reader A) : Type 0 where
  pub places : List ℕ → ℕ → List ℕ
  pub covers : Covers places r
  pub few : (l : List ℕ) (s : ℕ) (a : A) (l' : List ℕ) (t : ℕ) → r l s ≡ success a l' t → length (places l s) ≤ value a

pub parts_valued : {A : Type 0} {n : ℕ} {r : Reader A} → Parts n r → Valued (λ a. n) r
parts_valued h = record { places = h.places; covers = h.covers; few = λ l s a l' t e. h.few l s }

pub test_valued : {A : Type 0} {value : A → ℕ} (k : ℕ) (b : Bool) {q : Reader A} → Valued value q → Valued value (test k b >> q)
test_valued k b {q} h = record { places = h.places; covers = test_covers k b q h.places h.covers; few = λ l s a l' t e. h.few l s a l' t (un_test k b q l s a l' t e) }

module _ {A B : Type 0} {v : A → ℕ} {w : A → B → ℕ} (value : B → ℕ) {r : Reader A} {f : A → Reader B} where
  pub bind_valued : Steady r → Valued v r → ((a : A) → Valued (w a) (f a)) → ((a : A) → Gives (λ c. v a + w a c ≤ value c) (f a)) → Valued value (r >>= f)
  unfolding ◌>>=◌
  bind_valued hs hr hf fits =
      record {
        places = λ l s. hr.places l s ++ places_behind (λ a. (hf a).places) (r l s);
        covers = covers_both r f hr.places (λ a. (hf a).places) hs hr.covers (λ a. (hf a).covers);
        few = λ l s c l' t e. of_value l s c l' t (r l s) refl e;
      }
    where
      of_value : (l : List ℕ) (s : ℕ) (c : B) (l' : List ℕ) (t : ℕ) (x : ReadResult A) → r l s ≡ x → go_on x f ≡ success c l' t
          → length (hr.places l s ++ places_behind (λ a. (hf a).places) x) ≤ value c
      of_value l s c l' t (success a l₁ t₁) e g =
          let z = hr.few l s a l₁ t₁ e in
          let y = (hf a).few l₁ t₁ c l' t g in
          let x = (fits a).given l₁ t₁ c l' t g in
          let d = length-append (hr.places l s) ((hf a).places l₁ t₁) in
          omega arith
      of_value l s c l' t (more_needed p) e g = more_is_no_success g
      of_value l s c l' t (error j) e g = error_is_no_success g

-- and on bytes, whatever is answered, at most that many
pub record Few {A : Type 0} (value : A → ℕ) (most : ℕ) (r : Reader A) : Type 0 where
  pub valued : Valued value r
  pub bounded : (l : List ℕ) (s : ℕ) → Bytes l → length (valued.places l s) ≤ most

pub parts_few : {A : Type 0} {n : ℕ} {r : Reader A} → Parts n r → Few (λ a. n) n r
unfolding parts_valued
parts_few h = record { valued = parts_valued h; bounded = λ l s hb. h.few l s }

module _ {A B : Type 0} {b : ℕ} {good : A → Type 0} {v : A → ℕ} {w : A → B → ℕ} {n : ℕ} {k : A → ℕ} (value : B → ℕ) (most : ℕ) {r : Reader A} {f : A → Reader B} where
  pub bind_few : Steady r → Wants b good r → Few v n r → ((a : A) → Few (w a) (k a) (f a)) → ((a : A) → Gives (λ c. v a + w a c ≤ value c) (f a)) → n ≤ most → ((a : A) → good a → n + k a ≤ most)
      → Few value most (r >>= f)
  unfolding bind_valued
  bind_few hs hw hr hf fits at_first then =
      record {
        valued = bind_valued value hs hr.valued (λ a. (hf a).valued) fits;
        bounded = λ l s hb. on_bytes l s (r l s) (hr.bounded l s hb) (hw.near l s hb);
      }
    where
      on_bytes : (l : List ℕ) (s : ℕ) (x : ReadResult A) → length (hr.valued.places l s) ≤ n → Near b good (s + length l) x
          → length (hr.valued.places l s ++ places_behind (λ a. (hf a).valued.places) x) ≤ most
      on_bytes l s (success a l₁ t₁) h w =
          let z = (hf a).bounded l₁ t₁ w.1 in
          let y = then a w.0 in
          let d = length-append (hr.valued.places l s) ((hf a).valued.places l₁ t₁) in
          omega arith
      on_bytes l s (more_needed p) h w = let d = length-append (hr.valued.places l s) [] in omega arith
      on_bytes l s (error j) h w = let d = length-append (hr.valued.places l s) [] in omega arith
