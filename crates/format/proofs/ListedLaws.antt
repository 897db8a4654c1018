-- Which refusals a reader can answer, as a judgement that composes: sequence, test, counted repetition, an enclosed section. Assumes nothing.
use mathlib.Core.Path.{◌≡◌, refl, sym, subst}
use mathlib.Core.Bool.{Bool, true, false}
use mathlib.Core.Logic.{⊎_elim}
use mathlib.Core.List.Memᴰ
use mathlib.Core.List.{List, [], ◌∷◌, ◌++◌, append-nil, Memᴰ}
use Prim.Native.Nat.{ℕ, zero, suc, ◌+◌, ◌≤◌, ◌<◌}
use native.Mathlib.Omega.{arith}
use lib.Dec.{leb, eqb}
use lib.ListN.{length, length-drop}
use Rattle.format.specs.Read.{ReadResult, success, more_needed, error, Reader, go_on, ◌>>=◌, ◌>>◌, return, test, End, no_end, end_at, held, repeat, enclosed, refused, answer}
use Rattle.format.specs.Serialize.{read, read_uint, read_uint8, read_uint16, read_uint32}
use Rattle.format.specs.Fields.{PairAt}
use Rattle.format.specs.Context.{mark, with_mark}
use Rattle.format.proofs.Tests.{is_leb, is_nleb}
use Rattle.format.proofs.Members.{has, has_all, members, no_member}
use Rattle.format.proofs.Exact.{enclosed_fits, enclosed_short, more_is_no_success, error_is_no_success}
use Rattle.format.proofs.Serialize.{read_fits, read_short}

-- of a reader that had the bytes up to the place n: where it succeeds those behind its tail are left, what it wants lies
-- beyond n, and any other refusal is of the list
abbrev pub Fine : {A : Type 0} → List ℕ → ℕ → ReadResult A → Type 0
Fine ks n (success a l t) = t + length l ≡ n
Fine ks n (more_needed p) = n < p
Fine ks n (error k) = Memᴰ k ks

pub record Listed {A : Type 0} (ks : List ℕ) (r : Reader A) : Type 0 where
  pub fine : (l : List ℕ) (s : ℕ) → Fine ks (s + length l) (r l s)

module _ {A : Type 0} where
  more : (ks js : List ℕ) → ((k : ℕ) → Memᴰ k ks → Memᴰ k js) → (n : ℕ) (x : ReadResult A) → Fine ks n x → Fine js n x
  more ks js f n (success a l t) h = h
  more ks js f n (more_needed p) h = h
  more ks js f n (error k) h = f k h

  -- by a list that has every number of the other
  pub listed_as : {ks : List ℕ} (js : List ℕ) → has_all js ks ≡ true → {r : Reader A} → Listed ks r → Listed js r
  listed_as {ks} js e {r} h = record { fine = λ l s. more ks js (members js ks e) (s + length l) (r l s) (h.fine l s) }

  pub also : (j : ℕ) {ks : List ℕ} {r : Reader A} → Listed ks r → Listed (j ∷ ks) r
  also j {ks} {r} h = record { fine = λ l s. more ks (j ∷ ks) (λ k z. Memᴰ.tail z) (s + length l) (r l s) (h.fine l s) }

-- a number that is not of the list, and not 2, is not answered
module _ {A : Type 0} {ks : List ℕ} {r : Reader A} (h : Listed ks r) (k : ℕ) (other : has (2 ∷ ks) k ≡ false) where
  pub not_listed : (l : List ℕ) (s p : ℕ) → answer (r l s) ≡ refused k p → ⊥
  not_listed l s p e = by (r l s) (h.fine l s) e
    where
      by : (x : ReadResult A) → Fine ks (s + length l) x → answer x ≡ refused k p → ⊥
      by (success a l' t) f e = let z : ◌≡◌ {A = ℕ} 0 1 = cc in absurd (omega arith)
      by (more_needed w) f e = let z : 2 ≡ k = cc in no_member (2 ∷ ks) k other (Memᴰ.head (sym z))
      by (error j) f e = let z : j ≡ k = cc in no_member (2 ∷ ks) k other (Memᴰ.tail (rw z at f))

module _ {A B : Type 0} where
  goes_on : (ks js : List ℕ) (f : A → Reader B) → ((a : A) → Listed js (f a)) → (n : ℕ) (x : ReadResult A) → Fine ks n x → Fine (ks ++ js) n (go_on x f)
  goes_on ks js f hf n (success a l t) h = more js (ks ++ js) (λ k z. Memᴰ.append_right ks z) n (f a l t) (rw h at ((hf a).fine l t))
  goes_on ks js f hf n (more_needed p) h = h
  goes_on ks js f hf n (error k) h = Memᴰ.append_left js h

  pub bind_listed : {ks js : List ℕ} {r : Reader A} {f : A → Reader B} → Listed ks r → ((a : A) → Listed js (f a)) → Listed (ks ++ js) (r >>= f)
  unfolding ◌>>=◌
  bind_listed {ks} {js} {r} {f} hr hf = record { fine = λ l s. goes_on ks js f hf (s + length l) (r l s) (hr.fine l s) }

  pub then_listed : {ks js : List ℕ} {r : Reader A} {q : Reader B} → Listed ks r → Listed js q → Listed (ks ++ js) (r >> q)
  unfolding ◌>>◌
  then_listed {ks} {js} {r} {q} hr hq = record { fine = λ l s. goes_on ks js (λ a. q) (λ a. hq) (s + length l) (r l s) (hr.fine l s) }

-- with nothing refused behind it
module _ {A B : Type 0} where
  pub behind_listed : {ks : List ℕ} {r : Reader A} {q : Reader B} → Listed ks r → Listed [] q → Listed ks (r >> q)
  behind_listed {ks} {r} {q} hr hq = subst (λ js. Listed js (r >> q)) (append-nil ks) (then_listed hr hq)

pub return_listed : {A : Type 0} (a : A) → Listed [] (return a)
unfolding return
return_listed a = record { fine = λ l s. refl }

-- a test that never fails
pub sure_listed : (k : ℕ) {b : Bool} → b ≡ true → Listed [] (test k b)
unfolding test
sure_listed k e = rw e (record { fine = λ l s. refl })

pub test_listed : (k : ℕ) (b : Bool) → Listed (k ∷ []) (test k b)
unfolding test
test_listed k true = record { fine = λ l s. refl }
test_listed k false = record { fine = λ l s. Memᴰ.head refl }

-- the test of an end
abbrev pub held_refusals : End → List ℕ
held_refusals no_end = []
held_refusals (end_at e) = 32 ∷ []

pub held_listed : (e : End) (n : ℕ) → Listed (held_refusals e) (held e n)
unfolding held
held_listed no_end n = record { fine = λ l s. (sure_listed 32 refl).fine l s }
held_listed (end_at e) n = record { fine = λ l s. (test_listed 32 _).fine l s }

pub read_listed : (n : ℕ) → Listed [] (read n)
read_listed n = record { fine = λ l s. go l s (leb n (length l)) refl }
  where
    go : (l : List ℕ) (s : ℕ) (b : Bool) → leb n (length l) ≡ b → Fine [] (s + length l) (read n l s)
    go l s true e = let h : n ≤ length l = is_leb _ _ e in rw (read_fits n l s h) (simp length-drop (omega arith))
    go l s false e = let h : length l < n = is_nleb _ _ e in rw (read_short n l s h) (omega arith)

-- numbers
uint_listed : (width : ℕ) → Listed [] (read_uint width)
unfolding read_uint
uint_listed width = bind_listed (read_listed width) (λ p. return_listed _)

pub uint8_listed : Listed [] read_uint8
unfolding read_uint8
uint8_listed = uint_listed 1

pub uint16_listed : Listed [] read_uint16
unfolding read_uint16
uint16_listed = uint_listed 2

pub uint32_listed : Listed [] read_uint32
unfolding read_uint32
uint32_listed = uint_listed 4

module _ {A : Type 0} where
  -- a list of refusals behind itself
  pub once : (ks : List ℕ) (n : ℕ) (x : ReadResult A) → Fine (ks ++ ks) n x → Fine ks n x
  once ks n x h = more (ks ++ ks) ks (λ k z. ⊎_elim (λ w. w) (λ w. w) (Memᴰ.append_cases ks z)) n x h

module _ {A : Type 0} where
  pub repeat_listed : (n : ℕ) {ks : List ℕ} {step : List A → Reader A} → ((acc : List A) → Listed ks (step acc)) → (acc : List A) → Listed ks (repeat n step acc)
  unfolding repeat return
  repeat_listed zero h acc = record { fine = λ l s. refl }
  repeat_listed (suc n) {ks} {step} h acc =
      record { fine = λ l s. once ks (s + length l) (repeat (suc n) step acc l s) ((bind_listed (h acc) (λ a. repeat_listed n h (acc ++ (a ∷ [])))).fine l s) }

  end_listed : (s n k : ℕ) (a : A) → Listed (k ∷ []) (λ l' t. go_on (test k (eqb t (s + n)) l' t) (λ u. return a))
  unfolding test return
  end_listed s n k a = record { fine = λ l t. go (eqb t (s + n)) l t }
    where
      go : (b : Bool) (l : List ℕ) (t : ℕ) → Fine (k ∷ []) (t + length l) (go_on (test k b l t) (λ u. return a))
      go true l t = refl
      go false l t = Memᴰ.head refl

  pub enclosed_listed : (n k : ℕ) {ks : List ℕ} (r : End → Reader A) → ((e : ℕ) → Listed ks (r (end_at e))) → Listed (ks ++ (k ∷ [])) (enclosed n k r)
  enclosed_listed n k {ks} r hr = record { fine = λ l s. go l s (leb n (length l)) refl }
    where
      go : (l : List ℕ) (s : ℕ) (b : Bool) → leb n (length l) ≡ b → Fine (ks ++ (k ∷ [])) (s + length l) (enclosed n k r l s)
      go l s true e = rw (enclosed_fits n k r l s (is_leb _ _ e)) ((bind_listed (hr (s + n)) (end_listed s n k)).fine l s)
      go l s false e = let h : length l < n = is_nleb _ _ e in rw (enclosed_short n k r l s h) (omega arith)

-- what a reader gives, where it succeeds, is good
pub record Gives {A : Type 0} (good : A → Type 0) (r : Reader A) : Type 0 where
  pub given : (l : List ℕ) (s : ℕ) (a : A) (l' : List ℕ) (t : ℕ) → r l s ≡ success a l' t → good a

pub return_gives : {A : Type 0} {good : A → Type 0} (a : A) → good a → Gives good (return a)
unfolding return
return_gives {A} {good} a h = record { given = λ l s b l' t e. (let q : a ≡ b = cc in rw q at h) }

module _ {A B : Type 0} {good : B → Type 0} where
  -- behind a reader it is known that what it gave is good
  pub given_gives : {fine : A → Type 0} {r : Reader A} {f : A → Reader B} → Gives fine r → ((a : A) → fine a → Gives good (f a)) → Gives good (r >>= f)
  unfolding ◌>>=◌
  given_gives {fine} {r} {f} hr h = record { given = λ l s b l' t e. go l s (r l s) refl b l' t e }
    where
      go : (l : List ℕ) (s : ℕ) (x : ReadResult A) → r l s ≡ x → (b : B) (l' : List ℕ) (t : ℕ) → go_on x f ≡ success b l' t → good b
      go l s (success a l₁ t₁) i b l' t e = (h a (hr.given l s a l₁ t₁ i)).given l₁ t₁ b l' t e
      go l s (more_needed p) i b l' t e = more_is_no_success e
      go l s (error k) i b l' t e = error_is_no_success e

  pub bind_gives : (r : Reader A) {f : A → Reader B} → ((a : A) → Gives good (f a)) → Gives good (r >>= f)
  bind_gives r h = given_gives {fine = λ a. Unit {0}} (record { given = λ l s a l' t e. tt }) (λ a u. h a)

-- behind a test it is known that it passed
module _ {A : Type 0} (k : ℕ) (b : Bool) {q : Reader A} where
  pub passed_listed : {ks : List ℕ} → (b ≡ true → Listed ks q) → Listed (k ∷ ks) (test k b >> q)
  unfolding test ◌>>◌
  passed_listed {ks} h = go b refl
    where
      go : (c : Bool) → b ≡ c → Listed (k ∷ ks) (test k c >> q)
      go true e = also k (h e)
      go false e = record { fine = λ l s. Memᴰ.head refl }

  pub passed_gives : {good : A → Type 0} → (b ≡ true → Gives good q) → Gives good (test k b >> q)
  unfolding test ◌>>◌
  passed_gives {good} h = go b refl
    where
      go : (c : Bool) → b ≡ c → Gives good (test k c >> q)
      go true e = h e
      go false e = record { given = λ l s a l' t e. error_is_no_success e }

-- and behind a reader, that what it gave is good
module _ {A B : Type 0} where
  pub given_listed : {ks js : List ℕ} {good : A → Type 0} {r : Reader A} {f : A → Reader B} → Listed ks r → Gives good r → ((a : A) → good a → Listed js (f a)) → Listed (ks ++ js) (r >>= f)
  unfolding ◌>>=◌
  given_listed {ks} {js} {good} {r} {f} hr hg hf = record { fine = λ l s. go l s (r l s) refl (hr.fine l s) }
    where
      go : (l : List ℕ) (s : ℕ) (x : ReadResult A) → r l s ≡ x → Fine ks (s + length l) x → Fine (ks ++ js) (s + length l) (go_on x f)
      go l s (success a l' t) e h = more js (ks ++ js) (λ k z. Memᴰ.append_right ks z) (s + length l) (f a l' t) (rw h at ((hf a (hg.given l s a l' t e)).fine l' t))
      go l s (more_needed p) e h = h
      go l s (error k) e h = Memᴰ.append_left js h

-- a mark refuses nothing
pub marked_listed : {ks : List ℕ} {section : Reader (List PairAt)} → Listed ks section → Listed ks (with_mark section)
unfolding with_mark
marked_listed {ks} {section} h = record { fine = λ l s. by s (s + length l) (section l s) (h.fine l s) }
  where
    by : (s n : ℕ) (x : ReadResult (List PairAt)) → Fine ks n x → Fine ks n (go_on x (mark s))
    by s n (success ps l t) f = f
    by s n (more_needed p) f = f
    by s n (error k) f = f
