-- A tidy reader goes on from where it began: it leaves what stands behind the bytes that it took. Assumes nothing.
use mathlib.Core.Path.{◌≡◌, refl, sym, ap, ◌∙◌}
use mathlib.Core.Bool.{Bool, true, false}
use mathlib.Core.List.{List, [], ◌∷◌, ◌++◌}
use Prim.Native.Nat.{ℕ, zero, suc, ◌+◌, ◌-◌, ◌≤◌}
use native.Mathlib.Omega.{arith}
use native.Mathlib.Nat.{add-zero, add_assoc}
use lib.Dec.{leb, eqb}
use lib.ListN.{length, take, drop, length-drop}
use lib.Seq.{drop-drop}
use Rattle.format.specs.Read.{ReadResult, success, more_needed, error, Reader, go_on, ◌>>=◌, ◌>>◌, return, test, End, end_at, held, repeat, enclosed}
use Rattle.format.specs.Serialize.{Part, read, read_uint, read_uint8, read_uint16, read_uint32, read_short_length_seq}
use Rattle.format.specs.Context.{read_text}
use Rattle.format.proofs.Tests.{is_leb, is_nleb}
use Rattle.format.proofs.Exact.{enclosed_fits, enclosed_short, more_is_no_success, error_is_no_success}
use Rattle.format.proofs.Serialize.{read_fits, read_short}

-- l' at t is l at s, some bytes further on
pub record Later (l : List ℕ) (s : ℕ) (l' : List ℕ) (t : ℕ) : Type 0 where
  pub bytes : ℕ
  pub there : bytes ≤ length l
  pub rest : l' ≡ drop bytes l
  pub tail : t ≡ s + bytes

pub record Tidy {A : Type 0} (r : Reader A) : Type 0 where
  pub later : (l : List ℕ) (s : ℕ) (a : A) (l' : List ℕ) (t : ℕ) → r l s ≡ success a l' t → Later l s l' t

still : (l : List ℕ) (s : ℕ) (l' : List ℕ) (t : ℕ) → l ≡ l' → s ≡ t → Later l s l' t
still l s l' t p q = record { bytes = 0; there = omega arith; rest = sym p; tail = rw q (sym (add-zero t)) }

further : (l : List ℕ) (s : ℕ) (l₁ : List ℕ) (t₁ : ℕ) (l₂ : List ℕ) (t₂ : ℕ) → Later l s l₁ t₁ → Later l₁ t₁ l₂ t₂ → Later l s l₂ t₂
further l s l₁ t₁ l₂ t₂ x y =
    let e : length l₁ ≡ length l - x.bytes = ap length x.rest ∙ length-drop x.bytes l in
    let a = x.there in
    let b = y.there in
    record {
      bytes = x.bytes + y.bytes;
      there = omega arith;
      rest = rw (y.rest, x.rest) (drop-drop y.bytes x.bytes l);
      tail = rw (y.tail, x.tail) (add_assoc s x.bytes y.bytes);
    }

-- of a message the bytes left are those from the tail on
pub left_is : (m : List ℕ) (s : ℕ) (l : List ℕ) (t : ℕ) → Later (drop s m) s l t → l ≡ drop t m
left_is m s l t z = z.rest ∙ drop-drop z.bytes s m ∙ ap (λ k. drop k m) (sym z.tail)

module _ {A B : Type 0} where
  pub bind_tidy : {r : Reader A} {f : A → Reader B} → Tidy r → ((a : A) → Tidy (f a)) → Tidy (r >>= f)
  unfolding ◌>>=◌
  bind_tidy {r} {f} hr hf = record { later = λ l s c l' t e. go l s c l' t (r l s) refl e }
    where
      go : (l : List ℕ) (s : ℕ) (c : B) (l' : List ℕ) (t : ℕ) (x : ReadResult A) → r l s ≡ x → go_on x f ≡ success c l' t → Later l s l' t
      go l s c l' t (success a l₁ t₁) e₁ e₂ = further l s l₁ t₁ l' t (hr.later l s a l₁ t₁ e₁) ((hf a).later l₁ t₁ c l' t e₂)
      go l s c l' t (more_needed p) e₁ e₂ = more_is_no_success e₂
      go l s c l' t (error k) e₁ e₂ = error_is_no_success e₂

module _ {A B : Type 0} where
  pub then_tidy : {r : Reader A} {q : Reader B} → Tidy r → Tidy q → Tidy (r >> q)
  unfolding ◌>>◌ ◌>>=◌
  then_tidy {r} {q} hr hq = record { later = (bind_tidy {r = r} {f = λ a. q} hr (λ a. hq)).later }

pub return_tidy : {A : Type 0} (a : A) → Tidy (return a)
unfolding return
return_tidy a = record { later = λ l s c l' t e. still l s l' t (cc) (cc) }

pub test_tidy : (k : ℕ) (b : Bool) → Tidy (test k b)
unfolding test
test_tidy k true = record { later = λ l s c l' t e. still l s l' t (cc) (cc) }
test_tidy k false = record { later = λ l s c l' t e. error_is_no_success e }

pub held_tidy : (e : End) (n : ℕ) → Tidy (held e n)
unfolding held
held_tidy e n = record { later = λ l s. (test_tidy 32 _).later l s }

module _ {A : Type 0} where
  pub repeat_tidy : (n : ℕ) (step : List A → Reader A) → ((acc : List A) → Tidy (step acc)) → (acc : List A) → Tidy (repeat n step acc)
  unfolding repeat
  repeat_tidy zero step h acc = return_tidy acc
  repeat_tidy (suc n) step h acc = bind_tidy (h acc) (λ a. repeat_tidy n step h (acc ++ (a ∷ [])))

module _ {A : Type 0} (n k : ℕ) (r : End → Reader A) (hr : (e : End) → Tidy (r e)) (l : List ℕ) (s : ℕ) (a : A) (l' : List ℕ) (t : ℕ) where
  ends : (b : Bool) (x : A) (l₁ : List ℕ) (t₁ : ℕ) → Later l s l₁ t₁ → go_on (test k b l₁ t₁) (λ u. return x) ≡ success a l' t → Later l s l' t
  unfolding test return
  ends true x l₁ t₁ z e = let p : l₁ ≡ l' = cc in let q : t₁ ≡ t = cc in rw (p, q) at z
  ends false x l₁ t₁ z e = error_is_no_success e

  reads : (x : ReadResult A) → r (end_at (s + n)) l s ≡ x → go_on x (λ a l' t. go_on (test k (eqb t (s + n)) l' t) (λ u. return a)) ≡ success a l' t → Later l s l' t
  reads (success x l₁ t₁) p e = ends (eqb t₁ (s + n)) x l₁ t₁ ((hr (end_at (s + n))).later l s x l₁ t₁ p) e
  reads (more_needed p) q e = more_is_no_success e
  reads (error j) q e = error_is_no_success e

  whole : (b : Bool) → leb n (length l) ≡ b → enclosed n k r l s ≡ success a l' t → Later l s l' t
  unfolding ◌>>=◌
  whole true h e = reads (r (end_at (s + n)) l s) refl (sym (enclosed_fits n k r l s (is_leb n (length l) h)) ∙ e)
  whole false h e = more_is_no_success (sym (enclosed_short n k r l s (is_nleb n (length l) h)) ∙ e)

pub enclosed_tidy : {A : Type 0} (n k : ℕ) (r : End → Reader A) → ((e : End) → Tidy (r e)) → Tidy (enclosed n k r)
enclosed_tidy n k r hr = record { later = λ l s a l' t e. whole n k r hr l s a l' t (leb n (length l)) refl e }

-- the leaves
read_later : (n : ℕ) (l : List ℕ) (s : ℕ) (p : Part) (l' : List ℕ) (t : ℕ) → read n l s ≡ success p l' t → Later l s l' t
read_later n l s p l' t e = go (leb n (length l)) refl
  where
    go : (b : Bool) → leb n (length l) ≡ b → Later l s l' t
    go true h =
        let k : n ≤ length l = is_leb n (length l) h in
        let q : success (record { start = s; bytes = take n l }) (drop n l) (s + n) ≡ success p l' t = sym (read_fits n l s k) ∙ e in
        record { bytes = n; there = k; rest = cc; tail = cc }
    go false h = more_is_no_success (sym (read_short n l s (is_nleb n (length l) h)) ∙ e)

pub read_tidy : (n : ℕ) → Tidy (read n)
read_tidy n = record { later = read_later n }

pub uint_tidy : (width : ℕ) → Tidy (read_uint width)
unfolding read_uint
uint_tidy width = search (bind_tidy, read_tidy, return_tidy)

pub uint8_tidy : Tidy read_uint8
unfolding read_uint8
uint8_tidy = uint_tidy 1

pub uint16_tidy : Tidy read_uint16
unfolding read_uint16
uint16_tidy = uint_tidy 2

pub uint32_tidy : Tidy read_uint32
unfolding read_uint32
uint32_tidy = uint_tidy 4

pub entry_tidy : (e : End) → Tidy (read_short_length_seq e)
unfolding read_short_length_seq
entry_tidy e = search (bind_tidy, then_tidy, held_tidy, uint16_tidy, read_tidy)

pub text_tidy : (e : End) (k : ℕ) → Tidy (read_text e k)
unfolding read_text
text_tidy e k = search (bind_tidy, then_tidy, test_tidy, return_tidy, entry_tidy) depth 20

-- for readers that are put together of these: `search tidy depth 20`
pub ruleset tidy = (bind_tidy, then_tidy, test_tidy, held_tidy, return_tidy, uint8_tidy, uint16_tidy, uint32_tidy, read_tidy, entry_tidy, text_tidy, repeat_tidy, enclosed_tidy)
