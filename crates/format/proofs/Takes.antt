-- How far a reader goes that is held to no end: it takes so many bytes at least, and an entry, a text and a pair take what they are long.
-- Assumes nothing.
use mathlib.Core.Path.{◌≡◌, refl, sym, ap, ◌∙◌}
use mathlib.Core.Bool.{Bool, true, false}
use mathlib.Core.List.{List, [], ◌∷◌, ◌++◌}
use Prim.Native.Nat.{ℕ, zero, suc, ◌+◌, ◌≤◌, ◌<◌}
use native.Mathlib.Omega.{arith}
use lib.ListN.{length}
use Rattle.format.specs.Read.{ReadResult, success, more_needed, error, Reader, go_on, ◌>>=◌, ◌>>◌, return, test, no_end, held, repeat}
use Rattle.format.specs.Serialize.{Part, read, read_uint, read_uint16, read_uint32, read_short_length_seq, entry_length}
use Rattle.format.specs.Fields.{PairAt, pair_of}
use Rattle.format.specs.Context.{pair_length, read_text, read_aad_pair}
use Rattle.format.specs.Source.{source_read_next_aad_pair}
use Rattle.format.proofs.Exact.{more_is_no_success, error_is_no_success}
use Rattle.format.proofs.Serialize.{read_sound}

-- a result that ends past e; a refusal counts as one
abbrev pub Past : {A : Type 0} → ℕ → ReadResult A → Type 0
Past e (success a l t) = e < t
Past e (more_needed p) = Unit {0}
Past e (error k) = Unit {0}

-- what a successful read goes through, backwards
module _ {A B : Type 0} (f : A → Reader B) where
  pub un_go_on : (x : ReadResult A) (b : B) (l' : List ℕ) (t' : ℕ) → go_on x f ≡ success b l' t' → (a : A) × (l : List ℕ) × (t : ℕ) × (x ≡ success a l t) × (f a l t ≡ success b l' t')
  un_go_on (success a l t) b l' t' e = (a, l, t, refl, e)
  un_go_on (more_needed p) b l' t' e = more_is_no_success e
  un_go_on (error k) b l' t' e = error_is_no_success e

module _ {A : Type 0} where
  pub un_test : (k : ℕ) (b : Bool) (q : Reader A) (l : List ℕ) (s : ℕ) (a : A) (l' : List ℕ) (t : ℕ) → (test k b >> q) l s ≡ success a l' t → q l s ≡ success a l' t
  unfolding test ◌>>◌
  un_test k true q l s a l' t e = e
  un_test k false q l s a l' t e = error_is_no_success e

-- the reader takes n bytes at least
pub record Takes {A : Type 0} (n : ℕ) (r : Reader A) : Type 0 where
  pub past : (e : ℕ) (l : List ℕ) (s : ℕ) → e < s + n → Past e (r l s)

module _ {A : Type 0} where
  pub fewer_takes : {n k : ℕ} {r : Reader A} → Takes n r → k ≤ n → Takes k r
  fewer_takes h f = record { past = λ e l s j. h.past e l s (omega arith) }

  pub any_takes : {n : ℕ} {r : Reader A} → Takes n r → Takes 0 r
  any_takes h = fewer_takes h (omega arith)

  -- that of an end which is none
  pub free_takes : {n : ℕ} (k : ℕ) {q : Reader A} → Takes n q → Takes n (held no_end k >> q)
  unfolding held test ◌>>◌
  free_takes k h = record { past = h.past }

  pub return_takes : (a : A) → Takes 0 (return a)
  unfolding return
  return_takes a = record { past = λ e l s k. omega arith }

  pub test_takes : (k : ℕ) (b : Bool) {q : Reader A} → Takes 0 q → Takes 0 (test k b >> q)
  unfolding test ◌>>◌
  test_takes k true h = record { past = h.past }
  test_takes k false h = record { past = λ e l s j. tt }

module _ {A B : Type 0} where
  pub bind_takes : {n : ℕ} {r : Reader A} {f : A → Reader B} → Takes n r → ((a : A) → Takes 0 (f a)) → Takes n (r >>= f)
  unfolding ◌>>=◌
  bind_takes {n} {r} {f} hr hf = record { past = λ e l s h. go e (r l s) (hr.past e l s h) }
    where
      go : (e : ℕ) (x : ReadResult A) → Past e x → Past e (go_on x f)
      go e (success a l t) p = (hf a).past e l t (omega arith)
      go e (more_needed q) p = tt
      go e (error k) p = tt

module _ {A : Type 0} where
  pub repeat_takes : (n : ℕ) {step : List A → Reader A} → ((acc : List A) → Takes 0 (step acc)) → (acc : List A) → Takes 0 (repeat n step acc)
  unfolding repeat
  repeat_takes zero h acc = return_takes acc
  repeat_takes (suc n) h acc = bind_takes (h acc) (λ a. repeat_takes n h (acc ++ (a ∷ [])))

-- how long what was read is
pub read_size : (n : ℕ) (l : List ℕ) (s : ℕ) (p : Part) (l' : List ℕ) (t : ℕ) → read n l s ≡ success p l' t → (t ≡ s + n) × (length p.bytes ≡ n)
read_size n l s p l' t e =
    let x = read_sound n l s p l' t e in
    let d : length x.value ≡ n = x.good in
    (x.tail ∙ ap (λ k. s + k) d, ap (λ (q : Part). length q.bytes) x.placed ∙ d)

pub uint_size : (width : ℕ) (l : List ℕ) (s v : ℕ) (l' : List ℕ) (t : ℕ) → read_uint width l s ≡ success v l' t → t ≡ s + width
unfolding read_uint ◌>>=◌ return
uint_size width l s v l' t e =
    let (p, l₁, t₁, e₁, e₂) = un_go_on _ (read width l s) v l' t e in
    let u : t₁ ≡ t = cc in
    sym u ∙ (read_size width l s p l₁ t₁ e₁).0

pub uint16_size : (l : List ℕ) (s v : ℕ) (l' : List ℕ) (t : ℕ) → read_uint16 l s ≡ success v l' t → t ≡ s + 2
unfolding read_uint16
uint16_size = uint_size 2

-- a reader of a size known beforehand takes it
sized_takes : {A : Type 0} (n : ℕ) (r : Reader A) → ((l : List ℕ) (s : ℕ) (a : A) (l' : List ℕ) (t : ℕ) → r l s ≡ success a l' t → t ≡ s + n) → Takes n r
sized_takes {A} n r h = record { past = λ e l s k. go e l s k (r l s) refl }
  where
    go : (e : ℕ) (l : List ℕ) (s : ℕ) → e < s + n → (x : ReadResult A) → r l s ≡ x → Past e x
    go e l s k (success a l' t) q = let z = h l s a l' t q in omega arith
    go e l s k (more_needed p) q = tt
    go e l s k (error j) q = tt

pub read_takes : (n : ℕ) → Takes n (read n)
read_takes n = sized_takes n (read n) (λ l s p l' t e. (read_size n l s p l' t e).0)

pub uint16_takes : Takes 2 read_uint16
uint16_takes = sized_takes 2 read_uint16 uint16_size

pub uint32_takes : Takes 4 read_uint32
unfolding read_uint32
uint32_takes = sized_takes 4 (read_uint 4) (uint_size 4)

-- an entry, a text, a pair, and the source's next pair
pub entry_takes : Takes 2 (read_short_length_seq no_end)
unfolding read_short_length_seq
entry_takes = free_takes 2 (bind_takes uint16_takes (λ n. free_takes n (any_takes (read_takes n))))

pub text_takes : (k : ℕ) → Takes 0 (read_text no_end k)
unfolding read_text
text_takes k = bind_takes (any_takes entry_takes) (λ e. test_takes k _ (return_takes e))

pub pair_takes : Takes 0 (read_aad_pair no_end)
unfolding read_aad_pair
pair_takes = bind_takes (text_takes 10) (λ k. bind_takes (text_takes 11) (λ v. return_takes _))

pub next_takes : (acc : List PairAt) → Takes 0 (source_read_next_aad_pair acc)
unfolding source_read_next_aad_pair
next_takes acc = bind_takes pair_takes (λ p. test_takes 12 _ (test_takes 13 _ (return_takes p)))

entry_size : (l : List ℕ) (s : ℕ) (p : Part) (l' : List ℕ) (t : ℕ) → read_short_length_seq no_end l s ≡ success p l' t → t ≡ s + entry_length p.bytes
unfolding read_short_length_seq held test ◌>>◌ ◌>>=◌
entry_size l s p l' t e =
    let (n, l₁, t₁, e₁, e₂) = un_go_on _ (read_uint16 l s) p l' t e in
    let a : t₁ ≡ s + 2 = uint16_size l s n l₁ t₁ e₁ in
    let (b, c) = read_size n l₁ t₁ p l' t e₂ in
    omega arith

text_size : (k : ℕ) (l : List ℕ) (s : ℕ) (p : Part) (l' : List ℕ) (t : ℕ) → read_text no_end k l s ≡ success p l' t → t ≡ s + entry_length p.bytes
unfolding read_text ◌>>=◌ return
text_size k l s p l' t e =
    let (q, l₁, t₁, e₁, e₂) = un_go_on _ (read_short_length_seq no_end l s) p l' t e in
    let z = un_test k _ (return q) l₁ t₁ p l' t e₂ in
    let u : t₁ ≡ t = cc in
    let v : q ≡ p = cc in
    sym u ∙ entry_size l s q l₁ t₁ e₁ ∙ ap (λ (x : Part). s + entry_length x.bytes) v

pub pair_size : (l : List ℕ) (s : ℕ) (p : PairAt) (l' : List ℕ) (t : ℕ) → read_aad_pair no_end l s ≡ success p l' t → t ≡ s + pair_length (pair_of p)
unfolding read_aad_pair ◌>>=◌ return
pair_size l s p l' t e =
    let (k, l₁, t₁, e₁, e₂) = un_go_on _ (read_text no_end 10 l s) p l' t e in
    let (v, l₂, t₂, e₃, e₄) = un_go_on _ (read_text no_end 11 l₁ t₁) p l' t e₂ in
    let a = text_size 10 l s k l₁ t₁ e₁ in
    let b = text_size 11 l₁ t₁ v l₂ t₂ e₃ in
    let u : t₂ ≡ t = cc in
    let w : record { key = k; value = v } ≡ p = cc in
    let d : t₂ ≡ s + pair_length (pair_of (record { key = k; value = v })) = omega arith in
    sym u ∙ d ∙ ap (λ (x : PairAt). s + pair_length (pair_of x)) w

pub next_size : (acc : List PairAt) (l : List ℕ) (s : ℕ) (p : PairAt) (l' : List ℕ) (t : ℕ) → source_read_next_aad_pair acc l s ≡ success p l' t → t ≡ s + pair_length (pair_of p)
unfolding source_read_next_aad_pair ◌>>=◌ return
next_size acc l s p l' t e =
    let (q, l₁, t₁, e₁, e₂) = un_go_on _ (read_aad_pair no_end l s) p l' t e in
    let z = un_test 13 _ (return q) l₁ t₁ p l' t (un_test 12 _ _ l₁ t₁ p l' t e₂) in
    let u : t₁ ≡ t = cc in
    let v : q ≡ p = cc in
    sym u ∙ pair_size l s q l₁ t₁ e₁ ∙ ap (λ (x : PairAt). s + pair_length (pair_of x)) v
