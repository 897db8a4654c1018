-- Ours beside the source's reading, in a section that ends at e: ours answers as the source's does and ends at e or before, or it refuses
-- 32 where the source's refuses or ends past e. The judgement composes: sequence, test, counted repetition. Assumes nothing.
use mathlib.Core.Path.{◌≡◌, refl}
use mathlib.Core.Bool.{Bool, true, false, not, ◌&&◌, ◌||◌}
use mathlib.Core.Logic.{◌⊎◌, inl, inr}
use mathlib.Core.List.{List, [], ◌∷◌, ◌++◌, map}
use Prim.Native.Nat.{ℕ, zero, suc, ◌+◌, ◌≤◌, ◌<◌}
use native.Mathlib.Omega.{arith}
use lib.Dec.{leb, ltb, eqb}
use Rattle.format.specs.Read.{ReadResult, success, more_needed, error, Reader, go_on, ◌>>=◌, ◌>>◌, return, test, no_end, end_at, held, repeat}
use Rattle.format.specs.Serialize.{read, read_uint16, read_short_length_seq, sum}
use Rattle.format.specs.Fields.{PairAt, pair_of}
use Rattle.format.specs.Context.{pair_length, linear_length, pairs_limit, Mode, is_strict, read_text, read_aad_pair, read_next_aad_pair, read_aad_by, read_aad}
use Rattle.format.specs.Source.{source_read_next_aad_pair}
use Rattle.format.proofs.Tests.{leb_is, is_leb, is_nleb}
use Rattle.format.proofs.Exact.{held_free, held_fits, held_past}
use Rattle.format.proofs.Context.{with_one_more}
use Rattle.format.proofs.Takes.{Past, Takes, any_takes, free_takes, return_takes, test_takes, bind_takes, repeat_takes, read_size, uint16_size, read_takes, uint16_takes, text_takes, next_takes, pair_size, next_size}

-- a result that ends at e or before; a refusal counts as one
abbrev Inside : {A : Type 0} → ℕ → ReadResult A → Type 0
Inside e (success a l t) = t ≤ e
Inside e (more_needed p) = Unit {0}
Inside e (error k) = Unit {0}

abbrev pub Compared : {A : Type 0} → ℕ → ReadResult A → ReadResult A → Type 0
Compared e x y = ((x ≡ y) × Inside e y) ⊎ ((x ≡ error 32) × Past e y)

module _ {A : Type 0} (e : ℕ) where
  -- one result beside itself
  same : (x : ReadResult A) → ((a : A) (l : List ℕ) (t : ℕ) → x ≡ success a l t → t ≤ e) → Compared e x x
  same (success a l t) h = inl (refl, h a l t refl)
  same (more_needed p) h = inl (refl, tt)
  same (error k) h = inl (refl, tt)

  return_compared : (a : A) (l : List ℕ) (s : ℕ) → s ≤ e → Compared e (return a l s) (return a l s)
  unfolding return
  return_compared a l s h = inl (refl, h)

  test_compared : (k : ℕ) (b : Bool) (q q' : Reader A) (l : List ℕ) (s : ℕ) → Compared e (q l s) (q' l s) → Compared e ((test k b >> q) l s) ((test k b >> q') l s)
  unfolding test ◌>>◌
  test_compared k true q q' l s h = h
  test_compared k false q q' l s h = inl (refl, tt)

  -- ours is held to the end
  held_compared : (n : ℕ) (q q' : Reader A) (l : List ℕ) (s : ℕ) → (s + n ≤ e → Compared e (q l s) (q' l s)) → (e < s + n → Past e (q' l s))
      → Compared e ((held (end_at e) n >> q) l s) ((held no_end n >> q') l s)
  held_compared n q q' l s within beyond = by (leb (s + n) e) refl
    where
      by : (b : Bool) → leb (s + n) e ≡ b → Compared e ((held (end_at e) n >> q) l s) ((held no_end n >> q') l s)
      by true h = let k = is_leb _ _ h in rw (held_fits e n q l s k, held_free n q' l s) (within k)
      by false h = let k = is_nleb _ _ h in rw (held_past e n q l s k, held_free n q' l s) (inr (refl, beyond k))

module _ {A B : Type 0} (e : ℕ) where
  bind_compared : (x y : ReadResult A) (f f' : A → Reader B) → Compared e x y → ((a : A) (l : List ℕ) (t : ℕ) → y ≡ success a l t → t ≤ e → Compared e (f a l t) (f' a l t))
      → ((a : A) → Takes 0 (f' a)) → Compared e (go_on x f) (go_on y f')
  bind_compared x (success a l t) f f' (inl (q, i)) h g = rw q (h a l t refl i)
  bind_compared x (more_needed p) f f' (inl (q, i)) h g = inl (rw q refl, tt)
  bind_compared x (error k) f f' (inl (q, i)) h g = inl (rw q refl, tt)
  bind_compared x (success a l t) f f' (inr (q, p)) h g = inr (rw q refl, (g a).past e l t (omega arith))
  bind_compared x (more_needed w) f f' (inr (q, p)) h g = inr (rw q refl, tt)
  bind_compared x (error k) f f' (inr (q, p)) h g = inr (rw q refl, tt)

module _ (e : ℕ) where
  uint16_compared : (l : List ℕ) (s : ℕ) → s + 2 ≤ e → Compared e (read_uint16 l s) (read_uint16 l s)
  uint16_compared l s h = same e (read_uint16 l s) (λ n l' t q. let z = uint16_size l s n l' t q in omega arith)

  entry_compared : (l : List ℕ) (s : ℕ) → Compared e (read_short_length_seq (end_at e) l s) (read_short_length_seq no_end l s)
  unfolding read_short_length_seq ◌>>=◌
  entry_compared l s =
      held_compared e 2 _ _ l s
      (λ h. bind_compared e (read_uint16 l s) (read_uint16 l s) _ _ (uint16_compared l s h) (λ n l₁ t₁ q i. bytes n l₁ t₁) rest)
      (λ h. (bind_takes uint16_takes rest).past e l s h)
    where
      bytes : (n : ℕ) (l : List ℕ) (s : ℕ) → Compared e ((held (end_at e) n >> read n) l s) ((held no_end n >> read n) l s)
      bytes n l s =
          held_compared e n (read n) (read n) l s
          (λ h. same e (read n l s) (λ p l' t q. let z = (read_size n l s p l' t q).0 in omega arith))
          (λ h. (read_takes n).past e l s h)

      rest : (n : ℕ) → Takes 0 (held no_end n >> read n)
      rest n = free_takes n (any_takes (read_takes n))

  text_compared : (k : ℕ) (l : List ℕ) (s : ℕ) → Compared e (read_text (end_at e) k l s) (read_text no_end k l s)
  unfolding read_text ◌>>=◌
  text_compared k l s =
      bind_compared e _ _ _ _ (entry_compared l s) (λ p l₁ t₁ q i. test_compared e k _ _ _ l₁ t₁ (return_compared e p l₁ t₁ i)) (λ p. test_takes k _ (return_takes p))

  pair_compared : (l : List ℕ) (s : ℕ) → Compared e (read_aad_pair (end_at e) l s) (read_aad_pair no_end l s)
  unfolding read_aad_pair ◌>>=◌
  pair_compared l s =
      bind_compared e _ _ _ _ (text_compared 10 l s)
      (λ k l₁ t₁ q i. bind_compared e _ _ _ _ (text_compared 11 l₁ t₁) (λ v l₂ t₂ q₂ i₂. return_compared e _ l₂ t₂ i₂) (λ v. return_takes _))
      (λ k. bind_takes (text_takes 11) (λ v. return_takes _))

  -- pairs from `first` on, so near the end that 13 can't apply before it
  module _ (first : ℕ) (near : e ≤ first + 65533) where
    few : (b : Bool) → b ≡ true → (p : PairAt) (l : List ℕ) (t : ℕ) → t ≤ e → Compared e (return p l t) ((test 13 b >> return p) l t)
    unfolding test ◌>>◌
    few b c p l t i = rw c (return_compared e p l t i)

    next_compared : (acc : List PairAt) (l : List ℕ) (s : ℕ) → s ≡ first + linear_length (map pair_of acc) → Compared e (read_next_aad_pair (end_at e) acc l s) (source_read_next_aad_pair acc l s)
    unfolding read_next_aad_pair source_read_next_aad_pair ◌>>=◌
    next_compared acc l s here =
        bind_compared e _ _ _ _ (pair_compared l s)
        (λ p l₁ t₁ q i.
        let d = pair_size l s p l₁ t₁ q in
        let c : linear_length (map pair_of acc) + pair_length (pair_of p) < pairs_limit = omega arith in
        test_compared e 12 _ _ _ l₁ t₁ (few (ltb (linear_length (map pair_of acc) + pair_length (pair_of p)) pairs_limit) (leb_is _ _ c) p l₁ t₁ i))
        (λ p. test_takes 12 _ (test_takes 13 _ (return_takes p)))

    pairs_compared : (n : ℕ) (acc : List PairAt) (l : List ℕ) (s : ℕ) → s ≡ first + linear_length (map pair_of acc) → s ≤ e
        → Compared e (repeat n (read_next_aad_pair (end_at e)) acc l s) (repeat n source_read_next_aad_pair acc l s)
    unfolding repeat ◌>>=◌
    pairs_compared zero acc l s here i = return_compared e acc l s i
    pairs_compared (suc n) acc l s here i =
        bind_compared e _ _ _ _ (next_compared acc l s here)
        (λ p l₁ t₁ q i₁. pairs_compared n (acc ++ (p ∷ [])) l₁ t₁ (further p l₁ t₁ q) i₁)
        (λ p. repeat_takes n next_takes (acc ++ (p ∷ [])))
      where
        further : (p : PairAt) (l₁ : List ℕ) (t : ℕ) → source_read_next_aad_pair acc l s ≡ success p l₁ t → t ≡ first + linear_length (map pair_of (acc ++ (p ∷ [])))
        further p l₁ t q =
            let a = next_size acc l s p l₁ t q in
            let b = with_one_more acc p in
            omega arith

  -- a section's count and pairs
  pub aad_compared : (mode : Mode) (n : ℕ) (l : List ℕ) (s : ℕ) → e ≤ s + 65535 → Compared e (read_aad mode n (end_at e) l s) ((held no_end 2 >> read_aad_by source_read_next_aad_pair mode n) l s)
  unfolding read_aad read_aad_by ◌>>=◌ sum
  aad_compared mode n l s near =
      held_compared e 2 _ _ l s
      (λ h. bind_compared e (read_uint16 l s) (read_uint16 l s) _ _ (uint16_compared l s h) (λ count l₁ t₁ q i.
      let d = uint16_size l s count l₁ t₁ q in
      test_compared e 8 _ _ _ l₁ t₁ (test_compared e 21 _ _ _ l₁ t₁ (test_compared e 9 _ _ _ l₁ t₁ (pairs_compared (s + 2) (omega arith) count [] l₁ t₁ (omega arith) i)))) rest)
      (λ h. (bind_takes uint16_takes rest).past e l s h)
    where
      rest : (count : ℕ) → Takes 0 (test 8 (not (eqb n 2) || eqb count 0) >> (test 21 (not (eqb n 2 && is_strict mode)) >> (test 9 (eqb n 2 || not (eqb count 0)) >> repeat count source_read_next_aad_pair [])))
      rest count = test_takes 8 _ (test_takes 21 _ (test_takes 9 _ (repeat_takes count next_takes [])))
