-- Each round wants another of the places at which parts end, so there are no more rounds than places. Assumes nothing.
use mathlib.Core.Path.{◌≡◌, refl, sym, ◌∙◌}
use mathlib.Core.Bool.{Bool, true, false, cond}
use mathlib.Core.Logic.{◌⊎◌, inl, inr}
use mathlib.Core.List.{List, [], ◌∷◌, Memᴰ}
use Prim.Native.Nat.{ℕ, suc, ◌+◌, ◌≤◌, ◌<◌}
use native.Mathlib.Omega.{arith}
use lib.Dec.{leb, ltb}
use lib.ListN.{length, take, drop, take-append-drop, drop_of_length-le}
use lib.Seq.{drop-append-le, length-take-le}
use Rattle.format.specs.Read.{ReadResult, success, more_needed, error, Reader, Answer, accepted, refused, answer, operation}
use Rattle.format.specs.Serialize.{Bytes}
use Rattle.format.specs.Context.{Mode, tolerant, find_value}
use Rattle.format.specs.OnlyAuthenticated.{fitting, write_only_authenticated}
use Rattle.format.specs.Places.{entry_end}
use Rattle.format.specs.Refusals.{RefusesBy}
use Rattle.format.specs.Fetched.{Rounds, AtMost, FewRounds, NotShort, WholeSections}
use Rattle.format.proofs.Tests.{leb_is, nleb_is, is_leb, is_nleb}
use Rattle.format.proofs.Messages.{cases, accepted_inside, bytes_drop, refused_is_no_accepted}
use Rattle.format.proofs.Listed.{refusals}
use Rattle.format.proofs.Helps.{Asks, Helps, wants_as_a_whole, section_asks, section_into_asks, looks, test_asks, tested}
use Rattle.format.proofs.RoundsLaws.{Among, Covers, Parts, Valued, Few}
use Rattle.format.proofs.FrameRounds.{frames_into_valued}
use Rattle.format.proofs.Parts.{section_into_parts, find_parts, only_authenticated_parts, auth_parts, keys_into_few, body_few}

-- how many of them lie beyond n
unfoldable beyond : ℕ → List ℕ → ℕ
beyond n [] = 0
beyond n (p ∷ ps) = cond (ltb n p) (suc (beyond n ps)) (beyond n ps)

one_beyond : (b : Bool) (k : ℕ) → (k ≤ cond b (suc k) k) × (cond b (suc k) k ≤ suc k)
one_beyond true k = (omega arith, omega arith)
one_beyond false k = (omega arith, omega arith)

no_more : (n : ℕ) (ps : List ℕ) → beyond n ps ≤ length ps
unfolding beyond
no_more n [] = omega arith
no_more n (p ∷ ps) = let z = (one_beyond (ltb n p) (beyond n ps)).1 in let y = no_more n ps in omega arith

-- fewer lie beyond a larger number
fewer : (n k : ℕ) → n ≤ k → (ps : List ℕ) → beyond k ps ≤ beyond n ps
unfolding beyond
fewer n k h [] = omega arith
fewer n k h (p ∷ ps) = by (ltb k p) refl (fewer n k h ps)
  where
    by : (b : Bool) → ltb k p ≡ b → beyond k ps ≤ beyond n ps → cond b (suc (beyond k ps)) (beyond k ps) ≤ cond (ltb n p) (suc (beyond n ps)) (beyond n ps)
    by true e ih = let z : k < p = is_leb _ _ e in rw (leb_is (suc n) p (omega arith)) (omega arith)
    by false e ih = let z = (one_beyond (ltb n p) (beyond n ps)).0 in omega arith

-- and one of them fewer, where one was reached
one_fewer : (n p : ℕ) → n < p → (ps : List ℕ) → Memᴰ p ps → beyond p ps < beyond n ps
unfolding beyond
one_fewer n p h [] x' = elim x' [ ]
one_fewer n p h (q ∷ ps) (Memᴰ.head e) =
    let z = fewer n p (omega arith) ps in
    rw (← e, nleb_is (suc p) p (omega arith), leb_is (suc n) p (omega arith)) (omega arith)
one_fewer n p h (q ∷ ps) (Memᴰ.tail m) = by (ltb p q) refl (one_fewer n p h ps m)
  where
    by : (b : Bool) → ltb p q ≡ b → beyond p ps < beyond n ps → cond b (suc (beyond p ps)) (beyond p ps) < cond (ltb n q) (suc (beyond n ps)) (beyond n ps)
    by true e ih = let z : p < q = is_leb _ _ e in rw (leb_is (suc n) q (omega arith)) (omega arith)
    by false e ih = let z = (one_beyond (ltb n q) (beyond n ps)).0 in omega arith

module _ {A : Type 0} (r : Reader A) (listed : List ℕ) (listed_by : RefusesBy listed r) (places : List ℕ → ℕ → List ℕ) (covers : Covers places r) (m : List ℕ) (s : ℕ) where
  -- what is wanted of less of the message
  covered : (n : ℕ) → n ≤ length m → Among (places (drop s m) s) (r (drop s (take n m)) s)
  covered n h = by (leb s n) refl
    where
      by : (b : Bool) → leb s n ≡ b → Among (places (drop s m) s) (r (drop s (take n m)) s)
      by true e =
          let d : length (take n m) ≡ n = length-take-le n m h in
          let z : s ≤ n = is_leb _ _ e in
          rw (← drop-append-le s (take n m) (drop n m) (omega arith), take-append-drop n m) at (covers (drop s (take n m)) (drop n m) s)
      by false e =
          let d : length (take n m) ≡ n = length-take-le n m h in
          let z : n < s = is_nleb _ _ e in
          let y : length (take n m) ≤ s = omega arith in
          rw (drop_of_length-le (take n m) y) (covers [] (drop s m) s)

  further : (n p : ℕ) → n ≤ length m → operation r (take n m) s ≡ refused 2 p → n < p
  further n p h e = let z : length (take n m) < p = (listed_by (take n m) s 2 p e).wanted refl in let d : length (take n m) ≡ n = length-take-le n m h in omega arith

  wanted : (n p : ℕ) → n ≤ length m → operation r (take n m) s ≡ refused 2 p → Memᴰ p (places (drop s m) s)
  wanted n p h e = cases r (take n m) s far near
    where
      far : operation r (take n m) s ≡ refused 1 0 → Memᴰ p (places (drop s m) s)
      far q = let z : ◌≡◌ {A = Answer A} (refused 1 0) (refused 2 p) = sym q ∙ e in let k : ◌≡◌ {A = ℕ} 1 2 = cc in absurd (omega arith)

      of : (x : ReadResult A) → Among (places (drop s m) s) x → answer x ≡ refused 2 p → Memᴰ p (places (drop s m) s)
      of (success a l t) w q = refused_is_no_accepted (sym q)
      of (more_needed v) w q = let z : v ≡ p = cc in rw z at w
      of (error k) w q = let z : 0 ≡ p = cc in let y = further n p h e in absurd (omega arith)

      near : length (take n m) ≤ 4294967295 → s ≤ 4294967295 → operation r (take n m) s ≡ answer (r (drop s (take n m)) s) → Memᴰ p (places (drop s m) s)
      near i j q = of (r (drop s (take n m)) s) (covered n h) (sym q ∙ e)

  no_more_rounds : (ps : List ℕ) (n : ℕ) → Rounds ps (λ n p. operation r (take n m) s ≡ refused 2 p) (length m) n → length ps ≤ beyond n (places (drop s m) s)
  no_more_rounds [] n h = omega arith
  no_more_rounds (p ∷ ps) n (h, e, rest) =
      let z = one_fewer n p (further n p h e) (places (drop s m) s) (wanted n p h e) in
      let y = no_more_rounds ps p rest in
      omega arith

  at_most : (most : ℕ) → length (places (drop s m) s) ≤ most → AtMost most r m s
  at_most most h n ps e = let z = no_more_rounds ps n e in let y = no_more n (places (drop s m) s) in omega arith

module _ {A : Type 0} {r : Reader A} (listed : List ℕ) (listed_by : RefusesBy listed r) where
  of_parts : {n : ℕ} → Parts n r → (m : List ℕ) (s : ℕ) → AtMost n r m s
  of_parts {n} h m s = at_most r listed listed_by h.places h.covers m s n (h.few (drop s m) s)

  by_value : {value : A → ℕ} → Valued value r → (m : List ℕ) (s : ℕ) (a : A) (t : ℕ) → operation r m s ≡ accepted a t → AtMost (value a) r m s
  by_value {value} h m s a t e = let (l, f) = accepted_inside r m s a t e in at_most r listed listed_by h.places h.covers m s (value a) (h.few (drop s m) s a l t f)

  on_bytes : {value : A → ℕ} {most : ℕ} → Few value most r → (m : List ℕ) (s : ℕ) → Bytes m → AtMost most r m s
  on_bytes {value} {most} h m s hb = at_most r listed listed_by h.valued.places h.valued.covers m s most (h.bounded (drop s m) s (bytes_drop s m hb))

pub few_rounds : FewRounds
few_rounds =
    record {
      of_context = λ mode room. of_parts _ (refusals.of_context mode room) (section_into_parts mode room);
      of_find = λ k. of_parts _ (refusals.of_find k) (find_parts k);
      of_only_authenticated = λ text required room. of_parts _ (refusals.of_only_authenticated text required room) (only_authenticated_parts text required room);
      of_auth = λ suite. of_parts _ (refusals.of_auth suite) (auth_parts suite);
      of_keys = λ max room m s ks t. by_value _ (refusals.of_keys max room) (keys_into_few max room).valued m s ks t;
      of_body = λ q m s b t. by_value _ (refusals.of_body q) (body_few q).valued m s b t;
      of_frames = λ frame room m s fs t. by_value _ (refusals.of_frames frame room) (frames_into_valued frame room) m s fs t;
      of_any_keys = λ max room m s. on_bytes _ (refusals.of_keys max room) (keys_into_few max room) m s;
      of_any_body = λ q m s. on_bytes _ (refusals.of_body q) (body_few q) m s;
    }

-- a section whose end is there is not short
there : (m : List ℕ) (s p : ℕ) → entry_end m s ≤ length m → length m < p → (p ≡ s + 2) ⊎ (p ≡ entry_end m s) → ⊥
there m s p h k (inl e) = absurd (omega arith)
there m s p h k (inr e) = absurd (omega arith)

module _ {A : Type 0} (r : Reader A) (listed : List ℕ) (listed_by : RefusesBy listed r) (mode : Mode) (asks : (m : List ℕ) (s : ℕ) → Asks (Helps mode m s) (r (drop s m) s)) where
  not_short : NotShort r
  not_short m s h p e = there m s p h ((listed_by m s 2 p e).wanted refl) (wants_as_a_whole r listed_by mode m s (asks m s) p e)

pub whole_sections : WholeSections
unfolding find_value write_only_authenticated fitting
whole_sections =
    record {
      of_context = λ mode room. not_short _ _ (refusals.of_context mode room) mode (section_into_asks mode room);
      of_find = λ k. not_short _ _ (refusals.of_find k) tolerant (λ m s. section_asks tolerant m s _ (λ ps l t. looks (Helps tolerant m s) k ps l t));
      of_only_authenticated = λ text required room. not_short _ _ (refusals.of_only_authenticated text required room) tolerant
          (λ m s. section_asks tolerant m s _ (λ ps l t. test_asks (Helps tolerant m s) 31 _ _ l t (tested (Helps tolerant m s) 28 _ _ l t)));
    }
