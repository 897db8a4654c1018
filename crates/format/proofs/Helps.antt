-- Inside a section that is there as a whole, nothing that is held to its end is short: so a section wants its length, or itself as a
-- whole. Assumes nothing.
use mathlib.Core.Path.{◌≡◌, refl, sym, ap, ◌∙◌}
use mathlib.Core.Bool.{Bool, true, false}
use mathlib.Core.Logic.{◌⊎◌, inl, inr}
use mathlib.Core.List.{List, [], ◌∷◌, ◌++◌}
use Prim.Native.Nat.{ℕ, zero, suc, ◌+◌, ◌≤◌, ◌<◌}
use native.Mathlib.Omega.{arith}
use lib.Dec.{leb, eqb}
use lib.ListN.{length, drop, length-drop}
use Rattle.format.specs.Read.{ReadResult, success, more_needed, error, Reader, go_on, ◌>>=◌, ◌>>◌, return, test, end_at, held, repeat, enclosed, Answer, refused, answer, at, operation}
use Rattle.format.specs.Serialize.{Part, same_bytes, read, read_uint, read_uint16, read_short_length_seq}
use Rattle.format.specs.Fields.{PairAt}
use Rattle.format.specs.Context.{Mode, read_text, read_aad_pair, read_next_aad_pair, read_aad_by, read_aad, read_aad_of, read_aad_section, read_aad_section_into, look_up}
use Rattle.format.specs.Places.{number16, entry_end}
use Rattle.format.specs.Refusals.{RefusesBy}
use Rattle.format.proofs.Tests.{is_leb, is_nleb}
use Rattle.format.proofs.Exact.{held_fits, held_past, enclosed_fits, enclosed_short}
use Rattle.format.proofs.Serialize.{read_fits, read_short}
use Rattle.format.proofs.Takes.{uint16_size}
use Rattle.format.proofs.Lines.{goes_accepted}
use Rattle.format.proofs.First.{uint16_goes}
use Rattle.format.proofs.Messages.{cases}
use Rattle.format.proofs.Listed.{refusals}

-- of a reader that has the bytes up to e: it is not short, and what is left still reaches e
abbrev Full : {A : Type 0} → ℕ → ReadResult A → Type 0
Full e (success a l t) = e ≤ t + length l
Full e (more_needed p) = ⊥
Full e (error k) = Unit {0}

module _ {A : Type 0} (e : ℕ) where
  record Reaches (r : Reader A) : Type 0 where
    full : (l : List ℕ) (s : ℕ) → e ≤ s + length l → Full e (r l s)

  return_reaches : (a : A) → Reaches (return a)
  unfolding return
  return_reaches a = record { full = λ l s h. h }

  test_reaches : (k : ℕ) (b : Bool) {q : Reader A} → Reaches q → Reaches (test k b >> q)
  unfolding test ◌>>◌
  test_reaches k true h = record { full = h.full }
  test_reaches k false h = record { full = λ l s g. tt }

  -- behind the test of the end it is known that the bytes lie before it
  held_reaches : (n : ℕ) (q : Reader A) → ((l : List ℕ) (s : ℕ) → e ≤ s + length l → s + n ≤ e → Full e (q l s)) → Reaches (held (end_at e) n >> q)
  held_reaches n q h = record { full = λ l s g. by l s g (leb (s + n) e) refl }
    where
      by : (l : List ℕ) (s : ℕ) → e ≤ s + length l → (b : Bool) → leb (s + n) e ≡ b → Full e ((held (end_at e) n >> q) l s)
      by l s g true j = let k = is_leb _ _ j in rw (held_fits e n q l s k) (h l s g k)
      by l s g false j = let k = is_nleb _ _ j in rw (held_past e n q l s k) tt

module _ {A B : Type 0} (e : ℕ) where
  goes_on : (f : A → Reader B) → ((a : A) → Reaches e (f a)) → (x : ReadResult A) → Full e x → Full e (go_on x f)
  goes_on f h (success a l t) g = (h a).full l t g
  goes_on f h (more_needed p) g = absurd g
  goes_on f h (error k) g = tt

  bind_reaches : {r : Reader A} {f : A → Reader B} → Reaches e r → ((a : A) → Reaches e (f a)) → Reaches e (r >>= f)
  unfolding ◌>>=◌
  bind_reaches {r} {f} hr hf = record { full = λ l s h. goes_on f hf (r l s) (hr.full l s h) }

module _ (e : ℕ) where
  read_full : (n : ℕ) (l : List ℕ) (s : ℕ) → e ≤ s + length l → s + n ≤ e → Full e (read n l s)
  read_full n l s h k = let d = length-drop n l in rw (read_fits n l s (omega arith)) (omega arith)

  uint16_full : (l : List ℕ) (s : ℕ) → e ≤ s + length l → s + 2 ≤ e → Full e (read_uint16 l s)
  unfolding read_uint16 read_uint ◌>>=◌
  uint16_full l s h k = goes_on e _ (λ p. return_reaches e _) (read 2 l s) (read_full 2 l s h k)

  entry_reaches : Reaches e (read_short_length_seq (end_at e))
  unfolding read_short_length_seq ◌>>=◌
  entry_reaches = held_reaches e 2 _ (λ l s h k. goes_on e _ (λ n. held_reaches e n (read n) (read_full n)) (read_uint16 l s) (uint16_full l s h k))

  text_reaches : (k : ℕ) → Reaches e (read_text (end_at e) k)
  unfolding read_text
  text_reaches k = bind_reaches e entry_reaches (λ p. test_reaches e k _ (return_reaches e p))

  next_reaches : (acc : List PairAt) → Reaches e (read_next_aad_pair (end_at e) acc)
  unfolding read_next_aad_pair read_aad_pair
  next_reaches acc =
      bind_reaches e (bind_reaches e (text_reaches 10) (λ k. bind_reaches e (text_reaches 11) (λ v. return_reaches e _))) (λ p. test_reaches e 12 _ (return_reaches e p))

  pairs_reach : (n : ℕ) (acc : List PairAt) → Reaches e (repeat n (read_next_aad_pair (end_at e)) acc)
  unfolding repeat
  pairs_reach zero acc = return_reaches e acc
  pairs_reach (suc n) acc = bind_reaches e (next_reaches acc) (λ p. pairs_reach n (acc ++ (p ∷ [])))

  aad_reaches : (mode : Mode) (n : ℕ) → Reaches e (read_aad mode n (end_at e))
  unfolding read_aad read_aad_by ◌>>=◌
  aad_reaches mode n =
      held_reaches e 2 _ (λ l s h k. goes_on e _ (λ count. test_reaches e 8 _ (test_reaches e 21 _ (test_reaches e 9 _ (pairs_reach count [])))) (read_uint16 l s) (uint16_full l s h k))

-- a result that is short wants what P says
abbrev pub Asks : {A : Type 0} → (ℕ → Type 0) → ReadResult A → Type 0
Asks P (success a l t) = Unit {0}
Asks P (more_needed p) = P p
Asks P (error k) = Unit {0}

pub asks_as : {A : Type 0} (P Q : ℕ → Type 0) → ((p : ℕ) → P p → Q p) → (x : ReadResult A) → Asks P x → Asks Q x
asks_as P Q f (success a l t) h = tt
asks_as P Q f (more_needed p) h = f p h
asks_as P Q f (error k) h = tt

full_asks : {A : Type 0} (P : ℕ → Type 0) (e : ℕ) (x : ReadResult A) → Full e x → Asks P x
full_asks P e (success a l t) h = tt
full_asks P e (more_needed p) h = absurd h
full_asks P e (error k) h = tt

pub asks_on : {A B : Type 0} (P : ℕ → Type 0) (f : A → Reader B) → ((a : A) (l : List ℕ) (t : ℕ) → Asks P (f a l t)) → (x : ReadResult A) → Asks P x → Asks P (go_on x f)
asks_on P f h (success a l t) w = h a l t
asks_on P f h (more_needed p) w = w
asks_on P f h (error k) w = tt

pub test_asks : {A : Type 0} (P : ℕ → Type 0) (k : ℕ) (b : Bool) (q : Reader A) (l : List ℕ) (t : ℕ) → Asks P (q l t) → Asks P ((test k b >> q) l t)
unfolding test ◌>>◌
test_asks P k true q l t h = h
test_asks P k false q l t h = tt

pub tested : {A : Type 0} (P : ℕ → Type 0) (k : ℕ) (b : Bool) (a : A) (l : List ℕ) (t : ℕ) → Asks P ((test k b >> return a) l t)
unfolding return
tested P k b a l t = test_asks P k b (return a) l t tt

read_asks : (n : ℕ) (l : List ℕ) (s : ℕ) → Asks (λ p. p ≡ s + n) (read n l s)
read_asks n l s = by (leb n (length l)) refl
  where
    by : (b : Bool) → leb n (length l) ≡ b → Asks (λ p. p ≡ s + n) (read n l s)
    by true h = rw (read_fits n l s (is_leb _ _ h)) tt
    by false h = rw (read_short n l s (is_nleb _ _ h)) refl

uint16_asks : (l : List ℕ) (s : ℕ) → Asks (λ p. p ≡ s + 2) (read_uint16 l s)
unfolding read_uint16 read_uint return ◌>>=◌
uint16_asks l s = asks_on (λ p. p ≡ s + 2) _ (λ p l t. tt) (read 2 l s) (read_asks 2 l s)

-- what follows the length n of a section
pub of_asks : (mode : Mode) (b : Bool) (n : ℕ) (l : List ℕ) (s : ℕ) → Asks (λ p. p ≡ s + n) (read_aad_of mode b n l s)
unfolding read_aad_of return ◌>>=◌ ◌>>◌
of_asks mode true n l s = tt
of_asks mode false n l s = by (leb n (length l)) refl
  where
    by : (b : Bool) → leb n (length l) ≡ b → Asks (λ p. p ≡ s + n) (enclosed n 14 (read_aad mode n) l s)
    by true h =
        let k : n ≤ length l = is_leb _ _ h in
        rw (enclosed_fits n 14 (read_aad mode n) l s k)
        (asks_on (λ p. p ≡ s + n) (λ a l' t. go_on (test 14 (eqb t (s + n)) l' t) (λ u. return a)) (λ a l' t. tested (λ p. p ≡ s + n) 14 (eqb t (s + n)) a l' t) (read_aad mode n (end_at (s + n)) l s)
        (full_asks (λ p. p ≡ s + n) (s + n) (read_aad mode n (end_at (s + n)) l s) ((aad_reaches (s + n) mode n).full l s (omega arith))))
    by false h = rw (enclosed_short n 14 (read_aad mode n) l s (is_nleb _ _ h)) refl

module _ (mode : Mode) (m : List ℕ) (s : ℕ) where
  abbrev pub Helps : ℕ → Type 0
  Helps p = (p ≡ s + 2) ⊎ (p ≡ entry_end m s)

  section_helps : Asks Helps (read_aad_section mode (drop s m) s)
  unfolding read_aad_section ◌>>=◌ at
  section_helps = by (read_uint16 (drop s m) s) refl (uint16_asks (drop s m) s)
    where
      as_whole : {A : Type 0} (n t : ℕ) → n ≡ number16 m s → t ≡ s + 2 → (x : ReadResult A) → Asks (λ p. p ≡ t + n) x → Asks Helps x
      as_whole n t a b (success c l u) w = tt
      as_whole n t a b (more_needed p) w = inr (w ∙ rw (a, b) refl)
      as_whole n t a b (error k) w = tt

      by : (x : ReadResult ℕ) → read_uint16 (drop s m) s ≡ x → Asks (λ p. p ≡ s + 2) x → Asks Helps (go_on x (λ n. read_aad_of mode (eqb n 0) n))
      by (success n l t) e w =
          as_whole n t (goes_accepted uint16_goes m s n t (ap answer e)) (uint16_size (drop s m) s n l t e) (read_aad_of mode (eqb n 0) n l t) (of_asks mode (eqb n 0) n l t)
      by (more_needed p) e w = inl w
      by (error k) e w = tt

-- looking up wants nothing
pub looks : (P : ℕ → Type 0) (k : List ℕ) (ps : List PairAt) (l : List ℕ) (s : ℕ) → Asks P (look_up k ps l s)
unfolding look_up
looks P k [] l s = tt
looks P k (p ∷ ps) l s = by (same_bytes k p.key.bytes) (looks P k ps l s)
  where
    by : (b : Bool) → Asks P (look_up k ps l s) → Asks {A = Part} P (elim b as (λ x. ReadResult Part) [ true ↦ success p.value l s | false ↦ look_up k ps l s ])
    by true h = tt
    by false h = h

-- what an operation wants that reads a section and wants nothing behind it
module _ {A : Type 0} (r : Reader A) {listed : List ℕ} (listed_by : RefusesBy listed r) (mode : Mode) (m : List ℕ) (s : ℕ) where
  pub wants_as_a_whole : Asks (Helps mode m s) (r (drop s m) s) → (p : ℕ) → operation r m s ≡ refused 2 p → (p ≡ s + 2) ⊎ (p ≡ entry_end m s)
  wants_as_a_whole asks p e = cases r m s far near
    where
      far : operation r m s ≡ refused 1 0 → Helps mode m s p
      far q =
          let z : ◌≡◌ {A = Answer A} (refused 1 0) (refused 2 p) = sym q ∙ e in
          let k : ◌≡◌ {A = ℕ} 1 2 = cc in
          absurd (omega arith)

      of : (x : ReadResult A) → Asks (Helps mode m s) x → answer x ≡ refused 2 p → Helps mode m s p
      of (success a l t) w q = let z : ◌≡◌ {A = ℕ} 0 1 = cc in absurd (omega arith)
      of (more_needed u) w q = let z : u ≡ p = cc in rw z at w
      of (error k) w q =
          let z : 0 ≡ p = cc in
          let far : length m < p = (listed_by m s 2 p e).wanted refl in
          absurd (omega arith)

      near : length m ≤ 4294967295 → s ≤ 4294967295 → operation r m s ≡ answer (r (drop s m) s) → Helps mode m s p
      near a b q = of (r (drop s m) s) asks (sym q ∙ e)

module _ {A : Type 0} (mode : Mode) (m : List ℕ) (s : ℕ) (f : List PairAt → Reader A) (quiet : (ps : List PairAt) (l : List ℕ) (t : ℕ) → Asks (Helps mode m s) (f ps l t)) where
  pub section_asks : Asks (Helps mode m s) ((read_aad_section mode >>= f) (drop s m) s)
  unfolding ◌>>=◌
  section_asks = asks_on (Helps mode m s) f quiet (read_aad_section mode (drop s m) s) (section_helps mode m s)

pub section_into_asks : (mode : Mode) (room : ℕ) (m : List ℕ) (s : ℕ) → Asks (Helps mode m s) (read_aad_section_into mode room (drop s m) s)
unfolding read_aad_section_into
section_into_asks mode room m s = section_asks mode m s _ (λ ps l t. tested (Helps mode m s) 22 _ ps l t)

pub section_wants : (mode : Mode) (room : ℕ) (m : List ℕ) (s p : ℕ) → operation (read_aad_section_into mode room) m s ≡ refused 2 p → (p ≡ s + 2) ⊎ (p ≡ entry_end m s)
section_wants mode room m s p e = wants_as_a_whole (read_aad_section_into mode room) (refusals.of_context mode room) mode m s (section_into_asks mode room m s) p e
