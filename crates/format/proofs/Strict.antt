-- Sentence 2: the strict reader against the tolerant one. Assumes nothing.
use mathlib.Core.Path.{◌≡◌, refl, sym, ap, subst₂, ◌∙◌}
use mathlib.Core.Bool.{Bool, true, false, ◌&&◌, cond}
use mathlib.Core.List.{List, [], ◌∷◌}
use Prim.Native.Nat.{ℕ, ◌+◌, ◌*◌, ◌<◌}
use native.Mathlib.Omega.{arith}
use lib.Dec.{leb, eqb}
use lib.ListN.{length, take, drop}
use Rattle.format.specs.Read.{ReadResult, success, more_needed, error, Reader, go_on, ◌>>=◌, ◌>>◌, return, test, end_at, enclosed, Answer, accepted, refused, answer, at, operation}
use Rattle.format.specs.Serialize.{Bytes, read_uint, read_uint16, same_bytes}
use Rattle.format.specs.Shared.{by}
use Rattle.format.specs.Fields.{PairAt, HeaderBody}
use Rattle.format.specs.Context.{Mode, tolerant, strict, read_next_aad_pair, read_aad_by, read_aad, read_aad_of, read_aad_section, mark, with_mark}
use Rattle.format.specs.Keys.{Max}
use Rattle.format.specs.Policies.{Policy}
use Rattle.format.specs.Body.{Which, tests_frames, Opening, read_opening, Request, request_under, after_keys, after_context, after_opening, read_body, read_header_body_under}
use Rattle.format.specs.Lent.{table_after, pair_table_after, key_table_after, pair_numbers, key_numbers}
use Rattle.format.specs.Demand3.{old_empty, reached_old, reaches_old, Sentence2}
use Rattle.format.proofs.Tests.{is_eqb, eqb_is}
use Rattle.format.proofs.Exact.{held_fits, enclosed_fits, enclosed_short}
use Rattle.format.proofs.Serialize.{read_short, two_bytes}
use Rattle.format.proofs.Ends.{Top, top_bytes, v1_of, top_long, opening_exact}
use Rattle.format.proofs.Messages.{accepted_took, rest_is, bytes_drop}

too_short : (l : List ℕ) (s : ℕ) → length l < 2 → read_uint16 l s ≡ more_needed (s + 2)
unfolding read_uint16 read_uint ◌>>=◌
too_short l s h = rw (read_short 2 l s h) refl

-- in a section whose length is not 2, nothing is strict
aad_same : (n : ℕ) → eqb n 2 ≡ false → read_aad strict n ≡ read_aad tolerant n
unfolding read_aad read_aad_by
aad_same n e = rw (e, read_aad) refl

of_same : (n : ℕ) → eqb n 2 ≡ false → (b : Bool) → read_aad_of strict b n ≡ read_aad_of tolerant b n
unfolding read_aad_of
of_same n e true = refl
of_same n e false = rw (aad_same n e) refl

-- a section of length 2: 8 unless the count is 0, and then 21 where it is strict
enclosed_two : (mode : Mode) (c d : ℕ) (l : List ℕ) (s : ℕ) → enclosed 2 14 (read_aad mode 2) (c ∷ d ∷ l) s
    ≡ (read_aad_by (read_next_aad_pair (end_at (s + 2))) mode 2 >>= λ a l' t. go_on (test 14 (eqb t (s + 2)) l' t) (λ u. return a)) (c ∷ d ∷ l) s
unfolding read_aad ◌>>=◌
enclosed_two mode c d l s =
    enclosed_fits 2 14 (read_aad mode 2) (c ∷ d ∷ l) s (omega arith)
    ∙ ap (λ x. go_on x (λ a l' t. go_on (test 14 (eqb t (s + 2)) l' t) (λ u. return a))) (held_fits (s + 2) 2 _ (c ∷ d ∷ l) s (omega arith))

two_eight : (mode : Mode) (c d : ℕ) (l : List ℕ) (s : ℕ) → eqb (c * 256 + d) 0 ≡ false → enclosed 2 14 (read_aad mode 2) (c ∷ d ∷ l) s ≡ error 8
unfolding read_aad_by ◌>>=◌ ◌>>◌ test
two_eight mode c d l s e = rw (enclosed_two mode c d l s, two_bytes c d l s, e) refl

two_strict : (c d : ℕ) (l : List ℕ) (s : ℕ) → eqb (c * 256 + d) 0 ≡ true → enclosed 2 14 (read_aad strict 2) (c ∷ d ∷ l) s ≡ error 21
unfolding read_aad_by ◌>>=◌ ◌>>◌ test
two_strict c d l s e = rw (enclosed_two strict c d l s, two_bytes c d l s, e) refl

-- two bytes make a number below 256 just where the first is 0
high_zero : (n a b : ℕ) → n < 256 → eqb (a * 256 + b) n ≡ false → (eqb a 0 && eqb b n) ≡ false
high_zero n a b h e = go (eqb a 0) refl (eqb b n) refl
  where
    go : (x : Bool) → eqb a 0 ≡ x → (y : Bool) → eqb b n ≡ y → (x && y) ≡ false
    go true p true q =
        let a0 = is_eqb a 0 p in
        let bn = is_eqb b n q in
        let w : eqb (a * 256 + b) n ≡ true = eqb_is (a * 256 + b) n (omega arith) in
        cc
    go true p false q = refl
    go false p y q = refl

and_true : (x : Bool) → (x && true) ≡ x
and_true true = refl
and_true false = refl

four_bytes : (a b c d : ℕ) (l : List ℕ) → old_empty (a ∷ b ∷ c ∷ d ∷ l) ≡ (eqb a 0 && (eqb b 2 && (eqb c 0 && eqb d 0)))
unfolding same_bytes
four_bytes a b c d l = rw (and_true (eqb d 0)) refl

not_old : (a b : ℕ) (l : List ℕ) → (eqb a 0 && eqb b 2) ≡ false → old_empty (a ∷ b ∷ l) ≡ false
unfolding same_bytes
not_old a b l e = first (eqb a 0) refl (eqb b 2) refl
  where
    first : (x : Bool) → eqb a 0 ≡ x → (y : Bool) → eqb b 2 ≡ y → (eqb a 0 && (eqb b 2 && same_bytes (take 2 l) (0 ∷ 0 ∷ []))) ≡ false
    first true p true q = let z : (true && true) ≡ false = rw (p, q) at e in let w : ◌≡◌ {A = ℕ} 0 1 = cc in absurd (omega arith)
    first true p false q = rw (p, q) refl
    first false p y q = rw p refl

zeros : (c d : ℕ) → eqb (c * 256 + d) 0 ≡ true → (eqb c 0 && eqb d 0) ≡ true
zeros c d e =
    let z : c * 256 + d ≡ 0 = is_eqb _ _ e in
    rw (eqb_is c 0 (omega arith), eqb_is d 0 (omega arith)) refl

-- the section, by its first bytes
section_front : (mode : Mode) (a b : ℕ) (l : List ℕ) (s : ℕ) → read_aad_section mode (a ∷ b ∷ l) s ≡ read_aad_of mode (eqb (a * 256 + b) 0) (a * 256 + b) l (s + 2)
unfolding read_aad_section ◌>>=◌
section_front mode a b l s = rw (two_bytes a b l s) refl

section_short : (mode : Mode) (l : List ℕ) (s : ℕ) → length l < 2 → read_aad_section mode l s ≡ more_needed (s + 2)
unfolding read_aad_section ◌>>=◌
section_short mode l s h = rw (too_short l s h) refl

Alike : List ℕ → ℕ → Type 0
Alike l s = read_aad_section strict l s ≡ cond (old_empty l) (error 21) (read_aad_section tolerant l s)

enclosed_two_short : (mode : Mode) (l : List ℕ) (s : ℕ) → length l < 2 → enclosed 2 14 (read_aad mode 2) l s ≡ more_needed (s + 2)
enclosed_two_short mode l s h = enclosed_short 2 14 (read_aad mode 2) l s h

strict_two : (l : List ℕ) (s : ℕ) → Alike (0 ∷ 2 ∷ l) s
unfolding Alike read_aad_of same_bytes
strict_two [] s = rw (section_front strict 0 2 [] s, section_front tolerant 0 2 [] s, enclosed_two_short strict [] (s + 2) (omega arith), enclosed_two_short tolerant [] (s + 2) (omega arith)) refl
strict_two (c ∷ []) s =
    let h : length (c ∷ []) < 2 = omega arith in
    rw (section_front strict 0 2 (c ∷ []) s, section_front tolerant 0 2 (c ∷ []) s, enclosed_two_short strict (c ∷ []) (s + 2) h, enclosed_two_short tolerant (c ∷ []) (s + 2) h)
    (both (eqb c 0))
  where
    both : (x : Bool) → more_needed (s + 2 + 2) ≡ cond {A = ReadResult (List PairAt)} (x && false) (error 21) (more_needed (s + 2 + 2))
    both true = refl
    both false = refl
strict_two (c ∷ d ∷ l) s = rw (section_front strict 0 2 (c ∷ d ∷ l) s, section_front tolerant 0 2 (c ∷ d ∷ l) s, four_bytes 0 2 c d l) (go (eqb (c * 256 + d) 0) refl)
  where
    go : (b : Bool) → eqb (c * 256 + d) 0 ≡ b → enclosed 2 14 (read_aad strict 2) (c ∷ d ∷ l) (s + 2) ≡ cond (eqb c 0 && eqb d 0) (error 21) (enclosed 2 14 (read_aad tolerant 2) (c ∷ d ∷ l) (s + 2))
    go true e = rw (two_strict c d l (s + 2) e, zeros c d e) refl
    go false e = rw (two_eight strict c d l (s + 2) e, two_eight tolerant c d l (s + 2) e, high_zero 0 c d (omega arith) e) refl

strict_other : (a b : ℕ) (l : List ℕ) (s : ℕ) → eqb (a * 256 + b) 2 ≡ false → Alike (a ∷ b ∷ l) s
unfolding Alike
strict_other a b l s e =
    rw (
      section_front strict a b l s,
      section_front tolerant a b l s,
      of_same (a * 256 + b) e (eqb (a * 256 + b) 0),
      not_old a b l (high_zero 2 a b (omega arith) e),
    )
    refl

none_old : (l : List ℕ) → length l < 2 → old_empty l ≡ false
unfolding same_bytes
none_old [] h = refl
none_old (a ∷ []) h = go (eqb a 0)
  where
    go : (x : Bool) → (x && false) ≡ false
    go true = refl
    go false = refl
none_old (a ∷ b ∷ l) h = absurd (omega arith)

strict_section : (l : List ℕ) (s : ℕ) → Alike l s
unfolding Alike
strict_section [] s = rw (section_short strict [] s (omega arith), section_short tolerant [] s (omega arith), none_old [] (omega arith)) refl
strict_section (a ∷ []) s =
    let h : length (a ∷ []) < 2 = omega arith in
    rw (section_short strict (a ∷ []) s h, section_short tolerant (a ∷ []) s h, none_old (a ∷ []) h) refl
strict_section (a ∷ b ∷ l) s = go (eqb (a * 256 + b) 2) refl
  where
    go : (x : Bool) → eqb (a * 256 + b) 2 ≡ x → read_aad_section strict (a ∷ b ∷ l) s ≡ cond (old_empty (a ∷ b ∷ l)) (error 21) (read_aad_section tolerant (a ∷ b ∷ l) s)
    go true e =
        let n : a * 256 + b ≡ 2 = is_eqb _ _ e in
        let a0 : a ≡ 0 = omega arith in
        let b2 : b ≡ 2 = omega arith in
        subst₂ (λ x y. read_aad_section strict (x ∷ y ∷ l) s ≡ cond (old_empty (x ∷ y ∷ l)) (error 21) (read_aad_section tolerant (x ∷ y ∷ l) s)) (sym a0) (sym b2) (strict_two l s)
    go false e = strict_other a b l s e

go_on_cond : {A B : Type 0} (b : Bool) (k : ℕ) (x : ReadResult A) (f : A → Reader B) → go_on (cond b (error k) x) f ≡ cond b (error k) (go_on x f)
go_on_cond true k x f = refl
go_on_cond false k x f = refl

answer_cond : {A : Type 0} (b : Bool) (k : ℕ) (x : ReadResult A) → answer (cond b (error k) x) ≡ cond b (refused k 0) (answer x)
answer_cond true k x = refl
answer_cond false k x = refl

-- a table, where one case of an answer is replaced by a refusal
pub same_table : {A : Type 0} (numbers : A → List ℕ) (b : Bool) (k : ℕ) (a : Answer A) (table : List ℕ) → table_after numbers (cond b (refused k 0) a) table ≡ cond b table (table_after numbers a table)
same_table numbers true k a table = refl
same_table numbers false k a table = refl

module _ (which : Which) (policy : Policy) (m : List ℕ) (s : ℕ) (hb : Bytes m) where
  -- the section that a body reader reaches
  pub reached : (o : Opening) (t : ℕ) → operation (read_opening which policy) m s ≡ accepted o t → t ≡ s + by o.version 20 35
  reached o t e =
      let (l, x) = accepted_took (opening_exact which policy) m s hb o t e in
      let y : Top = x.value in
      let d : length (top_bytes y) ≡ cond (v1_of y) 20 35 = top_long (v1_of y) y.version y.messageType y.suite y.messageId x.good.sized in
      let v : o.version ≡ y.version = ap (λ z. z.version) x.placed in
      rw (v, ← d) x.tail

  behind : (o : Opening) (l : List ℕ) (t : ℕ) → read_opening which policy (drop s m) s ≡ success o l t → l ≡ drop t m
  behind o l t e =
      let x = (opening_exact which policy).sound (drop s m) s o l t (bytes_drop s m hb) e in
      rest_is m s l (top_bytes x.value) t x.split x.tail

module _ (policy : Policy) (which : Which) (max : Max) (pairRoom keyRoom : ℕ) (m : List ℕ) (s : ℕ) (hb : Bytes m) where
  abbrev asks : Mode → Request
  asks mode = request_under policy which mode (tests_frames which) max pairRoom keyRoom

  strict_after : (o : Opening) (l : List ℕ) (t : ℕ) → after_opening (asks strict) o l t ≡ cond (old_empty l) (error 21) (after_opening (asks tolerant) o l t)
  unfolding after_opening after_context after_keys with_mark ◌>>=◌ Alike
  strict_after o l t =
      ap (λ x. go_on (go_on x (mark t)) (after_context (asks tolerant) o)) (strict_section l t)
      ∙ ap (λ x. go_on x (after_context (asks tolerant) o)) (go_on_cond (old_empty l) 21 (read_aad_section tolerant l t) (mark t))
      ∙ go_on_cond (old_empty l) 21 (go_on (read_aad_section tolerant l t) (mark t)) (after_context (asks tolerant) o)

  strict_reader : operation (read_header_body_under policy which strict max pairRoom keyRoom) m s
      ≡ cond (reaches_old policy which m s) (refused 21 0) (operation (read_header_body_under policy which tolerant max pairRoom keyRoom) m s)
  unfolding read_header_body_under reaches_old read_body ◌>>=◌ operation at
  strict_reader = go (leb (length m) 4294967295 && leb s 4294967295)
    where
      in_body : (x : ReadResult Opening) → read_opening which policy (drop s m) s ≡ x → answer (go_on x (after_opening (asks strict)))
          ≡ cond (reached_old m (answer x)) (refused 21 0) (answer (go_on x (after_opening (asks tolerant))))
      in_body (success o l t) e =
          ap answer (strict_after o l t) ∙ answer_cond (old_empty l) 21 (after_opening (asks tolerant) o l t)
          ∙ ap (λ b. cond (old_empty b) (refused 21 0) (answer (after_opening (asks tolerant) o l t))) (behind which policy m s hb o l t e)
      in_body (more_needed p) e = refl
      in_body (error k) e = refl

      go : (b : Bool) → elim b as (λ x. Answer HeaderBody) [ true ↦ answer (read_body (asks strict) (drop s m) s) | false ↦ refused 1 0 ]
          ≡ cond {A = Answer HeaderBody} (reached_old m (elim b as (λ x. Answer Opening) [ true ↦ answer (read_opening which policy (drop s m) s) | false ↦ refused 1 0 ])) (refused 21 0)
          (elim b as (λ x. Answer HeaderBody) [ true ↦ answer (read_body (asks tolerant) (drop s m) s) | false ↦ refused 1 0 ])
      go true = in_body (read_opening which policy (drop s m) s) refl
      go false = refl

  pub sentence_2 : Sentence2 policy which max pairRoom keyRoom m s
  sentence_2 =
      record {
        answers = strict_reader;
        pair_table = λ table. ap (λ a. pair_table_after a table) strict_reader ∙ same_table (λ (b : HeaderBody). pair_numbers b.pairs) (reaches_old policy which m s) 21 _ table;
        key_table = λ table. ap (λ a. key_table_after a table) strict_reader ∙ same_table (λ (b : HeaderBody). key_numbers b.keys) (reaches_old policy which m s) 21 _ table;
        reached = reached which policy m s hb;
      }
