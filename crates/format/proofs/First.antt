-- Each reading operation goes by its list in specs/First. Assumes nothing.
use mathlib.Core.Path.{◌≡◌, refl, ◌∙◌}
use mathlib.Core.Bool.{Bool, true, false, not, cond, ◌&&◌, ◌||◌}
use mathlib.Core.Option.{none}
use mathlib.Core.List.{List, [], ◌∷◌, ◌++◌, map}
use Prim.Native.Nat.{ℕ, zero, suc, ◌+◌, ◌-◌, ◌≤◌, ◌<◌}
use native.Mathlib.Omega.{arith}
use native.Mathlib.Nat.{add_assoc}
use lib.Dec.{leb, ltb, eqb}
use lib.ListN.{length, take, drop}
use lib.Seq.{drop-cons}
use Rattle.format.specs.Read.{End, no_end, end_at}
use Rattle.format.specs.Serialize.{read_uint, read_uint8, read_uint16, read_uint32, read_short_length_seq}
use Rattle.format.specs.Utf8.{valid_utf8_seq}
use Rattle.format.specs.Fields.{today, old, PairAt, pair_of}
use Rattle.format.specs.Context.{Mode, is_strict, seen, read_text, read_aad_pair, read_next_aad_pair, read_aad_by, read_aad, read_aad_of, read_aad_section, form_between, mark, with_mark, read_aad_section_into}
use Rattle.format.specs.Keys.{Max, read_encrypted_data_key, read_encrypted_data_keys_of, read_encrypted_data_keys_section, read_encrypted_data_keys_section_into}
use Rattle.format.specs.Places.{number_here, number8, number16, number32, entry_here, entry_end, items_end, pair_here, pair_end, pairs_here, pairs_end, key_here, key_end, section_pairs, section_form, section_keys, section_keys_end}
use Rattle.format.specs.First.{Line, lacks, when, unless, entry_list, each_list, pair_list, context_list_of, context_list, key_list, keys_list, context_into_list, keys_into_list}
use Rattle.format.specs.Pinned.{line_number}
use Rattle.format.proofs.Tests.{never, leb_is, nleb_is, is_leb, is_nleb, eqb_is, is_eqb, eqb_shift}
use Rattle.format.proofs.Lines.{first_line, one_none, join_none, behind_line, behind_list, Goes, goes_as, return_goes, bind_goes, test_goes, not_goes, held_goes, read_goes, repeat_goes, enclosed_goes, stopped}

-- the numbers of 1, 2 and 4 bytes, byte by byte
module _ (m : List ℕ) (s : ℕ) where
  pub is_number8 : s + 1 ≤ length m → number_here 1 m s ≡ number8 m s
  is_number8 h = rw (drop-cons m s 0 (omega arith)) (omega arith)

  pub is_number16 : s + 2 ≤ length m → number_here 2 m s ≡ number16 m s
  is_number16 h =
      let e : s + 1 ≡ suc s = omega arith in
      rw (e, drop-cons m s 0 (omega arith), drop-cons m (suc s) 0 (omega arith)) (omega arith)

  pub is_number32 : s + 4 ≤ length m → number_here 4 m s ≡ number32 m s
  is_number32 h =
      let p : s + 1 ≡ suc s = omega arith in
      let q : s + 2 ≡ suc (suc s) = omega arith in
      let r : suc (suc s) + 1 ≡ suc (suc (suc s)) = omega arith in
      rw (q, p, r, drop-cons m s 0 (omega arith), drop-cons m (suc s) 0 (omega arith), drop-cons m (suc (suc s)) 0 (omega arith), drop-cons m (suc (suc (suc s))) 0 (omega arith))
      (omega arith)

uint_goes : (width : ℕ) → Goes (read_uint width) (λ m s. lacks width m s ∷ []) (λ m s. number_here width m s) (λ m s. s + width)
unfolding read_uint
uint_goes width = bind_goes (read_goes width) (λ p. return_goes _)

-- the bytes are there where no shortage applies
pub there : (n : ℕ) (m : List ℕ) (s : ℕ) → 0 < n → first_line (lacks n m s ∷ []) ≡ none → s + n ≤ length m
there n m s h₀ e = let h : n < suc (length m - s) = is_nleb (suc (length m - s)) n (one_none (lacks n m s) [] e).0 in omega arith

pub uint8_goes : Goes read_uint8 (λ m s. lacks 1 m s ∷ []) number8 (λ m s. s + 1)
unfolding read_uint8
uint8_goes = goes_as (uint_goes 1) (λ m s. refl) (λ m s e. (is_number8 m s (there 1 m s (omega arith) e), refl))

pub uint16_goes : Goes read_uint16 (λ m s. lacks 2 m s ∷ []) number16 (λ m s. s + 2)
unfolding read_uint16
uint16_goes = goes_as (uint_goes 2) (λ m s. refl) (λ m s e. (is_number16 m s (there 2 m s (omega arith) e), refl))

pub uint32_goes : Goes read_uint32 (λ m s. lacks 4 m s ∷ []) number32 (λ m s. s + 4)
unfolding read_uint32
uint32_goes = goes_as (uint_goes 4) (λ m s. refl) (λ m s e. (is_number32 m s (there 4 m s (omega arith) e), refl))

entry_goes : (e : End) → Goes (read_short_length_seq e) (entry_list e) entry_here entry_end
unfolding read_short_length_seq entry_list
entry_goes e = held_goes e 2 (bind_goes uint16_goes (λ n. held_goes e n (read_goes n)))

text_goes : (e : End) (k : ℕ) → Goes (read_text e k) (λ m s. entry_list e m s ++ (unless k (valid_utf8_seq (entry_here m s).bytes) ∷ [])) entry_here entry_end
unfolding read_text
text_goes e k = bind_goes (entry_goes e) (λ p. test_goes k _ (return_goes p))

-- the context section
two_goes : (e : End) → Goes (read_aad_pair e)
    (λ m s. (entry_list e m s ++ (unless 10 (valid_utf8_seq (entry_here m s).bytes) ∷ []))
    ++ ((entry_list e m (entry_end m s) ++ (unless 11 (valid_utf8_seq (entry_here m (entry_end m s)).bytes) ∷ [])) ++ []))
    pair_here pair_end
unfolding read_aad_pair
two_goes e = bind_goes (text_goes e 10) (λ k. bind_goes (text_goes e 11) (λ v. return_goes _))

pair_goes : (e : ℕ) (acc : List PairAt) → Goes (read_next_aad_pair (end_at e) acc) (pair_list (end_at e) acc) pair_here pair_end
unfolding read_next_aad_pair pair_list entry_list
pair_goes e acc = bind_goes (two_goes (end_at e)) (λ p. not_goes 12 (seen p.key.bytes (map pair_of acc)) (return_goes p))

-- 8, 21 and 9 in document 01's words: the definition tests 21 once 8 has passed
in_words : (two zero strictly : Bool) (x y z : Line) (rest : List Line)
    → first_line (x ∷ y ∷ z ∷ when 8 (two && not zero) ∷ when 21 (two && (zero && strictly)) ∷ when 9 (not two && zero) ∷ rest)
    ≡ first_line (x ∷ y ∷ z ∷ unless 8 (not two || zero) ∷ unless 21 (not (two && strictly)) ∷ unless 9 (two || not zero) ∷ rest)
unfolding first_line
in_words true true true x y z rest = refl
in_words true true false x y z rest = refl
in_words true false strictly x y z rest = refl
in_words false true strictly x y z rest = refl
in_words false false strictly x y z rest = refl

-- pairs of which none is refused by 32 end within the section's end
pair_within : (e : ℕ) (done : List PairAt) (m : List ℕ) (s : ℕ) → first_line (pair_list (end_at e) done m s) ≡ none → pair_end m s ≤ e
unfolding pair_list entry_list
pair_within e done m s h =
    let value = (one_none _ _ (one_none _ _ (one_none _ _ (one_none _ _ (one_none _ _ (one_none _ _ (one_none _ _ h).1).1).1).1).1).1).1 in
    let k : pair_end m s < suc e = is_nleb (suc e) (pair_end m s) (one_none _ _ value).0 in
    omega arith

pairs_within : (e n : ℕ) (done : List PairAt) (m : List ℕ) (s : ℕ) → s ≤ e → first_line (each_list (pair_list (end_at e)) pair_here pair_end n done m s) ≡ none → pairs_end m n s ≤ e
unfolding each_list items_end
pairs_within e zero done m s h k = h
pairs_within e (suc n) done m s h k =
    let (a, b) = join_none (pair_list (end_at e) done m s) (each_list (pair_list (end_at e)) pair_here pair_end n (done ++ (pair_here m s ∷ [])) m (pair_end m s)) k in
    pairs_within e n (done ++ (pair_here m s ∷ [])) m (pair_end m s) (pair_within e done m s a) b

-- so those that do not end where the section does end before it
early : (t e : ℕ) → t ≤ e → first_line (when 14 (ltb t e) ∷ []) ≡ first_line (unless 14 (eqb t e) ∷ [])
early t e h = by (eqb t e) refl
  where
    before : (b : Bool) → leb e t ≡ b → eqb t e ≡ false → t < e
    before true g k = let q : e ≤ t = is_leb e t g in never (eqb_is t e (omega arith)) k
    before false g k = is_nleb e t g

    by : (b : Bool) → eqb t e ≡ b → first_line (when 14 (ltb t e) ∷ []) ≡ first_line (unless 14 (eqb t e) ∷ [])
    by true k = let q : t ≡ e = is_eqb t e k in rw (k, nleb_is (suc t) e (omega arith)) refl
    by false k = rw (k, leb_is (suc t) e (before (leb e t) refl k)) refl

abbrev section_lines : ℕ → List ℕ → ℕ → Line → Line → Line → Line → List Line
section_lines n m s a b c last =
    lacks n m s ∷ when 32 (ltb (s + n) (s + 2)) ∷ lacks 2 m s ∷ a ∷ b ∷ c ∷ (each_list (pair_list (end_at (s + n))) pair_here pair_end (number16 m s) [] m (s + 2) ++ (last ∷ []))

ends_early : (n : ℕ) (m : List ℕ) (s : ℕ) (a b c : Line)
    → first_line (section_lines n m s a b c (when 14 (ltb (pairs_end m (number16 m s) (s + 2)) (s + n)))) ≡ first_line (section_lines n m s a b c (unless 14 (eqb (pairs_end m (number16 m s) (s + 2)) (s + n))))
ends_early n m s a b c =
    behind_line _ _ _ (λ _. behind_line _ _ _ (λ h. behind_line _ _ _ (λ _. behind_line a _ _ (λ _. behind_line b _ _ (λ _. behind_line c _ _ (λ _.
    behind_list (each_list (pair_list (end_at (s + n))) pair_here pair_end (number16 m s) [] m (s + 2)) _ _ (λ k.
    let g : s + 2 < suc (s + n) = is_nleb (suc (s + n)) (s + 2) h in
    early (pairs_end m (number16 m s) (s + 2)) (s + n) (pairs_within (s + n) (number16 m s) [] m (s + 2) (omega arith) k))))))))

-- where the pairs end is where the section's length says
context_of_goes : (mode : Mode) (b : Bool) (n : ℕ) → Goes (read_aad_of mode b n) (context_list_of mode b n)
    (λ m s. cond b [] (pairs_here m (number16 m s) (s + 2))) (λ m s. cond b s (s + n))
unfolding read_aad_of read_aad read_aad_by context_list_of
context_of_goes mode true n = return_goes []
context_of_goes mode false n =
    goes_as (enclosed_goes n 14 (read_aad mode n) (λ e. held_goes (end_at e) 2 (bind_goes uint16_goes (λ count. test_goes _ _ (test_goes _ _ (test_goes _ _ (repeat_goes (pair_goes e) count [])))))))
    (λ m s. in_words (eqb n 2) (eqb (number16 m s) 0) (is_strict mode) _ _ _ _ ∙ ends_early n m s _ _ _)
    (λ m s e. (refl, refl))

pub context_goes : (mode : Mode) → Goes (read_aad_section mode) (context_list mode) section_pairs entry_end
unfolding read_aad_section context_list
context_goes mode = goes_as (bind_goes uint16_goes (λ n. context_of_goes mode (eqb n 0) n)) (λ m s. refl) (λ m s e. (refl, ends (number16 m s) (s + 2) (eqb (number16 m s) 0) refl))
  where
    ends : (n s : ℕ) (b : Bool) → eqb n 0 ≡ b → cond b s (s + n) ≡ s + n
    ends n s true e = let z = is_eqb n 0 e in omega arith
    ends n s false e = refl

-- a section with its form, which its length tells
pub marked_goes : (mode : Mode) → Goes (with_mark (read_aad_section mode)) (context_list mode) (λ m s. record { form = section_form m s; pairs = section_pairs m s }) entry_end
unfolding with_mark
marked_goes mode =
    record {
      passes = λ m s e. rw ((context_goes mode).passes m s e, form_is s (number16 m s)) refl;
      stops = λ m s x e. stopped (mark s) x.number x.position (read_aad_section mode (drop s m) s) ((context_goes mode).stops m s x e);
    }
  where
    form_is : (s n : ℕ) → form_between s (s + 2 + n) ≡ cond (eqb n 2) old today
    form_is s n = rw (add_assoc s 2 n, eqb_shift s (2 + n) 4, eqb_shift 2 n 2) refl

pub context_into_goes : (mode : Mode) (room : ℕ) → Goes (read_aad_section_into mode room) (context_into_list mode room) section_pairs entry_end
unfolding read_aad_section_into context_into_list
context_into_goes mode room = bind_goes (context_goes mode) (λ ps. test_goes _ _ (return_goes ps))

-- the key section
key_goes : Goes read_encrypted_data_key key_list key_here key_end
unfolding read_encrypted_data_key key_list entry_list
key_goes = bind_goes (text_goes no_end 16) (λ p. bind_goes (entry_goes no_end) (λ i. bind_goes (entry_goes no_end) (λ c. return_goes _)))

-- 38 stands before 15
pub in_reading : (max : Max) (m : List ℕ) (s : ℕ) → take 3 (map line_number (keys_list max m s)) ≡ (2 ∷ 38 ∷ 15 ∷ [])
unfolding keys_list
in_reading max m s = refl

pub keys_goes : (max : Max) → Goes (read_encrypted_data_keys_section max) (keys_list max) section_keys section_keys_end
unfolding read_encrypted_data_keys_section read_encrypted_data_keys_of keys_list
keys_goes max = bind_goes uint16_goes (λ count. not_goes 38 (eqb count 0) (test_goes _ _ (repeat_goes (λ acc. key_goes) count [])))

pub keys_into_goes : (max : Max) (room : ℕ) → Goes (read_encrypted_data_keys_section_into max room) (keys_into_list max room) section_keys section_keys_end
unfolding read_encrypted_data_keys_section_into keys_into_list
keys_into_goes max room = bind_goes (keys_goes max) (λ ks. test_goes _ _ (return_goes ks))
