-- 38 is answered where a key count of 0 is reached, and nowhere else; and what the source's reading does there. Assumes nothing.
use mathlib.Core.Path.{◌≡◌, refl, sym, ap, ◌∙◌}
use mathlib.Core.Bool.{Bool, true, false, not}
use mathlib.Core.Logic.{inl, inr}
use mathlib.Core.Option.{Option, none, some}
use mathlib.Core.List.{List, [], ◌∷◌}
use Prim.Native.Nat.{ℕ, suc, ◌+◌, ◌*◌, ◌≤◌}
use native.Mathlib.Omega.{arith}
use lib.Dec.{leb, eqb}
use lib.ListN.{length, get_or, take, drop}
use lib.Seq.{drop-cons, drop-drop}
use Rattle.format.specs.Read.{ReadResult, success, more_needed, error, Reader, go_on, ◌>>=◌, ◌>>◌, return, test, repeat, Answer, accepted, refused, answer, addressable, operation}
use Rattle.format.specs.Serialize.{read_uint16, Bytes}
use Rattle.format.specs.Shared.{by}
use Rattle.format.specs.Fields.{EncryptedDataKeyAt, HeaderBody}
use Rattle.format.specs.Context.{ContextAt}
use Rattle.format.specs.Keys.{Max, no_max, at_most, within, read_encrypted_data_keys_of, read_encrypted_data_keys_section, read_encrypted_data_keys_section_into}
use Rattle.format.specs.Body.{either, Opening, Request, after_keys, after_context, after_opening, read_body}
use Rattle.format.specs.Lent.{bytes_at}
use Rattle.format.specs.Lengths.{JustWhere}
use Rattle.format.specs.Places.{number8, number16, entry_end}
use Rattle.format.specs.First.{Line, lacks, unless, NoneApplies, operation_list, opening_list, context_list}
use Rattle.format.specs.Refusals.{opening_refusals, section_refusals, closing_refusals}
use Rattle.format.specs.Source.{source_read_encrypted_data_keys_section, source_read_encrypted_data_keys_section_into, source_after_context, source_after_opening, source_read_body}
use Rattle.format.specs.SourceEquality.{NoKeyAt, before_keys, NoKeyIn}
use Rattle.format.proofs.Tests.{leb_is, is_leb, is_eqb}
use Rattle.format.proofs.Serialize.{two_bytes}
use Rattle.format.proofs.Firsts.{both}
use Rattle.format.proofs.Members.{has}
use Rattle.format.proofs.Messages.{bytes_drop, cases, operation_here, accepted_inside}
use Rattle.format.proofs.Lines.{first_line, join_none, none_join, one_none, none_applies, applies_none, Goes, stopped}
use Rattle.format.proofs.ListedLaws.{Listed, not_listed, then_listed, return_listed, test_listed, uint16_listed, marked_listed, Gives, return_gives, bind_gives, passed_gives}
use Rattle.format.proofs.ListedEnds.{opening_listed, opening_without, closing_without}
use Rattle.format.proofs.Listed.{counted_listed, section_listed, section_without, after_keys_listed}
use Rattle.format.proofs.First.{there, uint16_goes, marked_goes}
use Rattle.format.proofs.FirstBody.{opening_goes}
use Rattle.format.proofs.Exact.{error_is_no_success}
use Rattle.format.proofs.Section.{Alike}
use Rattle.format.proofs.BothRead.{BothRead, section_both, marked_both}

-- THE COUNT: two bytes 00 that are there
abbrev Zero : List ℕ → ℕ → Type 0
Zero m s = bytes_at m s 2 ≡ (0x00 ∷ 0x00 ∷ [])

is_zero : (m : List ℕ) (s : ℕ) → first_line (lacks 2 m s ∷ []) ≡ none → eqb (number16 m s) 0 ≡ true → Zero m s
is_zero m s e z =
    let h : s + 2 ≤ length m = there 2 m s (omega arith) e in
    let n : number16 m s ≡ 0 = is_eqb _ _ z in
    let p : s + 1 ≡ suc s = omega arith in
    let a : get_or m s 0 ≡ 0 = omega arith in
    let b : get_or m (suc s) 0 ≡ 0 = rw (← p) (omega arith) in
    rw (drop-cons m s 0 (omega arith), drop-cons m (suc s) 0 (omega arith), a, b) refl

zero_front : (l : List ℕ) (s : ℕ) → take 2 l ≡ (0x00 ∷ 0x00 ∷ []) → read_uint16 l s ≡ success 0 (drop 2 l) (s + 2)
zero_front [] s z = let w : ◌≡◌ {A = ℕ} 0 1 = cc in absurd (omega arith)
zero_front (a ∷ []) s z = let w : ◌≡◌ {A = ℕ} 0 1 = cc in absurd (omega arith)
zero_front (a ∷ b ∷ l) s z =
    let p : a ≡ 0 = cc in
    let q : b ≡ 0 = cc in
    let n : a * 256 + b ≡ 0 = omega arith in
    two_bytes a b l s ∙ ap (λ c. success c l (s + 2)) n

zero_is : (m : List ℕ) (s : ℕ) → Zero m s → read_uint16 (drop s m) s ≡ success 0 (drop (s + 2) m) (s + 2)
zero_is m s z = zero_front (drop s m) s z ∙ ap (λ l. success 0 l (s + 2)) (drop-drop 2 s m)

-- where it stands, ours refuses and the source's reading gives no key: a count of 0 passes no maximum
pub zero_refused : (max : Max) (m : List ℕ) (s : ℕ) → Zero m s → read_encrypted_data_keys_section max (drop s m) s ≡ error 38
unfolding read_encrypted_data_keys_section ◌>>=◌ ◌>>◌ test
zero_refused max m s z = rw (zero_is m s z) refl

pub none_within : (max : Max) → within 0 max ≡ true
none_within no_max = refl
none_within (at_most n) = leb_is 0 n (omega arith)

pub zero_read : (max : Max) (m : List ℕ) (s : ℕ) → Zero m s → source_read_encrypted_data_keys_section max (drop s m) s ≡ success [] (drop (s + 2) m) (s + 2)
unfolding source_read_encrypted_data_keys_section read_encrypted_data_keys_of repeat return ◌>>=◌ ◌>>◌ test
zero_read max m s z = rw (zero_is m s z, none_within max) refl

-- A READER WHOSE LIST HAS NO 38 does not answer it, so what answers it comes after it
module _ {A B : Type 0} (ks : List ℕ) (no_38 : has ks 38 ≡ false) {r : Reader A} {list : List ℕ → ℕ → List Line} {value : List ℕ → ℕ → A} {end : List ℕ → ℕ → ℕ}
    (g : Goes r list value end) (h : Listed ks r) (f : A → Reader B) (m : List ℕ) (s : ℕ) where
  passed : answer ((r >>= f) (drop s m) s) ≡ refused 38 0 → (first_line (list m s) ≡ none) × (answer (f (value m s) (drop (end m s) m) (end m s)) ≡ refused 38 0)
  unfolding ◌>>=◌
  passed e = go (first_line (list m s)) refl
    where
      go : (x : Option Line) → first_line (list m s) ≡ x → (first_line (list m s) ≡ none) × (answer (f (value m s) (drop (end m s) m) (end m s)) ≡ refused 38 0)
      go none q = (q, sym (ap (λ y. answer (go_on y f)) (g.passes m s q)) ∙ e)
      go (some x) q =
          let z : ◌≡◌ {A = Answer B} (refused x.number x.position) (refused 38 0) = sym (stopped f x.number x.position (r (drop s m) s) (g.stops m s x q)) ∙ e in
          let k : x.number ≡ 38 = cc in
          absurd (not_listed h 38 no_38 (drop s m) s x.position (g.stops m s x q ∙ ap (λ n. refused n x.position) k))

-- a key section
counted : (max : Max) (m : List ℕ) (s : ℕ) → first_line (lacks 2 m s ∷ []) ≡ none → (b : Bool) → eqb (number16 m s) 0 ≡ b
    → answer ((test 38 (not b) >> read_encrypted_data_keys_of max (number16 m s)) (drop (s + 2) m) (s + 2)) ≡ refused 38 0 → Zero m s
unfolding test ◌>>◌
counted max m s l true z q = is_zero m s l z
counted max m s l false z q = absurd (not_listed (counted_listed max (number16 m s)) 38 refl (drop (s + 2) m) (s + 2) 0 q)

of_section : (max : Max) (m : List ℕ) (s : ℕ) → answer (read_encrypted_data_keys_section max (drop s m) s) ≡ refused 38 0 → Zero m s
unfolding read_encrypted_data_keys_section
of_section max m s e = let (there, q) = passed [] refl uint16_goes uint16_listed _ m s e in counted max m s there (eqb (number16 m s) 0) refl q

-- and what has no 38 behind it
module _ {B : Type 0} (ks : List ℕ) (no_38 : has ks 38 ≡ false) (f : List EncryptedDataKeyAt → Reader B) (h : (a : List EncryptedDataKeyAt) → Listed ks (f a)) (max : Max) (m : List ℕ) (s : ℕ) where
  pub zero_there : answer ((read_encrypted_data_keys_section max >>= f) (drop s m) s) ≡ refused 38 0 → Zero m s
  unfolding ◌>>=◌
  zero_there e = go (read_encrypted_data_keys_section max (drop s m) s) refl e
    where
      go : (x : ReadResult (List EncryptedDataKeyAt)) → read_encrypted_data_keys_section max (drop s m) s ≡ x → answer (go_on x f) ≡ refused 38 0 → Zero m s
      go (success a l t) q e = absurd (not_listed (h a) 38 no_38 l t 0 e)
      go (more_needed p) q e = let z : ◌≡◌ {A = ℕ} 2 38 = cc in absurd (omega arith)
      go (error k) q e = let z : k ≡ 38 = cc in of_section max m s (ap answer q ∙ ap (λ n. refused n 0) z)

-- AS OPERATIONS: 1 does not apply, nor a line of the list
module _ (list : List ℕ → ℕ → List Line) (m : List ℕ) (s : ℕ) where
  reached : length m ≤ 4294967295 → s ≤ 4294967295 → first_line (list m s) ≡ none → NoneApplies (operation_list list m s)
  unfolding first_line
  reached fits near e = none_applies (operation_list list m s) (rw (leb_is (length m) 4294967295 fits, leb_is s 4294967295 near) e)

  reaches : NoneApplies (operation_list list m s) → (addressable m s ≡ true) × (first_line (list m s) ≡ none)
  reaches h = let (a, e) = one_none (unless 1 (addressable m s)) (list m s) (applies_none (operation_list list m s) h) in (yes (addressable m s) a, e)
    where
      yes : (b : Bool) → not b ≡ false → b ≡ true
      yes true q = refl
      yes false q = let z : ◌≡◌ {A = ℕ} 0 1 = cc in absurd (omega arith)

here : {A : Type 0} (r : Reader A) (m : List ℕ) (s : ℕ) → addressable m s ≡ true → operation r m s ≡ answer (r (drop s m) s)
here r m s e = let (fits, near) = both (leb (length m) 4294967295) (leb s 4294967295) e in operation_here r m s (is_leb _ _ fits) (is_leb _ _ near)

-- an operation that answers 38 had a message that can be addressed
module _ {A : Type 0} (r : Reader A) (m : List ℕ) (s : ℕ) (e : operation r m s ≡ refused 38 0) where
  addressed : (length m ≤ 4294967295) × (s ≤ 4294967295) × (answer (r (drop s m) s) ≡ refused 38 0)
  addressed = cases r m s far (λ fits near q. (fits, near, sym q ∙ e))
    where
      far : operation r m s ≡ refused 1 0 → (length m ≤ 4294967295) × (s ≤ 4294967295) × (answer (r (drop s m) s) ≡ refused 38 0)
      far q =
          let z : ◌≡◌ {A = Answer A} (refused 1 0) (refused 38 0) = sym q ∙ e in
          let k : ◌≡◌ {A = ℕ} 1 38 = cc in
          absurd (omega arith)

-- the key section
module _ (max : Max) (room : ℕ) (m : List ℕ) (s : ℕ) where
  into_then : operation (read_encrypted_data_keys_section_into max room) m s ≡ refused 38 0 → NoKeyAt m s
  unfolding read_encrypted_data_keys_section_into first_line
  into_then e =
      let (fits, near, q) = addressed (read_encrypted_data_keys_section_into max room) m s e in
      record { reached = reached (λ m s. []) m s fits near refl; count = zero_there (23 ∷ []) refl _ (λ ks. then_listed (test_listed 23 _) (return_listed ks)) max m s q }

  then_into : NoKeyAt m s → operation (read_encrypted_data_keys_section_into max room) m s ≡ refused 38 0
  unfolding read_encrypted_data_keys_section_into ◌>>=◌
  then_into h = here (read_encrypted_data_keys_section_into max room) m s (reaches (λ m s. []) m s h.reached).0 ∙ rw (zero_refused max m s h.count) refl

  pub no_key_at : JustWhere (operation (read_encrypted_data_keys_section_into max room) m s ≡ refused 38 0) (NoKeyAt m s)
  no_key_at = record { onward = into_then; back = then_into }

  pub no_keys : NoKeyAt m s → operation (source_read_encrypted_data_keys_section_into max room) m s ≡ accepted [] (s + 2)
  unfolding source_read_encrypted_data_keys_section_into ◌>>=◌ ◌>>◌ test return
  no_keys h =
      here (source_read_encrypted_data_keys_section_into max room) m s (reaches (λ m s. []) m s h.reached).0
      ∙ rw (zero_read max m s h.count, leb_is 0 room (omega arith)) refl

-- a body
module _ (q : Request) (m : List ℕ) (s : ℕ) where
  abbrev aad : ℕ
  aad = s + by (number8 m s) 20 35

  body_then : operation (read_body q) m s ≡ refused 38 0 → NoKeyIn q m s
  unfolding read_body after_opening after_context before_keys
  body_then e =
      let (fits, near, e₀) = addressed (read_body q) m s e in
      let (opened, e₁) = passed (opening_refusals q.which q.policy) (opening_without q.which q.policy).3 (opening_goes q.which q.policy) (opening_listed q.which q.policy) _ m s e₀ in
      let (read, e₂) = passed (section_refusals q.mode) (section_without q.mode).2 (marked_goes q.mode) (marked_listed (section_listed q.mode)) _ m aad e₁ in
      record {
        reached = reached (before_keys q) m s fits near (none_join (opening_list q.which q.policy m s) (context_list q.mode m aad) opened read);
        count = zero_there (closing_refusals either q) (closing_without either q).3 _ (after_keys_listed either q _ tt _) q.max m (entry_end m aad) e₂;
      }

  then_body : NoKeyIn q m s → operation (read_body q) m s ≡ refused 38 0
  unfolding read_body after_opening after_context before_keys ◌>>=◌
  then_body h =
      let (a, e) = reaches (before_keys q) m s h.reached in
      let (opened, read) = join_none (opening_list q.which q.policy m s) (context_list q.mode m aad) e in
      here (read_body q) m s a
      ∙ rw ((opening_goes q.which q.policy).passes m s opened, (marked_goes q.mode).passes m aad read, zero_refused q.max m (entry_end m aad) h.count) refl

  pub no_key_in : JustWhere (operation (read_body q) m s ≡ refused 38 0) (NoKeyIn q m s)
  no_key_in = record { onward = body_then; back = then_body }

-- what the source's reading of a body does there: it reads the same up to the keys, no key, and goes on
keys_given : (q : Request) (o : Opening) (x : ContextAt) (ks : List EncryptedDataKeyAt) → Gives (λ (b : HeaderBody). b.keys ≡ ks) (after_keys q o x ks)
unfolding after_keys
keys_given q o x ks = bind_gives _ (λ c. passed_gives 20 _ (λ e. passed_gives 22 _ (λ e. passed_gives 23 _ (λ e. return_gives _ refl))))

module _ {A : Type 0} {r r' : Reader A} (h : BothRead r r') (l : List ℕ) (s : ℕ) (hb : Bytes l) (a : A) (l' : List ℕ) (t : ℕ) (e : r l s ≡ success a l' t) where
  read_alike : r' l s ≡ success a l' t
  read_alike = go (h.alike l s hb)
    where
      go : Alike (r l s) (r' l s) → r' l s ≡ success a l' t
      go (inl q) = sym q ∙ e
      go (inr (q, p)) = error_is_no_success (sym q ∙ e)

pub no_keys_in : (q : Request) (m : List ℕ) (s : ℕ) → Bytes m → NoKeyIn q m s → (b : HeaderBody) (t : ℕ) → operation (source_read_body q) m s ≡ accepted b t → b.keys ≡ []
unfolding source_read_body source_after_opening source_after_context before_keys ◌>>=◌
no_keys_in q m s hb h b t e =
    let u = s + by (number8 m s) 20 35 in
    let (a, none_before) = reaches (before_keys q) m s h.reached in
    let (opened, read) = join_none (opening_list q.which q.policy m s) (context_list q.mode m u) none_before in
    let ours = (marked_goes q.mode).passes m u read in
    let theirs = read_alike (marked_both (section_both q.mode)) (drop u m) u (bytes_drop u m hb) _ _ _ ours in
    let (l, is) = accepted_inside (source_read_body q) m s b t e in
    (keys_given q _ _ []).given (drop (entry_end m u + 2) m) (entry_end m u + 2) b l t
    (rw ((opening_goes q.which q.policy).passes m s opened, theirs, zero_read q.max m (entry_end m u) h.count) at is)
