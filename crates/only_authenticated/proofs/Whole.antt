-- The ways out of the operation, one law each. Assumes nothing.
use Prim.Native.Nat.{ℕ, zero, suc, ◌+◌, ◌%◌, ◌≤◌}
use native.Mathlib.Omega.{arith}
use mathlib.Core.Path.{◌≡◌, refl, sym, ap, ◌∙◌}
use mathlib.Core.Bool.{Bool, true, false, cond}
use mathlib.Core.List.{List, [], map}
use lib.Dec.{leb, eqb}
use lib.ListN.{length}
use borrow.Author.Tests.{eq-eqb, ne_eqb}
use Rattle.format.specs.Read.{accepted, refused, at}
use Rattle.format.specs.Serialize.{every}
use Rattle.format.specs.Fields.{PairAt, pair_of}
use Rattle.format.specs.Context.{tolerant, read_aad_section, write_empty_ec_or_write_aad}
use Rattle.format.specs.Lent.{parts_in, places, in_text}
use Rattle.format.specs.Places.{number16, pair_here, pair_end, pairs_here}
use Rattle.format.specs.OnlyAuthenticated.{context_to_only_authenticate, only_authenticated, in_twos, fitting, write_only_authenticated}
use Rattle.format.proofs.Lines.{goes_accepted}
use Rattle.format.proofs.First.{context_goes}
use Rattle.steps.proofs.Steps.{go, stop, pass, fail, gives}
use Rattle.wire.specs.Codes.{because}
use Rattle.wire.specs.declared.refusals.Refusal.{Refusal}
use Rattle.wire.specs.declared.SuccessfulRead.{SuccessfulRead}
use Rattle.request.specs.declared.Mode.TheVariants.{Tolerant}
use Rattle.entries.specs.Codes.{Reads}
use Rattle.entries.proofs.Items.{reach, here_length}
use Rattle.entries.proofs.Sections.{Holds, counted_no}
use Rattle.entries.proofs.Tables.{refuses, accepts}
use Rattle.entries.specs.Codes.{counted}
use Rattle.index.specs.Index.{Sorts}
use Rattle.pair_index.specs.Index.{first_pairs, pair_from}
use Rattle.pair_index.specs.declared.PairIndex.{PairIndex}
use Rattle.context.proofs.Known.{forward, section_tidy, section_known}
use Rattle.context.proofs.Whole.{Had, had}
use Rattle.checks.specs.Answers.{written_as, whole}
use Rattle.std.specs.Prelude.{Result, Ok, Err}
use Rattle.only_authenticated.specs.Codes.{Puts, Claims, Enough}
use Rattle.only_authenticated.specs.Marks.{marked, MarksAll}
use Rattle.only_authenticated.proofs.MarkLaws.{marked_selects}

-- the marked pairs are those of the definition
pub selected : (x : PairIndex) (keys : List (List ℕ)) (marks : List Bool) → MarksAll x keys marks → Sorts (pair_from x.m.now x.first) (first_pairs x.m.now x.first x.n) x.n x.keys.now → (out after : List ℕ) (r : Result ℕ Refusal) → Puts (write_empty_ec_or_write_aad (marked x marks x.n 0)) out after r
    → Puts (write_empty_ec_or_write_aad (context_to_only_authenticate keys (first_pairs x.m.now x.first x.n))) out after r
selected x keys marks all sorts out after r h = rw (marked_selects x keys marks all sorts) at h

module _ (text required m : List ℕ) (start : ℕ) (out : List ℕ) (a : Result (SuccessfulRead ℕ) Refusal) (aIs : a ≡ counted (at (read_aad_section tolerant) m start)) where
  abbrev Answers : List ℕ → Result ℕ Refusal → Type 0
  Answers = Reads written_as whole (at (write_only_authenticated text required (length out)) m start) out

  pub section_refused : (q : Refusal) → a ≡ Err q → Answers out (Err q)
  unfolding write_only_authenticated
  section_refused q b = refuses _ _ _ _ _ _ _ (stop _ (section_tidy tolerant) m start _ _ (counted_no (at (read_aad_section tolerant) m start) a aIs q b)) refl

  module _ (pairs : SuccessfulRead ℕ) (b : a ≡ Ok pairs) where
    read : Had Tolerant m start pairs
    read = had Tolerant m start a aIs pairs b

    image_is : only_authenticated text required read.items ≡ write_empty_ec_or_write_aad (context_to_only_authenticate (parts_in text required) (first_pairs m (start + 4) pairs.value))
    image_is = ap (λ (ps : List PairAt). write_empty_ec_or_write_aad (context_to_only_authenticate (parts_in text required) (map pair_of ps))) read.are

    stops : in_twos text required ≡ false → at (write_only_authenticated text required (length out)) m start ≡ refused 31 0
    unfolding write_only_authenticated
    stops e = go _ (section_tidy tolerant) m start read.items pairs.tail read.is ∙ fail 31 _ _ m pairs.tail e

    goes_on : in_twos text required ≡ true → at (write_only_authenticated text required (length out)) m start ≡ at (fitting (length out) (only_authenticated text required read.items)) m pairs.tail
    unfolding write_only_authenticated
    goes_on e = go _ (section_tidy tolerant) m start read.items pairs.tail read.is ∙ pass 31 _ _ m pairs.tail e

    module _ (q : Refusal) (is : q ≡ because 31 0) where
      refused_31 : in_twos text required ≡ false → Answers out (Err q)
      refused_31 e = refuses written_as whole _ out (Err q) 31 0 (stops e) (ap Err is)

      pub odd_table : (length required % 2 ≡ 0 → ⊥) → Answers out (Err q)
      odd_table h = refused_31 (rw (ne_eqb _ _ h) refl)

      pub place_outside : length required % 2 ≡ 0 → (c : Bool) → c ≡ every (in_text text required) (places required) → c ≡ false → Answers out (Err q)
      place_outside h c is e = refused_31 (rw (eq-eqb _ _ h) (sym is ∙ e))

    module _ (h : length required % 2 ≡ 0) (c : Bool) (cIs : c ≡ every (in_text text required) (places required)) where
      twos : in_twos text required ≡ c
      twos = rw (eq-eqb _ _ h) (sym cIs)

      pub pairs_put : c ≡ true → (r : Result ℕ Refusal) (after : List ℕ) → Puts (write_empty_ec_or_write_aad (context_to_only_authenticate (parts_in text required) (first_pairs m (start + 4) pairs.value))) out after r → Answers after r
      unfolding fitting
      pairs_put e r after puts = by (leb (length image) (length out)) refl
        where
          image : List ℕ
          image = only_authenticated text required read.items

          given : Puts image out after r
          given = rw image_is puts

          by : (b : Bool) → leb (length image) (length out) ≡ b → Answers after r
          by true q =
              accepts written_as whole _ out r image pairs.tail (goes_on (twos ∙ e) ∙ pass 28 _ _ m pairs.tail q ∙ gives image m pairs.tail) (given.answer ∙ rw q refl) after (given.output ∙ rw q refl)
          by false q =
              let kept : after ≡ out = given.output ∙ rw q refl in
              rw kept (refuses written_as whole _ out r 28 0 (goes_on (twos ∙ e) ∙ fail 28 _ _ m pairs.tail q) (given.answer ∙ rw q refl))

pub all_inside : (text required : List ℕ) (c : Bool) → c ≡ every (in_text text required) (places required) → c ≡ true → every (in_text text required) (places required) ≡ true
all_inside text required c is e = sym is ∙ e

-- room for the pairs of the section
pub enough_few : (m : List ℕ) (start c : ℕ) → Claims m start c → c ≤ 32 → Enough m start 32
enough_few m start c claims h = record { roomy = λ ps t e k. by ps t e (eqb (number16 m start) 0) (goes_accepted (context_goes tolerant) m start ps t e) }
  where
    by : (ps : List PairAt) (t : ℕ) → at (read_aad_section tolerant) m start ≡ accepted ps t → (b : Bool) → ps ≡ cond b [] (pairs_here m (number16 m (start + 2)) (start + 2 + 2)) → length ps ≤ 32
    by ps t e true q = rw q (omega arith)
    by ps t e false q =
        let n = number16 m (start + 2) in
        let l : length ps ≡ n = ap length q ∙ here_length pair_here pair_end m n (start + 2 + 2) in
        let known = section_known tolerant m start ps t e in
        few (length ps) refl l known
      where
        few : (j : ℕ) → length ps ≡ j → length ps ≡ number16 m (start + 2) → Holds pair_here pair_end m (start + 4) ps t → length ps ≤ 32
        few zero z l known = omega arith
        few (suc j) z l known =
            let y = known.inside (omega arith) in
            let g = reach pair_end m (forward m) (length ps) (start + 4) in
            omega (arith, claims.count (omega arith))
