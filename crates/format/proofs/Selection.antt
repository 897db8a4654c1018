-- The operation writes what is selected of a section's pairs, which have keys that differ. Assumes nothing.
use mathlib.Core.Path.{◌≡◌, refl, sym, ap, ◌∙◌}
use mathlib.Core.Bool.{Bool, true, false}
use mathlib.Core.List.{List, [], ◌∷◌, map}
use Prim.Native.Nat.{ℕ, ◌+◌, ◌/◌, ◌%◌, ◌≤◌, ◌<◌}
use native.Mathlib.Omega.{arith}
use lib.Dec.{leb, eqb}
use lib.ListN.{length, length-append}
use Rattle.format.specs.Read.{Reader, ◌>>◌, return, test, Answer, accepted, refused, answer, operation}
use Rattle.format.specs.Serialize.{Bytes, every, sum}
use Rattle.format.specs.Fields.{Form, today, old, Pair, PairAt, pair_of}
use Rattle.format.specs.Context.{seen, linear_length, pairs_limit, write_aad_pair, write_empty_ec_or_write_aad, write_expanded_aad_section, write_aad_section, section_in, tolerant, read_aad_section}
use Rattle.format.specs.Lent.{part_in, parts_in, places, in_text, table_checks}
use Rattle.format.specs.OnlyAuthenticated.{context_to_only_authenticate, only_authenticated, in_twos, fitting, write_only_authenticated}
use Rattle.format.specs.Demand3.{Differ}
use Rattle.format.specs.Pinned.{InText}
use Rattle.format.specs.Selection.{Selects, KeysDiffer, OnlyAuthenticatedLaw, Selection}
use Rattle.format.proofs.Tests.{fails, leb_is, is_leb}
use Rattle.format.proofs.Exact.{map_puts}
use Rattle.format.proofs.Serialize.{length_uint16}
use Rattle.format.proofs.Context.{pair_at, length_aad, room_all, Context, context_bytes}
use Rattle.format.proofs.Section.{section_exact}
use Rattle.format.proofs.Firsts.{holds, unheld, both, and}
use Rattle.format.proofs.Messages.{refused_is_no_accepted, accepted_took, refused_stays, accepted_goes_on}
use Rattle.format.proofs.Tables.{items_length, which_keys, tables}
use Rattle.format.proofs.Find.{seen_has, one}
use Rattle.format.proofs.KeyOrder.{key_order}
use Rattle.format.proofs.SelectionLaws.{each_once, selects, fixed, named, absent, bytes, no_bytes, written_length}

-- Refusal 12 at each pair has left keys that differ
differ : (ps : List PairAt) → Differ ps → KeysDiffer (map pair_of ps)
differ [] d = tt
differ (p ∷ ps) (n, d) = (fails (seen p.key.bytes (map pair_of ps)) (λ e. n (seen_has p.key.bytes ps e)), differ ps d)

-- 31 speaks of each place of the table, as 26 does
module _ (text required : List ℕ) where
  in_text_then : InText 2 text required → in_twos text required ≡ true
  unfolding table_checks
  in_text_then t = let (a, (b, u)) = holds (table_checks 2 text required) ((tables 2 text required).back t) in and a b

  then_in_text : in_twos text required ≡ true → InText 2 text required
  unfolding table_checks
  then_in_text e = let z = both (eqb (length required % 2) 0) (every (in_text text required) (places required)) e in (tables 2 text required).onward (unheld (table_checks 2 text required) (z.0, (z.1, tt)))

-- a section is as long as the count and the pairs, or longer
as_long : (form : Form) (ps : List Pair) → 2 + linear_length ps ≤ length (section_in form ps)
unfolding write_aad_section write_expanded_aad_section sum
as_long today [] = rw length_uint16 (omega arith)
as_long today (p ∷ ps) = rw (length-append, length_aad) (omega arith)
as_long old ps = rw (length-append, length_aad) (omega arith)

-- the tests behind the section
passed : (b c : Bool) (x l : List ℕ) (u : ℕ) (y : List ℕ) (t : ℕ) → answer ((test 31 b >> (test 28 c >> return x)) l u) ≡ accepted y t → (b ≡ true) × (c ≡ true) × (y ≡ x) × (u ≡ t)
unfolding test ◌>>◌ return
passed true true x l u y t e = (refl, refl, cc, cc)
passed true false x l u y t e = refused_is_no_accepted e
passed false c x l u y t e = refused_is_no_accepted e

-- so the operation writes what is selected, where all of them pass, and nothing where one does not
module _ (text required : List ℕ) (room : ℕ) (m : List ℕ) (s : ℕ) (hb : Bytes m) where
  abbrev rest : List PairAt → Reader (List ℕ)
  rest ps = test 31 (in_twos text required) >> fitting room (only_authenticated text required ps)

  selected : (ps : List PairAt) (t : ℕ) → operation (read_aad_section tolerant) m s ≡ accepted ps t
      → Selects (parts_in text required) (map pair_of ps) (context_to_only_authenticate (parts_in text required) (map pair_of ps))
  selected ps t e = selects (parts_in text required) (map pair_of ps) (differ ps (one m s hb ps t e))

  abbrev Written : List ℕ → ℕ → Type 0
  Written image t =
      (ps : List PairAt) × (operation (read_aad_section tolerant) m s ≡ accepted ps t) × InText 2 text required
      × (chosen : List Pair) × Selects (parts_in text required) (map pair_of ps) chosen × (image ≡ write_empty_ec_or_write_aad chosen) × (length image ≤ room)

  only_then : (image : List ℕ) (t : ℕ) → operation (write_only_authenticated text required room) m s ≡ accepted image t
      → (a : Answer (List PairAt)) → operation (read_aad_section tolerant) m s ≡ a → Written image t
  unfolding write_only_authenticated fitting
  only_then image t e (accepted ps u) q =
      let (l, z) = accepted_goes_on (read_aad_section tolerant) rest m s ps u q in
      let (b, c, is, ends) = passed (in_twos text required) (leb (length (only_authenticated text required ps)) room) (only_authenticated text required ps) l u image t (sym z ∙ e) in
      (ps, q ∙ ap (accepted ps) ends, then_in_text text required b, context_to_only_authenticate (parts_in text required) (map pair_of ps), selected ps u q, is, rw is (is_leb _ _ c))
  only_then image t e (refused k p) q = refused_is_no_accepted (sym (refused_stays (read_aad_section tolerant) rest m s k p q) ∙ e)

  -- what the section's pairs take
  taken : (ps : List PairAt) (t : ℕ) → operation (read_aad_section tolerant) m s ≡ accepted ps t
      → (2 + linear_length (map pair_of ps) ≤ 65535) × (s + (2 + linear_length (map pair_of ps)) ≤ t)
  unfolding sum
  taken ps t e =
      let (l, x) = accepted_took (section_exact tolerant) m s hb ps t e in
      let c : Context = x.value in
      let same : map pair_of ps ≡ c.pairs = ap (map pair_of) x.placed ∙ map_puts write_aad_pair pair_at pair_of (λ s p. refl) _ c.pairs in
      let a : linear_length [] + linear_length c.pairs < pairs_limit = room_all [] c.pairs (omega arith) x.good.each in
      let b = as_long c.form c.pairs in
      let d : t ≡ s + length (context_bytes c) = x.tail in
      rw same (omega arith, omega arith)

  bounded : (image : List ℕ) (t : ℕ) → Written image t → (length image ≤ 65535) × (s + length image ≤ t)
  bounded image t (ps, e, table, chosen, c, is, fits) =
      let same = fixed (parts_in text required) (map pair_of ps) chosen _ c (selected ps t e) in
      let a : length image ≤ 2 + linear_length (map pair_of ps) = rw (is, same) (written_length (parts_in text required) (map pair_of ps)) in
      let (b, d) = taken ps t e in
      (omega arith, omega arith)

  operation_law : OnlyAuthenticatedLaw text required room m s
  unfolding write_only_authenticated fitting test ◌>>◌ return
  operation_law =
      record {
        refuses = refused_stays (read_aad_section tolerant) rest m s;
        writes = λ ps t e table chosen c h.
            let z = accepted_goes_on (read_aad_section tolerant) rest m s ps t e in
            let same = fixed (parts_in text required) (map pair_of ps) chosen _ c (selected ps t e) in
            z.1 ∙ rw (in_text_then text required table, ← same, leb_is _ _ h) refl;
        only_then = λ image t e. only_then image t e (operation (read_aad_section tolerant) m s) refl;
        bounded = λ image t e. bounded image t (only_then image t e (operation (read_aad_section tolerant) m s) refl);
      }

pub selection : Selection
selection =
    record {
      order = key_order;
      each_once = each_once;
      fixed = fixed;
      selects = selects;
      named = named;
      absent = absent;
      how_many_keys = λ text table. items_length (part_in text table) 2 (length table / 2) 0;
      which_keys = which_keys;
      in_twos_is = λ text required. record { then_holds = then_in_text text required; holds_then = in_text_then text required };
      bytes = bytes;
      no_bytes = no_bytes;
      keys_differ = λ m s hb ps t e. differ ps (one m s hb ps t e);
      operation_law = operation_law;
    }
