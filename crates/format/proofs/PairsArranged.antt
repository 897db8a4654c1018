-- Pairs joined and pairs rearranged: entry bytes, section lengths, and what is only authenticated. Assumes nothing.
use mathlib.Core.Path.{◌≡◌, refl, sym, ap, ap₂, ◌∙◌}
use mathlib.Core.Bool.{Bool, true, false, cond}
use mathlib.Core.List.Permᴰ
use mathlib.Core.List.{List, [], ◌∷◌, ◌++◌, append_assoc, map, Memᴰ, Pairwise}
use Prim.Native.Nat.{ℕ, zero, suc, ◌+◌, ◌≤◌}
use native.Mathlib.Omega.{arith}
use lib.Dec.{leb}
use lib.ListN.{length, take, drop, length-append}
use Rattle.format.specs.Read.{◌>>◌, return, test, Answer, accepted, refused, answer}
use Rattle.format.specs.Serialize.{write_uint16, images}
use Rattle.format.specs.Fields.{Form, today, old, Pair, pair_of, Fields, with_pairs}
use Rattle.format.specs.Context.{seen, pair_length, linear_length, write_aad_pairs, write_aad, write_empty_ec_or_write_aad, write_expanded_aad_section, write_aad_section, section_in, tolerant, read_aad_section}
use Rattle.format.specs.Keys.{write_encrypted_data_keys_section}
use Rattle.format.specs.Body.{image}
use Rattle.format.specs.Checks.{pairs_checks, Accepts}
use Rattle.format.specs.OnlyAuthenticated.{context_to_only_authenticate, only_authenticated, in_twos, fitting, write_only_authenticated}
use Rattle.format.specs.Selection.{Selects, KeysDiffer}
use Rattle.format.specs.Arrangement.{Rearranged, Accepted, Joined, SameKeys, SameSection, SameDraft, Asked, Reads, asks, Alike, SameAnswer}
use Rattle.format.proofs.Tests.{never, fails}
use Rattle.format.proofs.Serialize.{sum_append}
use Rattle.format.proofs.Context.{length_pairs}
use Rattle.format.proofs.Ends.{top_bytes, end_bytes, v1_of}
use Rattle.format.proofs.Body.{top_of, end_of}
use Rattle.format.proofs.Firsts.{holds, unheld}
use Rattle.format.proofs.Accepts.{pairs_then, then_pairs, good as good_fields, accepts}
use Rattle.format.proofs.Messages.{accepted_goes_on, refused_is_no_accepted}
use Rattle.format.proofs.Find.{seen_member}
use Rattle.format.proofs.Pinned.{pairs_join}
use Rattle.format.proofs.SelectionLaws.{selects, fixed}
use Rattle.format.proofs.Selection.{selection}
use Rattle.format.proofs.Rearranged.{same_length, same_sum, member}
use Rattle.format.proofs.AcceptedPairs.{OtherKey, good, accepted_if, both_good, rearranged_good}

-- IN A SECTION: its length and its count, which go by how many pairs there are and what they take, and then the entries
abbrev front_of : Form → ℕ → ℕ → List ℕ
front_of today zero n = write_uint16 0
front_of today (suc k) n = write_uint16 (2 + n) ++ write_uint16 (suc k)
front_of old k n = write_uint16 (2 + n) ++ write_uint16 k

abbrev front : Form → List Pair → List ℕ
front form ps = front_of form (length ps) (linear_length ps)

in_parts : (form : Form) (ps : List Pair) → section_in form ps ≡ front form ps ++ write_aad_pairs ps
unfolding write_aad_section write_expanded_aad_section write_aad write_aad_pairs write_uint16 images
in_parts today [] = refl
in_parts today (p ∷ ps) = refl
in_parts old ps = refl

long : (form : Form) (ps : List Pair) → length (section_in form ps) ≡ length (front form ps) + linear_length ps
long form ps = ap length (in_parts form ps) ∙ length-append (front form ps) (write_aad_pairs ps) ∙ ap (λ n. length (front form ps) + n) (length_pairs ps)

entries : (ps : List Pair) → drop 4 (write_aad_section ps) ≡ write_aad_pairs ps
unfolding write_aad_section write_expanded_aad_section write_aad write_aad_pairs write_uint16 images
entries [] = refl
entries (p ∷ ps) = refl

opening : (ps : List Pair) → take 4 (write_aad_section ps) ≡ front today ps
unfolding write_aad_section write_expanded_aad_section write_aad write_uint16
opening [] = refl
opening (p ∷ ps) = refl

-- JOINED
no_longer : (a b k n : ℕ) → a ≤ k → length (front_of today a b) ≤ length (front_of today k n)
unfolding write_uint16
no_longer zero b zero n h = omega arith
no_longer zero b (suc k) n h = omega arith
no_longer (suc a) b zero n h = omega arith
no_longer (suc a) b (suc k) n h = omega arith

not_longer : (ps qs : List Pair) → length ps ≤ length qs → linear_length ps ≤ linear_length qs → length (write_aad_section ps) ≤ length (write_aad_section qs)
not_longer ps qs few less =
    let a = long today ps in
    let b = long today qs in
    let c = no_longer (length ps) (linear_length ps) (length qs) (linear_length qs) few in
    omega arith

pub joined : (ps qs : List Pair) → Accepted (ps ++ qs) → Joined ps qs
joined ps qs a =
    let g = both_good ps qs (good (ps ++ qs) a) in
    let count = length-append ps qs in
    let taken = sum_append pair_length ps qs in
    record {
      entry_bytes = pairs_join ps qs;
      in_sections = entries (ps ++ qs) ∙ pairs_join ps qs ∙ sym (ap₂ (λ a b. a ++ b) (entries ps) (entries qs));
      first_accepted = accepted_if ps g.0;
      second_accepted = accepted_if qs g.1;
      first_not_longer = not_longer ps (ps ++ qs) (omega arith) (omega arith);
      second_not_longer = not_longer qs (ps ++ qs) (omega arith) (omega arith);
    }

-- REARRANGED
module _ {ps qs : List Pair} (h : Rearranged ps qs) where
  same_count : {B : Type 0} (f : ℕ → ℕ → B) → f (length qs) (linear_length qs) ≡ f (length ps) (linear_length ps)
  same_count f = rw (same_length h, same_sum pair_length h) refl

  in_form : (form : Form) → length (section_in form qs) ≡ length (section_in form ps)
  in_form form = long form qs ∙ same_count (λ k n. length (front_of form k n) + n) ∙ sym (long form ps)

-- what is selected of keys that differ
differ : {ps : List Pair} → Pairwise OtherKey ps → KeysDiffer ps
differ {ps = []} Pairwise.nil = tt
differ {ps = p ∷ ps} (Pairwise.cons h d) = (fails (seen p.key ps) (λ e. let (q, m, is) = seen_member p.key ps e in h q ∣ m ∣₁ is), differ d)

selected : {keys others : List (List ℕ)} {ps qs : List Pair} → SameKeys keys others → Rearranged ps qs → KeysDiffer ps → KeysDiffer qs
    → context_to_only_authenticate others qs ≡ context_to_only_authenticate keys ps
selected {keys} {others} {ps} {qs} k h d e =
    let s = selects others qs e in
    let chosen = context_to_only_authenticate others qs in
    let here : Selects keys ps chosen =
    record {
      only = λ p m. let (i, j) = s.only p m in (member (Permᴰ.symm h) i, k.back p.key j);
      all = λ p m j. s.all p (member h m) (k.onward p.key j);
      ascends = s.ascends;
    } in
    fixed keys ps chosen (context_to_only_authenticate keys ps) here (selects keys ps d)

pub rearranged : (ps qs : List Pair) → Rearranged ps qs → Accepted ps → SameSection ps qs
rearranged ps qs h a =
    let g = good ps a in
    let j = rearranged_good h g in
    record {
      still_accepted = accepted_if qs j;
      section_length = in_form h today;
      in_front = opening qs ∙ same_count h (front_of today) ∙ sym (opening ps);
      only_authenticated = λ keys others k. ap write_empty_ec_or_write_aad (selected k h (differ g.differ) (differ j.differ));
    }

-- IN A DRAFT. What stands around a section, and around its entries
abbrev ahead : Form → Fields → List ℕ
ahead form f = top_bytes (top_of f) ++ front form f.pairs

abbrev behind : Fields → List ℕ
behind f = write_encrypted_data_keys_section f.keys ++ end_bytes (v1_of (top_of f)) (end_of f)

around : (form : Form) (f : Fields) → image form f ≡ ahead form f ++ (write_aad_pairs f.pairs ++ behind f)
unfolding image
around form f =
    ap (λ l. top_bytes (top_of f) ++ (l ++ behind f)) (in_parts form f.pairs)
    ∙ ap (λ l. top_bytes (top_of f) ++ l) (append_assoc (front form f.pairs) (write_aad_pairs f.pairs) (behind f))
    ∙ sym (append_assoc (top_bytes (top_of f)) (front form f.pairs) (write_aad_pairs f.pairs ++ behind f))

as_long : (a b c d : List ℕ) → length b ≡ length c → length (a ++ (b ++ d)) ≡ length (a ++ (c ++ d))
as_long a b c d e =
    let x = length-append a (b ++ d) in
    let y = length-append a (c ++ d) in
    let z = length-append b d in
    let w = length-append c d in
    omega arith

pub in_a_draft : (form : Form) (f : Fields) (qs : List Pair) → Rearranged f.pairs qs → Accepts form f → SameDraft form f qs
in_a_draft form f qs h a =
    let g = good_fields form f a in
    let ps = f.pairs in
    let before : Accepted ps = unheld (pairs_checks ps) (then_pairs ps g.few_pairs g.pairs) in
    let (few, each) = pairs_then qs (holds (pairs_checks qs) (rearranged ps qs h before).still_accepted) in
    let same : ahead form (with_pairs qs f) ≡ ahead form f = ap (λ l. top_bytes (top_of f) ++ l) (same_count h (front_of form)) in
    let there : image form (with_pairs qs f) ≡ ahead form f ++ (write_aad_pairs qs ++ behind f) = around form (with_pairs qs f) ∙ ap (λ l. l ++ (write_aad_pairs qs ++ behind f)) same in
    let pairs : length (write_aad_pairs qs) ≡ length (write_aad_pairs ps) = length_pairs qs ∙ sym (same_sum pair_length h) ∙ sym (length_pairs ps) in
    record {
      still_accepted = accepts form (with_pairs qs f)
          (record { top = g.top; few_pairs = few; pairs = each; t33 = rw (← same_length h) g.t33; keys = g.keys; end = g.end; t20 = g.t20 });
      as_long = ap length there ∙ as_long (ahead form f) (write_aad_pairs qs) (write_aad_pairs ps) (behind f) pairs ∙ sym (ap length (around form f));
      front = ahead form f;
      back = behind f;
      before = around form f;
      afterwards = there;
    }

-- OF SECTIONS. The operation answers by what is selected and by whether it fits
abbrev by_room : Bool → List ℕ → ℕ → Answer (List ℕ)
by_room fits bytes t = cond fits (accepted bytes t) (refused 28 0)

abbrev written : Asked → List ℕ
written a = only_authenticated a.text a.required a.pairs

abbrev fits : Asked → ℕ → Bool
fits a room = leb (length (written a)) room

behind_31 : (b c : Bool) (x l : List ℕ) (u : ℕ) → b ≡ true → answer ((test 31 b >> (test 28 c >> return x)) l u) ≡ by_room c x u
unfolding test ◌>>◌ return
behind_31 true true x l u e = refl
behind_31 true false x l u e = refl
behind_31 false c x l u e = never e refl

module _ (a : Asked) (r : Reads a) where
  answers : (room : ℕ) → asks a room ≡ by_room (fits a room) (written a) a.tail
  unfolding write_only_authenticated fitting
  answers room =
      let (l, said) = accepted_goes_on (read_aad_section tolerant) _ a.message a.start a.pairs a.tail r.read in
      said ∙ behind_31 (in_twos a.text a.required) (fits a room) (written a) l a.tail ((selection.in_twos_is a.text a.required).holds_then r.in_text)

  section_differs : KeysDiffer (map pair_of a.pairs)
  section_differs = selection.keys_differ a.message a.start r.bytes a.pairs a.tail r.read

-- and so alike but for the tail
like : (fits : Bool) (bytes : List ℕ) (t u : ℕ) → ((image : List ℕ) (v : ℕ) → by_room fits bytes t ≡ accepted image v → by_room fits bytes u ≡ accepted image u)
    × ((k p : ℕ) → by_room fits bytes t ≡ refused k p → by_room fits bytes u ≡ refused k p)
like true bytes t u = (λ image v e. cc, λ k p e. refused_is_no_accepted (sym e))
like false bytes t u = (λ image v e. refused_is_no_accepted e, λ k p e. e)

pub of_sections : (a b : Asked) → Reads a → Reads b → Alike a b → (room : ℕ) → SameAnswer a b room
of_sections a b r s alike room =
    let same : written b ≡ written a = ap write_empty_ec_or_write_aad (selected alike.keys alike.pairs (section_differs a r) (section_differs b s)) in
    let there : asks b room ≡ by_room (fits a room) (written a) b.tail = answers b s room ∙ ap (λ bytes. by_room (leb (length bytes) room) bytes b.tail) same in
    let (w, n) = like (fits a room) (written a) a.tail b.tail in
    record {
      writes = λ bytes t e. there ∙ w bytes t (sym (answers a r room) ∙ e);
      refuses = λ k p e. there ∙ n k p (sym (answers a r room) ∙ e);
    }

-- THE REQUIRED KEYS
pub keys_rearranged : (keys others : List (List ℕ)) → Rearranged keys others → SameKeys keys others
keys_rearranged keys others h = record { onward = λ k m. member h m; back = λ k m. member (Permᴰ.symm h) m }

pub key_repeated : (k : List ℕ) (keys : List (List ℕ)) → Memᴰ k keys → SameKeys keys (k ∷ keys)
key_repeated k keys m = record { onward = λ j i. Memᴰ.tail i; back = again }
  where
    again : (j : List ℕ) → Memᴰ j (k ∷ keys) → Memᴰ j keys
    again j (Memᴰ.head e) = rw e m
    again j (Memᴰ.tail i) = i
