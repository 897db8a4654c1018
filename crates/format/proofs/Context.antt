-- The source's reading of a context section is exact: what is written is read, in either form, and nothing else (ours: proofs/Section). Assumes nothing.
use mathlib.Core.Path.{◌≡◌, refl, sym, ap, ◌∙◌}
use mathlib.Core.Bool.{Bool, true, false, not, ◌&&◌, ◌||◌}
use mathlib.Core.List.{List, [], ◌∷◌, ◌++◌, append-nil, map, map-append}
use Prim.Native.Nat.{ℕ, ◌+◌, ◌<◌}
use native.Mathlib.Omega.{arith}
use native.Mathlib.Nat.{add_assoc}
use lib.Dec.{ltb, eqb}
use lib.ListN.{length, length-append}
use Rattle.format.specs.Read.{Reader, ◌>>=◌, no_end}
use Rattle.format.specs.Serialize.{read_uint16, write_uint16, write_short_length_seq, images, sum}
use Rattle.format.specs.Utf8.{valid_utf8_seq}
use Rattle.format.specs.Fields.{Form, today, old, Pair, PairAt, pair_of}
use Rattle.format.specs.Context.{seen, pair_length, linear_length, pairs_limit, write_aad_pair, write_aad_pairs, write_aad, write_expanded_aad_section, write_aad_section, section_in, Mode, tolerant, strict, is_strict, read_text, read_aad_pair, read_aad_by}
use Rattle.format.specs.Source.{source_read_next_aad_pair, source_read_aad_of}
use Rattle.format.specs.Sections.{Allowed}
use Rattle.format.proofs.Tests.{is_leb, is_eqb, neqb_is}
use Rattle.format.proofs.Exact.{Exact, seq_exact, seq_exact_if, check_exact, give_exact, revalue, enclosed_exact, many_exact, Oks, puts}
use Rattle.format.proofs.Serialize.{uint16_exact, length_uint16, length_entry, entry_exact, entry_at, Short}

-- a text
abbrev pub TextOk : List ℕ → Type 0
TextOk bytes = Short bytes × (valid_utf8_seq bytes ≡ true)

pub text_exact : (k : ℕ) → Exact (read_text no_end k) TextOk write_short_length_seq entry_at
unfolding read_text
text_exact k =
    revalue TextOk write_short_length_seq entry_at
    (seq_exact _ entry_exact λ s e. check_exact k _ (give_exact _))
    (λ w o. (w.0, (o.0, o.1.0), append-nil _, λ s. refl))
    (λ bytes o. ((bytes, tt), (o.0, (o.1, tt)), sym (append-nil _), λ s. refl))

-- a pair
pub record PairOk (p : Pair) : Type 0 where
  pub key : TextOk p.key
  pub value : TextOk p.value

abbrev pub pair_at : ℕ → Pair → PairAt
pair_at s p = record { key = entry_at s p.key; value = entry_at (s + length (write_short_length_seq p.key)) p.value }

pair_exact : Exact (read_aad_pair no_end) PairOk write_aad_pair pair_at
unfolding read_aad_pair write_aad_pair
pair_exact =
    revalue PairOk write_aad_pair pair_at
    (seq_exact _ (text_exact 10) λ s k. seq_exact _ (text_exact 11) λ t v. give_exact _)
    (λ w o. (record { key = w.0; value = w.1.0 }, record { key = o.0; value = o.1.0 }, simp append-nil, λ s. refl))
    (λ p o. ((p.key, (p.value, tt)), (o.key, (o.value, tt)), simp append-nil, λ s. refl))

-- a pair behind the pairs acc
pub record NextOk (acc : List Pair) (p : Pair) : Type 0 where
  pub pair : PairOk p
  pub new : not (seen p.key acc) ≡ true
  pub room : ltb (linear_length acc + pair_length p) pairs_limit ≡ true

next_exact : (acc : List PairAt) → Exact (source_read_next_aad_pair acc) (NextOk (map pair_of acc)) write_aad_pair pair_at
unfolding source_read_next_aad_pair
next_exact acc =
    revalue (NextOk (map pair_of acc)) write_aad_pair pair_at
    (seq_exact _ pair_exact λ s p. check_exact 12 _ (check_exact 13 _ (give_exact _)))
    (λ w o. (w.0, record { pair = o.0; new = o.1.0; room = o.1.1.0 }, append-nil _, λ s. refl))
    (λ p o. ((p, tt), (o.pair, (o.new, (o.room, tt))), sym (append-nil _), λ s. refl))

-- how long pairs are
pub length_pair : (p : Pair) → length (write_aad_pair p) ≡ pair_length p
unfolding write_aad_pair
length_pair p = rw (length-append (write_short_length_seq p.key) (write_short_length_seq p.value), length_entry p.key, length_entry p.value) refl

pub length_images : {A : Type 0} (img : A → List ℕ) (size : A → ℕ) → ((x : A) → length (img x) ≡ size x) → (xs : List A) → length (images img xs) ≡ sum size xs
unfolding images sum
length_images img size h [] = refl
length_images img size h (x ∷ xs) = rw (length-append (img x) (images img xs), h x, length_images img size h xs) refl

pub length_pairs : (ps : List Pair) → length (write_aad_pairs ps) ≡ linear_length ps
unfolding write_aad_pairs
length_pairs ps = length_images write_aad_pair pair_length length_pair ps

pub length_aad : (ps : List Pair) → length (write_aad ps) ≡ 2 + linear_length ps
unfolding write_aad
length_aad ps = rw (length-append (write_uint16 (length ps)) (write_aad_pairs ps), length_uint16, length_pairs ps) refl

pub length_expanded : (ps : List Pair) → length (write_expanded_aad_section ps) ≡ 4 + linear_length ps
unfolding write_expanded_aad_section
length_expanded ps = rw (length-append (write_uint16 (2 + linear_length ps)) (write_aad ps), length_uint16, length_aad ps) (omega arith)

pub linear_length_snoc : (acc : List Pair) (p : Pair) → linear_length (acc ++ (p ∷ [])) ≡ linear_length acc + pair_length p
unfolding sum
linear_length_snoc [] p = omega arith
linear_length_snoc (q ∷ acc) p = let h = linear_length_snoc acc p in omega arith

pub with_one_more : (acc : List PairAt) (p : PairAt) → linear_length (map pair_of (acc ++ (p ∷ []))) ≡ linear_length (map pair_of acc) + pair_length (pair_of p)
with_one_more acc p = ap linear_length (map-append pair_of acc (p ∷ [])) ∙ linear_length_snoc (map pair_of acc) (pair_of p)

-- 13 at each pair is 13 at the last
pub room_all : (acc ps : List Pair) → linear_length acc < pairs_limit → Oks NextOk acc ps → linear_length acc + linear_length ps < pairs_limit
unfolding sum
room_all acc [] h o = omega arith
room_all acc (p ∷ ps) h o =
    let k : linear_length acc + pair_length p < pairs_limit = is_leb _ _ o.0.room in
    let e = linear_length_snoc acc p in
    let z : linear_length (acc ++ (p ∷ [])) + linear_length ps < pairs_limit = room_all (acc ++ (p ∷ [])) ps (omega arith) o.1 in
    omega arith

-- the count and the pairs, in a section of length n
record AadOk (mode : Mode) (n : ℕ) (ps : List Pair) : Type 0 where
  few : length ps < 65536
  t8 : (not (eqb n 2) || eqb (length ps) 0) ≡ true
  t21 : not (eqb n 2 && is_strict mode) ≡ true
  t9 : (eqb n 2 || not (eqb (length ps) 0)) ≡ true
  each : Oks NextOk [] ps

abbrev pub aad_at : ℕ → List Pair → List PairAt
aad_at s ps = puts write_aad_pair pair_at (s + 2) ps

aad_exact : (mode : Mode) (n : ℕ) → Exact (read_aad_by source_read_next_aad_pair mode n) (AadOk mode n) write_aad aad_at
unfolding read_aad_by write_aad write_aad_pairs
aad_exact mode n =
    revalue (AadOk mode n) write_aad aad_at
    (seq_exact _ uint16_exact λ s count. check_exact 8 _ (check_exact 21 _ (check_exact 9 _ (many_exact NextOk write_aad_pair pair_at pair_of (λ s p. refl) source_read_next_aad_pair next_exact count []))))
    (λ w o.
    let e : length w.1 ≡ w.0 = o.1.1.1.1.0 in
    (w.1, record { few = rw e o.0; t8 = rw e o.1.0; t21 = o.1.1.0; t9 = rw e o.1.1.1.0; each = o.1.1.1.1.1 }, rw e refl, λ s. rw length_uint16 refl))
    (λ ps o. ((length ps, ps), (o.few, (o.t8, (o.t21, (o.t9, (refl, o.each))))), refl, λ s. rw length_uint16 refl))

-- what follows the length n; true: n is 0
pub OfOk : Mode → ℕ → Bool → List Pair → Type 0
OfOk mode n true ps = ps ≡ []
OfOk mode n false ps = AadOk mode n ps × (length (write_aad ps) ≡ n)

pub of_bytes : Bool → List Pair → List ℕ
of_bytes true ps = []
of_bytes false ps = write_aad ps

pub of_exact : (mode : Mode) (b : Bool) (n : ℕ) → Exact (source_read_aad_of mode b n) (OfOk mode n b) (of_bytes b) aad_at
unfolding source_read_aad_of OfOk of_bytes puts
of_exact mode true n = revalue (OfOk mode n true) (of_bytes true) aad_at (give_exact []) (λ w o. ([], refl, refl, λ s. refl)) (λ ps o. (tt, tt, refl, λ s. rw o refl))
of_exact mode false n = enclosed_exact n 14 (λ e. aad_exact mode n)

-- a context with the form that it is written in
pub record Context : Type 0 where
  pub form : Form
  pub pairs : List Pair

pub record ContextOk (mode : Mode) (c : Context) : Type 0 where
  pub allowed : Allowed mode c.form c.pairs
  pub few : length c.pairs < 65536
  pub each : Oks NextOk [] c.pairs

abbrev pub context_bytes : Context → List ℕ
context_bytes c = section_in c.form c.pairs

abbrev pub context_at : ℕ → Context → List PairAt
context_at s c = puts write_aad_pair pair_at (s + 4) c.pairs

not_strict : (mode : Mode) → not (eqb 2 2 && is_strict mode) ≡ true → Allowed mode old []
not_strict tolerant e = tt
not_strict strict e = let z : ◌≡◌ {A = ℕ} 0 1 = cc in omega arith

is_not_strict : (mode : Mode) → Allowed mode old [] → not (eqb 2 2 && is_strict mode) ≡ true
is_not_strict tolerant a = refl
is_not_strict strict a = absurd a

pub both_allow : (mode : Mode) (ps : List Pair) → Allowed mode today ps
both_allow tolerant ps = tt
both_allow strict ps = tt

Found : Mode → List ℕ → (ℕ → List PairAt) → Type 0
Found mode b put = (c : Context) × ContextOk mode c × (b ≡ context_bytes c) × ((s : ℕ) → put s ≡ context_at s c)

to_context : (mode : Mode) (n : ℕ) (ps : List Pair) (b : Bool) → eqb n 0 ≡ b → OfOk mode n b ps → Found mode (write_uint16 n ++ of_bytes b ps) (λ s. aad_at (s + length (write_uint16 n)) ps)
unfolding Found OfOk of_bytes write_aad_section write_expanded_aad_section puts sum
to_context mode n ps true e o =
    (record { form = today; pairs = [] }, record { allowed = both_allow mode []; few = omega arith; each = tt }, rw (append-nil (write_uint16 n), is_eqb n 0 e) refl, λ s. rw o refl)
to_context mode n [] false e (o, d) =
    let n2 : 2 ≡ n = sym (length_aad []) ∙ d in
    (record { form = old; pairs = [] }, record { allowed = not_strict mode (rw (← n2) at o.t21); few = omega arith; each = tt }, rw (← n2) refl, λ s. refl)
to_context mode n (p ∷ ps) false e (o, d) =
    let nn : 2 + linear_length (p ∷ ps) ≡ n = sym (length_aad (p ∷ ps)) ∙ d in (
      record { form = today; pairs = p ∷ ps },
      record { allowed = both_allow mode (p ∷ ps); few = o.few; each = o.each },
      rw (← nn) refl,
      λ s. rw (length_uint16 n, add_assoc s 2 2) refl,
    )

From : Mode → List ℕ → (ℕ → List PairAt) → Type 0
From mode b put =
    (w : ℕ × List Pair) × ((w.0 < 65536) × OfOk mode w.0 (eqb w.0 0) w.1) × (b ≡ write_uint16 w.0 ++ of_bytes (eqb w.0 0) w.1)
    × ((s : ℕ) → put s ≡ aad_at (s + length (write_uint16 w.0)) w.1)

from_pairs : (mode : Mode) (p : Pair) (ps : List Pair) → length (p ∷ ps) < 65536 → Oks NextOk [] (p ∷ ps)
    → From mode (write_expanded_aad_section (p ∷ ps)) (λ s. puts write_aad_pair pair_at (s + 4) (p ∷ ps))
unfolding From OfOk of_bytes write_expanded_aad_section puts sum
from_pairs mode p ps few each =
    let n = 2 + linear_length (p ∷ ps) in
    let h : linear_length (p ∷ ps) < pairs_limit = (let z = room_all [] (p ∷ ps) (omega arith) each in omega arith) in
    let e₀ : eqb n 0 ≡ false = neqb_is n 0 (omega arith) in
    let e₂ : eqb n 2 ≡ false = neqb_is n 2 (omega arith) in (
      (n, p ∷ ps),
      (
        omega arith,
        rw e₀ (record { few = few; t8 = rw e₂ refl; t21 = rw e₂ refl; t9 = rw (e₂, neqb_is (length (p ∷ ps)) 0 (omega arith)) refl; each = each }, length_aad (p ∷ ps)),
      ),
      rw e₀ refl,
      λ s. rw (length_uint16 n, add_assoc s 2 2) refl,
    )

from_context : (mode : Mode) (form : Form) (ps : List Pair) → ContextOk mode (record { form = form; pairs = ps }) → From mode (section_in form ps) (λ s. puts write_aad_pair pair_at (s + 4) ps)
unfolding From OfOk of_bytes write_aad_section write_expanded_aad_section puts sum
from_context mode today [] o = ((0, []), (omega arith, refl), sym (append-nil (write_uint16 0)), λ s. refl)
from_context mode old [] o =
    ((2, []), (omega arith, (record { few = omega arith; t8 = refl; t21 = is_not_strict mode o.allowed; t9 = refl; each = tt }, length_aad [])), refl, λ s. refl)
from_context mode today (p ∷ ps) o = from_pairs mode p ps o.few o.each
from_context mode old (p ∷ ps) o = from_pairs mode p ps o.few o.each

-- a section, by what follows its length: any reader that is exact there, as the source's is
pub section_exact_by : (mode : Mode) (of : Bool → ℕ → Reader (List PairAt)) → ((b : Bool) (n : ℕ) → n < 65536 → Exact (of b n) (OfOk mode n b) (of_bytes b) aad_at)
    → Exact (read_uint16 >>= λ n. of (eqb n 0) n) (ContextOk mode) context_bytes context_at
unfolding Found From
section_exact_by mode of h =
    revalue (ContextOk mode) context_bytes context_at (seq_exact_if _ uint16_exact λ s n o. h (eqb n 0) n o)
    (λ w o. to_context mode w.0 w.1 (eqb w.0 0) refl o.1)
    (λ c o. from_context mode c.form c.pairs o)
