-- Equality of keys is equality of their bytes, and find answers the value of the one pair with that key. Assumes nothing.
use mathlib.Core.Path.{◌≡◌, refl, sym, ap, ◌∙◌}
use mathlib.Core.Bool.{Bool, true, false, not, ◌||◌}
use mathlib.Core.List.Memᴰ
use mathlib.Core.List.{List, [], ◌∷◌, ◌++◌, append_assoc, map, Memᴰ}
use Prim.Native.Nat.{ℕ}
use native.Mathlib.Omega.{arith}
use lib.Dec.{eqb}
use Rattle.format.specs.Read.{ReadResult, success, error, accepted, answer, operation}
use Rattle.format.specs.Serialize.{Bytes, Part, images, same_bytes}
use Rattle.format.specs.Fields.{Pair, PairAt, pair_of, pair_places}
use Rattle.format.specs.Context.{seen, write_aad_pair, tolerant, read_aad_section, look_up, find_value}
use Rattle.format.specs.Demand3.{Held, Each, Has, here, there, Differ, Finds}
use Rattle.format.proofs.Tests.{is_eqb, eqb_is}
use Rattle.format.proofs.Firsts.{both, or_right}
use Rattle.format.proofs.Exact.{Oks, map_puts}
use Rattle.format.proofs.Context.{NextOk, pair_at}
use Rattle.format.proofs.Section.{section_exact}
use Rattle.format.proofs.Held.{context_held}
use Rattle.format.proofs.Messages.{accepted_took, refused_stays, accepted_goes_on}

-- the test of equality holds just of equal lists
pub same_equal : (a b : List ℕ) → same_bytes a b ≡ true → a ≡ b
unfolding same_bytes
same_equal [] [] e = refl
same_equal [] (y ∷ b) e = let z : ◌≡◌ {A = ℕ} 0 1 = cc in absurd (omega arith)
same_equal (x ∷ a) [] e = let z : ◌≡◌ {A = ℕ} 0 1 = cc in absurd (omega arith)
same_equal (x ∷ a) (y ∷ b) e =
    let p = both (eqb x y) (same_bytes a b) e in
    let q : x ≡ y = is_eqb x y p.0 in
    let r : a ≡ b = same_equal a b p.1 in
    rw (q, r) refl

pub equal_same : (a : List ℕ) → same_bytes a a ≡ true
unfolding same_bytes
equal_same [] = refl
equal_same (x ∷ a) = rw (eqb_is x x refl, equal_same a) refl

-- a key was seen just where a pair has it
pub has_seen : (k : List ℕ) (ps : List PairAt) → Has k ps → seen k (map pair_of ps) ≡ true
unfolding seen
has_seen k [] x' = elim x' [ ]
has_seen k (p ∷ ps) (here e) = rw (← e, equal_same k) refl
has_seen k (p ∷ ps) (there h) = or_right (same_bytes k p.key.bytes) (has_seen k ps h)

pub seen_has : (k : List ℕ) (ps : List PairAt) → seen k (map pair_of ps) ≡ true → Has k ps
unfolding seen
seen_has k [] e = let z : ◌≡◌ {A = ℕ} 0 1 = cc in absurd (omega arith)
seen_has k (p ∷ ps) e = go (same_bytes k p.key.bytes) refl e (seen_has k ps)
  where
    go : (b : Bool) → same_bytes k p.key.bytes ≡ b → (b || seen k (map pair_of ps)) ≡ true → (seen k (map pair_of ps) ≡ true → Has k ps) → Has k (p ∷ ps)
    go true q e f = here (same_equal k p.key.bytes q)
    go false q e f = there (f e)

-- and so of pairs without their places
pub member_seen : (k : List ℕ) (p : Pair) (ps : List Pair) → Memᴰ p ps → k ≡ p.key → seen k ps ≡ true
unfolding seen
member_seen k p [] x'' h = elim x'' [ ]
member_seen k p (q ∷ ps) (Memᴰ.head e) h = rw (← ap (λ x. x.key) e, ← h, equal_same k) refl
member_seen k p (q ∷ ps) (Memᴰ.tail m) h = or_right (same_bytes k q.key) (member_seen k p ps m h)

pub seen_member : (k : List ℕ) (ps : List Pair) → seen k ps ≡ true → (p : Pair) × Memᴰ p ps × (k ≡ p.key)
unfolding seen
seen_member k [] e = let z : ◌≡◌ {A = ℕ} 0 1 = cc in absurd (omega arith)
seen_member k (p ∷ ps) e = go (same_bytes k p.key) refl e (seen_member k ps)
  where
    go : (b : Bool) → same_bytes k p.key ≡ b → (b || seen k ps) ≡ true → (seen k ps ≡ true → (q : Pair) × Memᴰ q ps × (k ≡ q.key)) → (q : Pair) × Memᴰ q (p ∷ ps) × (k ≡ q.key)
    go true q e f = (p, Memᴰ.head refl, same_equal k p.key q)
    go false q e f = let (r, m, is) = f e in (r, Memᴰ.tail m, is)

-- refusal 12 at each pair leaves keys that differ
pub contrary : {b : Bool} → b ≡ true → not b ≡ true → ⊥
contrary e f = let z : ◌≡◌ {A = ℕ} 0 1 = cc in omega arith

-- the key of p, which stands among the pairs before, is in none of the pairs behind
apart : (k : List ℕ) (p : Pair) (before after : List Pair) (ps : List PairAt) → Oks NextOk (before ++ (p ∷ after)) (map pair_of ps) → k ≡ p.key → Has k ps → ⊥
apart k p before after [] _ e x4 = elim x4 [ ]
apart k p before after (r ∷ ps) (o, os) e (here h) = contrary (member_seen r.key.bytes p (before ++ (p ∷ after)) (Memᴰ.append_right before (Memᴰ.head refl)) (sym h ∙ e)) o.new
apart k p before after (r ∷ ps) (o, os) e (there h) = apart k p before (after ++ (pair_of r ∷ [])) ps (rw (append_assoc before (p ∷ after) (pair_of r ∷ [])) at os) e h

differ : (acc : List Pair) (ps : List PairAt) → Oks NextOk acc (map pair_of ps) → Differ ps
differ acc [] o = tt
differ acc (p ∷ ps) (o, os) = (λ h. apart p.key.bytes (pair_of p) acc [] ps os refl h, differ (acc ++ (pair_of p ∷ [])) ps os)

-- looking a key up
member_has : (k : List ℕ) (p : PairAt) (ps : List PairAt) → Memᴰ p ps → k ≡ p.key.bytes → Has k ps
member_has k p [] x'' h = elim x'' [ ]
member_has k p (q ∷ ps) (Memᴰ.head e) h = here (h ∙ ap (λ x. x.key.bytes) e)
member_has k p (q ∷ ps) (Memᴰ.tail m) h = there (member_has k p ps m h)

found : (k : List ℕ) (ps : List PairAt) (l : List ℕ) (s : ℕ) (p : PairAt) → Memᴰ p ps → k ≡ p.key.bytes → Differ ps → look_up k ps l s ≡ success p.value l s
unfolding look_up
found k [] l s p x3 h d = elim x3 [ ]
found k (q ∷ ps) l s p (Memᴰ.head e) h d =
    let z : k ≡ q.key.bytes = h ∙ ap (λ x. x.key.bytes) e in
    let y : p.value ≡ q.value = ap (λ x. x.value) e in
    let w : same_bytes k q.key.bytes ≡ true = rw (← z) (equal_same k) in
    rw (w, look_up, y) refl
found k (q ∷ ps) l s p (Memᴰ.tail m) h (n, d) = go (same_bytes k q.key.bytes) refl (found k ps l s p m h d)
  where
    go : (b : Bool) → same_bytes k q.key.bytes ≡ b → look_up k ps l s ≡ success p.value l s
        → elim b as (λ x. ReadResult Part) [ true ↦ success q.value l s | false ↦ look_up k ps l s ] ≡ success p.value l s
    go true e r = absurd (n (member_has q.key.bytes p ps m (sym (same_equal k q.key.bytes e) ∙ h)))
    go false e r = r

not_found : (k : List ℕ) (ps : List PairAt) (l : List ℕ) (s : ℕ) → (Has k ps → ⊥) → look_up k ps l s ≡ error 29
unfolding look_up
not_found k [] l s n = refl
not_found k (q ∷ ps) l s n = go (same_bytes k q.key.bytes) refl (not_found k ps l s (λ h. n (there h)))
  where
    go : (b : Bool) → same_bytes k q.key.bytes ≡ b → look_up k ps l s ≡ error 29
        → ◌≡◌ {A = ReadResult Part} (elim b as (λ x. ReadResult Part) [ true ↦ success q.value l s | false ↦ look_up k ps l s ]) (error 29)
    go true e r = absurd (n (here (same_equal k q.key.bytes e)))
    go false e r = r

module _ (m : List ℕ) (s : ℕ) (hb : Bytes m) where
  pub one : (ps : List PairAt) (t : ℕ) → operation (read_aad_section tolerant) m s ≡ accepted ps t → Differ ps
  one ps t e =
      let (l, x) = accepted_took (section_exact tolerant) m s hb ps t e in
      let same : map pair_of ps ≡ x.value.pairs = ap (map pair_of) x.placed ∙ map_puts write_aad_pair pair_at pair_of (λ s p. refl) _ x.value.pairs in
      differ [] ps (rw same x.good.each)

  value_held : (ps : List PairAt) (p : PairAt) → Memᴰ p ps → Each (Held m) (images pair_places ps) → Held m p.value
  unfolding images
  value_held [] p x'' _ = elim x'' [ ]
  value_held (q ∷ ps) p (Memᴰ.head e) (hk, (hv, h)) = rw e hv
  value_held (q ∷ ps) p (Memᴰ.tail i) (hk, (hv, h)) = value_held ps p i h

  placed : (ps : List PairAt) (t : ℕ) → operation (read_aad_section tolerant) m s ≡ accepted ps t → Each (Held m) (images pair_places ps)
  placed ps t e =
      let (l, x) = accepted_took (section_exact tolerant) m s hb ps t e in
      rw x.placed (context_held m x.value.form x.value.pairs s (record { after = l; is = x.split }))

pub finds : (k m : List ℕ) (s : ℕ) → Bytes m → Finds k m s
unfolding find_value
finds k m s hb =
    record {
      refuses = λ j p e. refused_stays (read_aad_section tolerant) (look_up k) m s j p e;
      one = one m s hb;
      value = λ ps t e p h is.
          let z = accepted_goes_on (read_aad_section tolerant) (look_up k) m s ps t e in
          (z.1 ∙ ap answer (found k ps z.0 t p h is (one m s hb ps t e)), value_held m s hb ps p h (placed m s hb ps t e));
      none_has_it = λ ps t e n.
          let z = accepted_goes_on (read_aad_section tolerant) (look_up k) m s ps t e in
          z.1 ∙ ap answer (not_found k ps z.0 t n);
    }
