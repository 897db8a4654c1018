-- Sorting keeps pairs and puts them in order, and pairs in order are fixed by which they are; and how long they are. Assumes nothing.
use mathlib.Core.Path.{◌≡◌, refl, sym, ap, ◌∙◌}
use mathlib.Core.Bool.{Bool, true, false, cond}
use mathlib.Core.Logic.{◌⊎◌, inl, inr, ⊎_elim}
use mathlib.Core.List.Memᴰ
use mathlib.Core.List.{List, [], ◌∷◌, ◌++◌, Memᴰ}
use Prim.Native.Nat.{ℕ, ◌+◌, ◌≤◌}
use native.Mathlib.Omega.{arith}
use lib.ListN.{length, length-append}
use Rattle.format.specs.Serialize.{write_uint16, sum, same_bytes}
use Rattle.format.specs.Fields.{Pair}
use Rattle.format.specs.Context.{seen, pair_length, linear_length, write_aad_pairs, write_aad, write_empty_ec_or_write_aad}
use Rattle.format.specs.Sorted.{before, put_in_order, sort_among, sort_pairs}
use Rattle.format.specs.OnlyAuthenticated.{is_among, only_required, context_to_only_authenticate}
use Rattle.format.specs.Selection.{NextBehind, Ascends, Selects, KeysDiffer}
use Rattle.format.proofs.Tests.{never, fails}
use Rattle.format.proofs.Firsts.{or_cases, or_right}
use Rattle.format.proofs.Serialize.{length_uint16}
use Rattle.format.proofs.Context.{length_pairs}
use Rattle.format.proofs.Find.{same_equal, equal_same, member_seen}
use Rattle.format.proofs.KeyOrder.{total, not_itself, passes_on, not_both}

-- PAIRS THAT ASCEND. The first comes before every other, and not only before the next; and that is all that its place asks
least : (p : Pair) (ps : List Pair) → Ascends (p ∷ ps) → (q : Pair) → Memᴰ q ps → before p.key q.key ≡ true
least p [] _ q x3 = elim x3 [ ]
least p (r ∷ ps) (n, a) q (Memᴰ.head e) = rw e n
least p (r ∷ ps) (n, a) q (Memᴰ.tail m) = passes_on p.key r.key q.key n (least r ps a q m)

next : (p : Pair) (ps : List Pair) → ((q : Pair) → Memᴰ q ps → before p.key q.key ≡ true) → NextBehind p ps
next p [] h = tt
next p (q ∷ ps) h = h q (Memᴰ.head refl)

-- so it is none of the others
strictly : {C : Type 0} (p : Pair) (ps : List Pair) → Ascends (p ∷ ps) → (q : Pair) → Memᴰ q ps → q ≡ p → C
strictly p ps a q m e = never (least p ps a q m) (ap (λ x. before p.key x.key) e ∙ not_itself p.key)

pub each_once : (front : List Pair) (p : Pair) (back : List Pair) → Ascends (front ++ (p ∷ back)) → Memᴰ p (front ++ back) → ⊥
each_once [] p back a m = strictly p back a p m refl
each_once (q ∷ front) p back a (Memᴰ.head e) = strictly q (front ++ (p ∷ back)) a p (Memᴰ.append_right front (Memᴰ.head refl)) e
each_once (q ∷ front) p back (n, a) (Memᴰ.tail m) = each_once front p back a m

-- Lists that ascend and have the same members are equal: their heads are, or each would come before the other; and behind equal heads
-- stand the same members, none of which is the head
heads : (p : Pair) (a : List Pair) (q : Pair) (b : List Pair) → Ascends (p ∷ a) → Ascends (q ∷ b) → Memᴰ p (q ∷ b) → Memᴰ q (p ∷ a) → p ≡ q
heads p a q b u v (Memᴰ.head e) j = e
heads p a q b u v (Memᴰ.tail i) (Memᴰ.head e) = sym e
heads p a q b u v (Memᴰ.tail i) (Memᴰ.tail j) = not_both q.key p.key (least q b v p i) (least p a u q j)

behind : (p : Pair) (a : List Pair) (q : Pair) (b : List Pair) → p ≡ q → Ascends (p ∷ a) → ((r : Pair) → Memᴰ r (p ∷ a) → Memᴰ r (q ∷ b))
    → (r : Pair) → Memᴰ r a → Memᴰ r b
behind p a q b e u f r m = ⊎_elim (λ s. strictly p a u r m (s ∙ sym e)) (λ k. k) (Memᴰ.cases_cons (f r (Memᴰ.tail m)))

same_members : (a b : List Pair) → Ascends a → Ascends b → ((p : Pair) → Memᴰ p a → Memᴰ p b) → ((p : Pair) → Memᴰ p b → Memᴰ p a) → a ≡ b
same_members [] [] u v f g = refl
same_members [] (q ∷ b) u v f g = absurd (Memᴰ.not-nil (g q (Memᴰ.head refl)))
same_members (p ∷ a) [] u v f g = absurd (Memᴰ.not-nil (f p (Memᴰ.head refl)))
same_members (p ∷ a) (q ∷ b) u v f g =
    let e = heads p a q b u v (f p (Memᴰ.head refl)) (g q (Memᴰ.head refl)) in
    let tails : a ≡ b = same_members a b u.1 v.1 (behind p a q b e u f) (behind q b p a (sym e) v g) in
    rw (e, tails) refl

-- SORTING. A pair put among others is there, beside them and nothing else
put_member : (qs : List Pair) (p r : Pair) → Memᴰ r (put_in_order qs p) → Memᴰ r (p ∷ qs)
unfolding put_in_order
put_member [] p r m = m
put_member (q ∷ qs) p r m = go (before p.key q.key) m (put_member qs p r)
  where
    go : (b : Bool) → Memᴰ r (cond b (p ∷ q ∷ qs) (q ∷ put_in_order qs p)) → (Memᴰ r (put_in_order qs p) → Memᴰ r (p ∷ qs)) → Memᴰ r (p ∷ q ∷ qs)
    go true m ih = m
    go false (Memᴰ.head e) ih = Memᴰ.tail (Memᴰ.head e)
    go false (Memᴰ.tail m) ih = ⊎_elim Memᴰ.head (λ k. Memᴰ.tail (Memᴰ.tail k)) (Memᴰ.cases_cons (ih m))

member_put : (qs : List Pair) (p r : Pair) → Memᴰ r (p ∷ qs) → Memᴰ r (put_in_order qs p)
unfolding put_in_order
member_put [] p r m = m
member_put (q ∷ qs) p r m = go (before p.key q.key) (member_put qs p r)
  where
    go : (b : Bool) → (Memᴰ r (p ∷ qs) → Memᴰ r (put_in_order qs p)) → Memᴰ r (cond b (p ∷ q ∷ qs) (q ∷ put_in_order qs p))
    go true ih = m
    go false ih =
        ⊎_elim (λ e. Memᴰ.tail (ih (Memᴰ.head e))) (λ k. ⊎_elim Memᴰ.head (λ j. Memᴰ.tail (ih (Memᴰ.tail j))) (Memᴰ.cases_cons k)) (Memᴰ.cases_cons m)

-- and with a key that none of them has it leaves them in order
put_ascends : (qs : List Pair) (p : Pair) → Ascends qs → ((q : Pair) → Memᴰ q qs → p.key ≡ q.key → ⊥) → Ascends (put_in_order qs p)
unfolding put_in_order
put_ascends [] p a n = (tt, tt)
put_ascends (q ∷ qs) p a n = go (before p.key q.key) refl (put_ascends qs p a.1 (λ r m. n r (Memᴰ.tail m)))
  where
    go : (b : Bool) → before p.key q.key ≡ b → Ascends (put_in_order qs p) → Ascends (cond b (p ∷ q ∷ qs) (q ∷ put_in_order qs p))
    go true e ih = (e, a)
    go false e ih =
        let first : before q.key p.key ≡ true = ⊎_elim (λ t. never t e) (⊎_elim (λ s. absurd (n q (Memᴰ.head refl) s)) (λ t. t)) (total p.key q.key) in
        (next q (put_in_order qs p) (λ r m. ⊎_elim (λ s. rw s first) (least q qs a r) (Memᴰ.cases_cons (put_member qs p r m))), ih)

-- so the pairs put among sorted ones, each in its turn, are there beside those, in order
sorted_member : (ps acc : List Pair) (r : Pair) → Memᴰ r (sort_among ps acc) → Memᴰ r ps ⊎ Memᴰ r acc
unfolding sort_among
sorted_member [] acc r m = inr m
sorted_member (p ∷ ps) acc r m =
    ⊎_elim (λ k. inl (Memᴰ.tail k)) (λ k. ⊎_elim (λ e. inl (Memᴰ.head e)) inr (Memᴰ.cases_cons (put_member acc p r k))) (sorted_member ps (put_in_order acc p) r m)

member_sorted : (ps acc : List Pair) (r : Pair) → Memᴰ r ps ⊎ Memᴰ r acc → Memᴰ r (sort_among ps acc)
unfolding sort_among
member_sorted [] acc r (inl m) = absurd (Memᴰ.not-nil m)
member_sorted [] acc r (inr m) = m
member_sorted (p ∷ ps) acc r (inl m) = member_sorted ps (put_in_order acc p) r (⊎_elim (λ e. inr (member_put acc p r (Memᴰ.head e))) inl (Memᴰ.cases_cons m))
member_sorted (p ∷ ps) acc r (inr m) = member_sorted ps (put_in_order acc p) r (inr (member_put acc p r (Memᴰ.tail m)))

sorted_ascends : (ps acc : List Pair) → KeysDiffer ps → Ascends acc → ((p q : Pair) → Memᴰ p ps → Memᴰ q acc → p.key ≡ q.key → ⊥) → Ascends (sort_among ps acc)
unfolding sort_among
sorted_ascends [] acc d a n = a
sorted_ascends (p ∷ ps) acc (u, d) a n =
    sorted_ascends ps (put_in_order acc p) d (put_ascends acc p a (λ q m. n p q (Memᴰ.head refl) m)) (λ r q i m e.
    ⊎_elim (λ s. never (member_seen p.key r ps i (sym (e ∙ ap (λ x. x.key) s))) u) (λ k. n r q (Memᴰ.tail i) k e) (Memᴰ.cases_cons (put_member acc p q m)))

-- among none, they are the pairs
sorted_of : (ps : List Pair) (r : Pair) → Memᴰ r (sort_pairs ps) → Memᴰ r ps
sorted_of ps r m = ⊎_elim (λ k. k) (λ k. absurd (Memᴰ.not-nil k)) (sorted_member ps [] r m)

-- THE REQUIRED KEYS
among_in : (keys : List (List ℕ)) (k : List ℕ) → is_among keys k ≡ true → Memᴰ k keys
unfolding is_among
among_in [] k e = never e refl
among_in (x ∷ keys) k e = ⊎_elim (λ q. Memᴰ.head (same_equal k x q)) (λ q. Memᴰ.tail (among_in keys k q)) (or_cases (same_bytes k x) (is_among keys k) e)

in_among : (keys : List (List ℕ)) (k : List ℕ) → Memᴰ k keys → is_among keys k ≡ true
unfolding is_among
in_among [] k x' = elim x' [ ]
in_among (x ∷ keys) k (Memᴰ.head e) = rw (← e, equal_same k) refl
in_among (x ∷ keys) k (Memᴰ.tail m) = or_right (same_bytes k x) (in_among keys k m)

-- the pairs with required keys are kept, and their order
kept : (keys : List (List ℕ)) (ps : List Pair) (r : Pair) → Memᴰ r (only_required keys ps) → Memᴰ r ps × Memᴰ r.key keys
unfolding only_required
kept keys [] r m = absurd (Memᴰ.not-nil m)
kept keys (p ∷ ps) r m = go (is_among keys p.key) refl m (kept keys ps r)
  where
    go : (b : Bool) → is_among keys p.key ≡ b → Memᴰ r (cond b (p ∷ only_required keys ps) (only_required keys ps))
        → (Memᴰ r (only_required keys ps) → Memᴰ r ps × Memᴰ r.key keys) → Memᴰ r (p ∷ ps) × Memᴰ r.key keys
    go true e (Memᴰ.head s) ih = (Memᴰ.head s, among_in keys r.key (ap (λ x. is_among keys x.key) s ∙ e))
    go true e (Memᴰ.tail m) ih = (Memᴰ.tail (ih m).0, (ih m).1)
    go false e m ih = (Memᴰ.tail (ih m).0, (ih m).1)

keeps : (keys : List (List ℕ)) (ps : List Pair) (r : Pair) → Memᴰ r ps → is_among keys r.key ≡ true → Memᴰ r (only_required keys ps)
unfolding only_required
keeps keys [] r x'' k = elim x'' [ ]
keeps keys (p ∷ ps) r (Memᴰ.head e) k = rw (← ap (λ x. is_among keys x.key) e, k) (Memᴰ.head e)
keeps keys (p ∷ ps) r (Memᴰ.tail m) k = go (is_among keys p.key) (keeps keys ps r m k)
  where
    go : (b : Bool) → Memᴰ r (only_required keys ps) → Memᴰ r (cond b (p ∷ only_required keys ps) (only_required keys ps))
    go true ih = Memᴰ.tail ih
    go false ih = ih

kept_ascends : (keys : List (List ℕ)) (ps : List Pair) → Ascends ps → Ascends (only_required keys ps)
unfolding only_required
kept_ascends keys [] a = tt
kept_ascends keys (p ∷ ps) a = go (is_among keys p.key) (kept_ascends keys ps a.1)
  where
    go : (b : Bool) → Ascends (only_required keys ps) → Ascends (cond b (p ∷ only_required keys ps) (only_required keys ps))
    go true ih = (next p (only_required keys ps) (λ r m. least p ps a r (kept keys ps r m).0), ih)
    go false ih = ih

pub selects : (keys : List (List ℕ)) (ps : List Pair) → KeysDiffer ps → Selects keys ps (context_to_only_authenticate keys ps)
selects keys ps d =
    record {
      only = λ p m. let z = kept keys (sort_pairs ps) p m in (sorted_of ps p z.0, z.1);
      all = λ p m k. keeps keys (sort_pairs ps) p (member_sorted ps [] p (inl m)) (in_among keys p.key k);
      ascends = kept_ascends keys (sort_pairs ps) (sorted_ascends ps [] d tt (λ p q i m e. Memᴰ.not-nil m));
    }

pub fixed : (keys : List (List ℕ)) (ps a b : List Pair) → Selects keys ps a → Selects keys ps b → a ≡ b
fixed keys ps a b u v = same_members a b u.ascends v.ascends (λ p m. let z = u.only p m in v.all p z.0 z.1) (λ p m. let z = v.only p m in u.all p z.0 z.1)

-- keys that answer alike for every pair select alike
same_kept : (keys others : List (List ℕ)) (ps : List Pair) → ((p : Pair) → Memᴰ p ps → is_among keys p.key ≡ is_among others p.key)
    → only_required keys ps ≡ only_required others ps
unfolding only_required
same_kept keys others [] h = refl
same_kept keys others (p ∷ ps) h = rw (h p (Memᴰ.head refl), same_kept keys others ps (λ q m. h q (Memᴰ.tail m))) refl

alike : (a b : Bool) → (a ≡ true → b ≡ true) → (b ≡ true → a ≡ true) → a ≡ b
alike true b f g = sym (f refl)
alike false b f g = sym (fails b (λ e. never (g e) refl))

pub named : (keys others : List (List ℕ)) (ps : List Pair) → ((k : List ℕ) → Memᴰ k keys → Memᴰ k others) → ((k : List ℕ) → Memᴰ k others → Memᴰ k keys)
    → context_to_only_authenticate keys ps ≡ context_to_only_authenticate others ps
named keys others ps f g =
    same_kept keys others (sort_pairs ps) (λ p m.
    alike _ _ (λ e. in_among others p.key (f p.key (among_in keys p.key e))) (λ e. in_among keys p.key (g p.key (among_in others p.key e))))

pub absent : (k : List ℕ) (keys : List (List ℕ)) (ps : List Pair) → seen k ps ≡ false → context_to_only_authenticate (k ∷ keys) ps ≡ context_to_only_authenticate keys ps
unfolding is_among
absent k keys ps h =
    same_kept (k ∷ keys) keys (sort_pairs ps) (λ p m.
    rw (fails (same_bytes p.key k) (λ e. never (member_seen k p ps (sorted_of ps p m) (sym (same_equal p.key k e))) h)) refl)

-- BYTES AND LENGTHS
pub bytes : (p : Pair) (ps : List Pair) → write_empty_ec_or_write_aad (p ∷ ps) ≡ write_uint16 (length (p ∷ ps)) ++ write_aad_pairs (p ∷ ps)
unfolding write_empty_ec_or_write_aad write_aad
bytes p ps = refl

pub no_bytes : write_empty_ec_or_write_aad [] ≡ []
unfolding write_empty_ec_or_write_aad
no_bytes = refl

-- pairs take as much sorted, and no more where only some are kept
put_length : (qs : List Pair) (p : Pair) → linear_length (put_in_order qs p) ≡ pair_length p + linear_length qs
unfolding put_in_order sum
put_length [] p = refl
put_length (q ∷ qs) p = go (before p.key q.key) (put_length qs p)
  where
    go : (b : Bool) → linear_length (put_in_order qs p) ≡ pair_length p + linear_length qs
        → linear_length (cond b (p ∷ q ∷ qs) (q ∷ put_in_order qs p)) ≡ pair_length p + linear_length (q ∷ qs)
    go true ih = refl
    go false ih = omega arith

sorted_length : (ps acc : List Pair) → linear_length (sort_among ps acc) ≡ linear_length ps + linear_length acc
unfolding sort_among sum
sorted_length [] acc = omega arith
sorted_length (p ∷ ps) acc = let z = sorted_length ps (put_in_order acc p) in let e = put_length acc p in omega arith

kept_length : (keys : List (List ℕ)) (ps : List Pair) → linear_length (only_required keys ps) ≤ linear_length ps
unfolding only_required sum
kept_length keys [] = omega arith
kept_length keys (p ∷ ps) = go (is_among keys p.key) (kept_length keys ps)
  where
    go : (b : Bool) → linear_length (only_required keys ps) ≤ linear_length ps → linear_length (cond b (p ∷ only_required keys ps) (only_required keys ps)) ≤ linear_length (p ∷ ps)
    go true ih = omega arith
    go false ih = omega arith

-- so what is written of them is the count, if that, and no more than they all take
image_length : (ps : List Pair) → length (write_empty_ec_or_write_aad ps) ≤ 2 + linear_length ps
image_length [] = rw no_bytes (omega arith)
image_length (p ∷ ps) = rw (bytes p ps, length-append, length_uint16, length_pairs) (omega arith)

pub written_length : (keys : List (List ℕ)) (ps : List Pair) → length (write_empty_ec_or_write_aad (context_to_only_authenticate keys ps)) ≤ 2 + linear_length ps
unfolding sum
written_length keys ps =
    let a = image_length (context_to_only_authenticate keys ps) in
    let b = kept_length keys (sort_pairs ps) in
    let c = sorted_length ps [] in
    omega arith
