-- What the numbers of an index stand for is sorted: a number that is put in puts its pair in order. Assumes nothing.
use Prim.Native.Nat.{ℕ, zero, suc, ◌+◌, ◌<◌, ◌≤◌}
use native.Mathlib.Omega.{arith}
use mathlib.Core.Path.{◌≡◌, refl, sym, ap, ap₂, ◌∙◌}
use mathlib.Core.List.{List, [], ◌∷◌, ◌++◌}
use lib.ListN.{length, get_or}
use Rattle.format.specs.Fields.{Pair}
use Rattle.format.specs.Sorted.{put_in_order, sort_among}
use Rattle.std.specs.declared.cmp.Ordering.TheVariants.{Less, Greater}
use Rattle.std.specs.Ordering.{ordering_reverse}
use Rattle.comparing.specs.Order.{compare_bytes}
use Rattle.comparing.proofs.Ordered.{compare_flip, less_before, greater_before}
use Rattle.index.specs.Index.{Between, Shifted, Copied, numbered, Sorts}

-- one more pair to sort
sort_snoc : (ps sorted : List Pair) (p : Pair) → sort_among (ps ++ (p ∷ [])) sorted ≡ put_in_order (sort_among ps sorted) p
unfolding sort_among
sort_snoc [] sorted p = refl
sort_snoc (q ∷ ps) sorted p = sort_snoc ps (put_in_order sorted q) p

-- pairs of the same numbers
numbered_same : (pair : ℕ → Pair) (s t : List ℕ) (n i j : ℕ) → ((a b r : ℕ) → a ≡ i + r → b ≡ j + r → r < n → get_or t b 0 ≡ get_or s a 0) → numbered pair t n j ≡ numbered pair s n i
unfolding numbered
numbered_same pair s t zero i j h = refl
numbered_same pair s t (suc n) i j h =
    ap₂ (λ (p : Pair) (ps : List Pair). p ∷ ps) (ap pair (h i j 0 (omega arith) (omega arith) (omega arith)))
    (numbered_same pair s t n (suc i) (suc j) (λ a b r u v k. h a b (suc r) (omega arith) (omega arith) (omega arith)))

module _ (pair : ℕ → Pair) where
  abbrev key : ℕ → List ℕ
  key x = (pair x).key

  pub sorts_start : (s : List ℕ) → Sorts pair [] 0 s
  unfolding numbered sort_among
  sorts_start s = record { is = refl }

  pub sorts_copied : (done : List Pair) (n : ℕ) (s t : List ℕ) → Sorts pair done n s → n ≤ length s → Copied s t → Sorts pair done n t
  sorts_copied done n s t h k c = record { is = numbered_same pair s t n 0 0 (λ a a' r u v l. let z : a' ≡ a = omega arith in rw z (c.same a (omega arith))) ∙ h.is }

  module _ (done : List Pair) (n : ℕ) (s t : List ℕ) (x p : ℕ) (b : Between key n s (key x) p) (sh : Shifted s t p n x) where
    -- where the new number stands, in front of the c numbers that come behind it
    here : (c : ℕ) → p + c ≡ n → numbered pair t (suc c) p ≡ put_in_order (numbered pair s c p) (pair x)
    unfolding numbered put_in_order
    here zero e = rw sh.here refl
    here (suc c) e =
        let above : compare_bytes (key (get_or s p 0)) (key x) ≡ Greater = b.above p (omega arith) (omega arith) in
        let less : compare_bytes (key x) (key (get_or s p 0)) ≡ Less = compare_flip (key (get_or s p 0)) (key x) ∙ ap ordering_reverse above in
        let rest : numbered pair t (suc c) (suc p) ≡ numbered pair s (suc c) p = numbered_same pair s t (suc c) p (suc p) (λ a a' r u v l. let z : a' ≡ suc a = omega arith in rw z (sh.above a (omega arith) (omega arith))) in
        rw (less_before (key x) (key (get_or s p 0)) less, sh.here) (ap (λ (ps : List Pair). pair x ∷ ps) rest)

    -- the d numbers from i on that come before it are passed
    passed : (d k i : ℕ) → i + d ≡ p → i + k ≡ n → numbered pair t (suc k) i ≡ put_in_order (numbered pair s k i) (pair x)
    unfolding numbered put_in_order
    passed zero k i e f = let z : i ≡ p = omega arith in rw z (here k (omega arith))
    passed (suc d) zero i e f = let w : p ≤ n = b.within in absurd (omega arith)
    passed (suc d) (suc k) i e f =
        let below : compare_bytes (key (get_or s i 0)) (key x) ≡ Less = b.below i (omega arith) in
        let greater : compare_bytes (key x) (key (get_or s i 0)) ≡ Greater = compare_flip (key (get_or s i 0)) (key x) ∙ ap ordering_reverse below in
        rw (greater_before (key x) (key (get_or s i 0)) greater, sh.below i (omega arith)) (ap (λ (ps : List Pair). pair (get_or s i 0) ∷ ps) (passed d k (suc i) (omega arith) (omega arith)))

    pub sorts_more : Sorts pair done n s → Sorts pair (done ++ (pair x ∷ [])) (suc n) t
    sorts_more h =
        record { is = passed p n 0 (omega arith) (omega arith) ∙ ap (λ (ps : List Pair). put_in_order ps (pair x)) h.is ∙ sym (sort_snoc done [] (pair x)) }
