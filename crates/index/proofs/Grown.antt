-- An index tells whether a key was seen, and it grows by a pair whose key was not. Assumes nothing.
use Prim.Native.Nat.{ℕ, zero, suc, ◌<◌, ◌≤◌}
use native.Mathlib.Omega.{arith}
use mathlib.Core.Path.{◌≡◌, refl, sym, ap, subst, ◌∙◌}
use mathlib.Core.Bool.{Bool, true, false, ◌||◌}
use mathlib.Core.List.{List, [], ◌∷◌, ◌++◌}
use lib.ListN.{length, get_or}
use Rattle.format.specs.Serialize.{same_bytes}
use Rattle.format.specs.Fields.{Pair}
use Rattle.format.specs.Context.{seen}
use Rattle.std.specs.declared.cmp.Ordering.{Ordering}
use Rattle.std.specs.declared.cmp.Ordering.TheVariants.{Less, Greater}
use Rattle.std.specs.Ordering.{ordering_reverse}
use Rattle.std.specs.Prelude.{Result, Ok, Err}
use Rattle.comparing.specs.Order.{compare_bytes}
use Rattle.comparing.proofs.Ordered.{Way, under, same, over, way, compare_flip, same_refl, less_not_same, greater_not_same}
use Rattle.index.specs.Index.{Index, Stands, Between, Sought, Finds, Shifted, Copied}

or_true : (t : Bool) → t || true ≡ true
or_true true = refl
or_true false = refl

or_false : (t : Bool) → t || false ≡ t
or_false true = refl
or_false false = refl

or_assoc : (a b c : Bool) → a || (b || c) ≡ (a || b) || c
or_assoc true b c = refl
or_assoc false b c = refl

-- one more pair
seen_snoc : (k : List ℕ) (done : List Pair) (p : Pair) → seen k (done ++ (p ∷ [])) ≡ seen k done || same_bytes k p.key
unfolding seen
seen_snoc k [] p = or_false (same_bytes k p.key)
seen_snoc k (q ∷ done) p = ap (λ (t : Bool). same_bytes k q.key || t) (seen_snoc k done p) ∙ or_assoc (same_bytes k q.key) (seen k done) (same_bytes k p.key)

-- a place of the grown index is below the new number, it is the new number's, or it is behind it
data From (p n : ℕ) : ℕ → Type 0 where
  low : (r : ℕ) → r < p → From p n r
  new : From p n p
  high : (r : ℕ) → p ≤ r → r < n → From p n (suc r)

from : (p n : ℕ) → p ≤ n → (r : ℕ) → r < suc n → From p n r
from p n h r k = go r k (way r p)
  where
    up : (r : ℕ) → r < suc n → p < r → From p n r
    up zero k l = absurd (omega arith)
    up (suc r) k l = high r (omega arith) (omega arith)

    go : (r : ℕ) → r < suc n → Way r p → From p n r
    go r k (under w) = low r w
    go r k (same w) = subst (λ (x : ℕ). From p n x) (sym w) new
    go r k (over w) = up r k w

-- what holds of the new number and of the old ones holds of all
shifted_all : (s t : List ℕ) (p n x : ℕ) → Shifted s t p n x → p ≤ n → (P : ℕ → Type 0) → P x → ((r : ℕ) → r < n → P (get_or s r 0)) → (r : ℕ) → r < suc n → P (get_or t r 0)
shifted_all s t p n x sh h P new_x old r k = go r (from p n h r k)
  where
    go : (r : ℕ) → From p n r → P (get_or t r 0)
    go r (low _ a) = subst P (sym (sh.below r a)) (old r (omega arith))
    go r new = subst P (sym sh.here) new_x
    go r (high q a b) = subst P (sym (sh.above q a b)) (old q b)

module _ (key : ℕ → List ℕ) (Good : ℕ → Type 0) where
  pub index_start : (s : List ℕ) → Index key Good [] 0 s
  unfolding seen
  index_start s =
      record {
        ascends = λ r q h k. absurd (omega arith);
        good = λ r h. absurd (omega arith);
        only = λ r h. absurd (omega arith);
        all = λ k h. refl;
      }

  module _ (done : List Pair) (n : ℕ) (s : List ℕ) (ix : Index key Good done n s) where
    -- in a larger array it is the same index
    pub index_copied : n ≤ length s → (t : List ℕ) → Copied s t → Index key Good done n t
    index_copied h t c =
        record {
          ascends = λ r q a b. rw (at r (omega arith), at q b) (ix.ascends r q a b);
          good = λ r a. subst Good (sym (at r a)) (ix.good r a);
          only = λ r a. rw (at r a) (ix.only r a);
          all = λ k a. ix.all k (λ r b. subst (λ (x : ℕ). same_bytes k (key x) ≡ false) (at r b) (a r b));
        }
      where
        at : (r : ℕ) → r < n → get_or t r 0 ≡ get_or s r 0
        at r a = c.same r (omega arith)

    -- a key between those of the index was not seen
    pub between_unseen : (k : List ℕ) (p : ℕ) → Between key n s k p → seen k done ≡ false
    between_unseen k p b = ix.all k (λ r h. go r h (way r p))
      where
        turned : (a : List ℕ) (o : Ordering) → compare_bytes a k ≡ o → compare_bytes k a ≡ ordering_reverse o
        turned a o e = compare_flip a k ∙ ap ordering_reverse e

        go : (r : ℕ) → r < n → Way r p → same_bytes k (key (get_or s r 0)) ≡ false
        go r h (under w) = greater_not_same k (key (get_or s r 0)) (turned (key (get_or s r 0)) Less (b.below r w))
        go r h (same w) = less_not_same k (key (get_or s r 0)) (turned (key (get_or s r 0)) Greater (b.above r (omega arith) h))
        go r h (over w) = less_not_same k (key (get_or s r 0)) (turned (key (get_or s r 0)) Greater (b.above r (omega arith) h))

    module _ (q : Pair) (x p : ℕ) (is : key x ≡ q.key) (b : Between key n s q.key p) (t : List ℕ) (sh : Shifted s t p n x) where
      ascending : (r j : ℕ) → r < j → j < suc n → compare_bytes (key (get_or t r 0)) (key (get_or t j 0)) ≡ Less
      ascending r j h k = go r j h (from p n b.within r (omega arith)) (from p n b.within j k)
        where
          old : (r j u v : ℕ) → u ≡ get_or s r 0 → v ≡ get_or s j 0 → r < j → j < n → compare_bytes (key u) (key v) ≡ Less
          old r j u v e f l m = rw (e, f) (ix.ascends r j l m)

          less : (r u v : ℕ) → u ≡ get_or s r 0 → v ≡ x → r < p → compare_bytes (key u) (key v) ≡ Less
          less r u v e f l = rw (e, f, is) (b.below r l)

          more : (r u v : ℕ) → u ≡ x → v ≡ get_or s r 0 → p ≤ r → r < n → compare_bytes (key u) (key v) ≡ Less
          more r u v e f l m = rw (e, f, is) (compare_flip (key (get_or s r 0)) q.key ∙ ap ordering_reverse (b.above r l m))

          go : (r j : ℕ) → r < j → From p n r → From p n j → compare_bytes (key (get_or t r 0)) (key (get_or t j 0)) ≡ Less
          go r j l (low _ a) (low _ c) = old r j _ _ (sh.below r a) (sh.below j c) l (omega (arith, b.within))
          go r j l (low _ a) new = less r _ _ (sh.below r a) sh.here a
          go r j l (low _ a) (high i c d) = old r i _ _ (sh.below r a) (sh.above i c d) (omega arith) d
          go r j l new (low _ c) = absurd (omega arith)
          go r j l new new = absurd (omega arith)
          go r j l new (high i c d) = more i _ _ sh.here (sh.above i c d) c d
          go r j l (high i a d) (low _ c) = absurd (omega arith)
          go r j l (high i a d) new = absurd (omega arith)
          go r j l (high i a d) (high m c e) = old i m _ _ (sh.above i a d) (sh.above m c e) (omega arith) e

      all_only : (r : ℕ) → r < suc n → seen (key (get_or t r 0)) (done ++ (q ∷ [])) ≡ true
      all_only =
          shifted_all s t p n x sh b.within (λ y. seen (key y) (done ++ (q ∷ [])) ≡ true)
          (rw is (seen_snoc q.key done q ∙ rw (same_refl q.key) (or_true (seen q.key done))))
          (λ r h. seen_snoc (key (get_or s r 0)) done q ∙ rw (ix.only r h))

      all_all : (k : List ℕ) → ((r : ℕ) → r < suc n → same_bytes k (key (get_or t r 0)) ≡ false) → seen k (done ++ (q ∷ [])) ≡ false
      all_all k h = seen_snoc k done q ∙ rw (ix.all k (λ r l. go r l (way r p))) here_not
        where
          moved : (i y : ℕ) → i < suc n → get_or t i 0 ≡ y → same_bytes k (key y) ≡ false
          moved i y l e = subst (λ (z : ℕ). same_bytes k (key z) ≡ false) e (h i l)

          here_not : same_bytes k q.key ≡ false
          here_not = subst (λ (z : List ℕ). same_bytes k z ≡ false) is (moved p x (omega (arith, b.within)) sh.here)

          go : (r : ℕ) → r < n → Way r p → same_bytes k (key (get_or s r 0)) ≡ false
          go r l (under w) = moved r _ (omega arith) (sh.below r w)
          go r l (same w) = moved (suc r) _ (omega arith) (sh.above r (omega arith) l)
          go r l (over w) = moved (suc r) _ (omega arith) (sh.above r (omega arith) l)

      pub index_more : Good x → Index key Good (done ++ (q ∷ [])) (suc n) t
      index_more g = record { ascends = ascending; good = shifted_all s t p n x sh b.within Good g ix.good; only = all_only; all = all_all }

-- what a search found
module _ (key : ℕ → List ℕ) (n : ℕ) (s k : List ℕ) (w : Result ℕ ℕ) (h : Sought key n s k w) where
  pub sought_stands : (p : ℕ) → w ≡ Ok p → Stands key n s k p
  sought_stands p e = subst (λ (x : Result ℕ ℕ). Finds key n s k x) e h.finds

  pub sought_between : (p : ℕ) → w ≡ Err p → Between key n s k p
  sought_between p e = subst (λ (x : Result ℕ ℕ). Finds key n s k x) e h.finds
