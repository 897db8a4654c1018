-- A run of items is read exactly as its items are written one behind the other, the last one marked as such. Assumes nothing.
use mathlib.Core.Path.{◌≡◌, refl, sym}
use mathlib.Core.List.{List, [], ◌∷◌, ◌++◌, append_assoc, append-nil}
use Prim.Native.Nat.{ℕ, zero, suc, ◌+◌, ◌≤◌, ◌<◌}
use native.Mathlib.Omega.{arith}
use lib.ListN.{length, length-append}
use Rattle.format.specs.Read.{Reader, Item, followed, last, behind, until, run}
use Rattle.format.proofs.Exact.{Exact, seq_exact, give_exact, revalue, more_is_no_success}

-- what is read of an item of that kind
abbrev pub alike : {A W : Type 0} → Item W → A → Item A
alike (followed w) a = followed a
alike (last w) a = last a

-- values of which the last one is the last item; what is good of an item, and how it is written, may depend on how many stand before it
abbrev pub RunOk : {W : Type 0} → (ℕ → Item W → Type 0) → ℕ → List W → Type 0
RunOk ok i [] = ⊥
RunOk ok i (w ∷ []) = ok i (last w)
RunOk ok i (w ∷ v ∷ ws) = ok i (followed w) × RunOk ok (suc i) (v ∷ ws)

unfoldable pub run_image : {W : Type 0} → (ℕ → Item W → List ℕ) → ℕ → List W → List ℕ
run_image img i [] = []
run_image img i (w ∷ []) = img i (last w)
run_image img i (w ∷ v ∷ ws) = img i (followed w) ++ run_image img (suc i) (v ∷ ws)

unfoldable pub run_puts : {A W : Type 0} → (ℕ → Item W → List ℕ) → (ℕ → Item W → A) → ℕ → ℕ → List W → List A
run_puts img put i s [] = []
run_puts img put i s (w ∷ []) = put s (last w) ∷ []
run_puts img put i s (w ∷ v ∷ ws) = put s (followed w) ∷ run_puts img put (suc i) (s + length (img i (followed w))) (v ∷ ws)

module _ {A W : Type 0} (ok : ℕ → Item W → Type 0) (img : ℕ → Item W → List ℕ) (put : ℕ → Item W → A) where
  -- what stands behind an item: the values of the rest, or none
  abbrev RestOk : ℕ → ℕ → Item W → List W → Type 0
  RestOk n i (followed w) ws = (length ws ≤ n) × RunOk ok i ws
  RestOk n i (last w) ws = ws ≡ []

  abbrev rest_image : ℕ → Item W → List W → List ℕ
  rest_image i (followed w) ws = run_image img i ws
  rest_image i (last w) ws = []

  abbrev rest_puts : ℕ → Item W → ℕ → List W → List A
  rest_puts i (followed w) s ws = run_puts img put i s ws
  rest_puts i (last w) s ws = []

  module _ (step : List A → Reader (Item A)) (h : (acc : List A) → Exact (step acc) (ok (length acc)) (img (length acc)) (λ s x. alike x (put s x))) where
    abbrev Exactly : ℕ → List A → Type 0
    Exactly n acc = Exact (until n step acc) (λ ws. (length ws ≤ n) × RunOk ok (length acc) ws) (run_image img (length acc)) (λ s ws. acc ++ run_puts img put (length acc) s ws)

    longer : (acc : List A) (a : A) → length (acc ++ (a ∷ [])) ≡ suc (length acc)
    longer acc a = rw (length-append acc (a ∷ [])) (omega arith)

    rest_exact : (n : ℕ) (acc : List A) → ((a : A) → Exactly n (acc ++ (a ∷ []))) → (x : Item W) (a : A)
        → Exact (behind (until n step) acc (alike x a)) (RestOk n (suc (length acc)) x) (rest_image (suc (length acc)) x) (λ s ws. (acc ++ (a ∷ [])) ++ rest_puts (suc (length acc)) x s ws)
    rest_exact n acc g (followed w) a = rw (longer acc a) at (g a)
    rest_exact n acc g (last w) a =
        revalue (λ ws. ws ≡ []) (λ ws. []) (λ s ws. (acc ++ (a ∷ [])) ++ []) (give_exact (acc ++ (a ∷ [])))
        (λ u o. ([], refl, refl, λ s. sym (append-nil (acc ++ (a ∷ [])))))
        (λ ws o. (tt, tt, refl, λ s. append-nil (acc ++ (a ∷ []))))

    more : (n i : ℕ) (acc : List A) (x : Item W) (ws : List W) → ok i x → RestOk n (suc i) x ws
        → (vs : List W) × ((length vs ≤ suc n) × RunOk ok i vs) × (img i x ++ rest_image (suc i) x ws ≡ run_image img i vs) × ((s : ℕ) → (acc ++ (put s x ∷ [])) ++ rest_puts (suc i) x (s + length (img i x)) ws ≡ acc ++ run_puts img put i s vs)
    unfolding run_image run_puts
    more n i acc (followed w) [] o (l, r) = absurd r
    more n i acc (followed w) (v ∷ ws) o (l, r) = (w ∷ v ∷ ws, (omega arith, (o, r)), refl, λ s. append_assoc acc (put s (followed w) ∷ []) _)
    more n i acc (last w) ws o r = (w ∷ [], (omega arith, o), append-nil (img i (last w)), λ s. append-nil (acc ++ (put s (last w) ∷ [])))

    less : (n i : ℕ) (acc : List A) (vs : List W) → (length vs ≤ suc n) × RunOk ok i vs
        → (y : Item W × List W) × (ok i y.0 × RestOk n (suc i) y.0 y.1) × (run_image img i vs ≡ img i y.0 ++ rest_image (suc i) y.0 y.1)
        × ((s : ℕ) → acc ++ run_puts img put i s vs ≡ (acc ++ (put s y.0 ∷ [])) ++ rest_puts (suc i) y.0 (s + length (img i y.0)) y.1)
    unfolding run_image run_puts
    less n i acc [] (l, r) = absurd r
    less n i acc (w ∷ []) (l, r) = ((last w, []), (r, refl), sym (append-nil (img i (last w))), λ s. sym (append-nil (acc ++ (put s (last w) ∷ []))))
    less n i acc (w ∷ v ∷ ws) (l, (o, r)) = ((followed w, v ∷ ws), (o, (omega arith, r)), refl, λ s. sym (append_assoc acc (put s (followed w) ∷ []) _))

    until_exact : (n : ℕ) (acc : List A) → Exactly n acc
    unfolding until
    until_exact zero acc = record { sound = λ l s a l' t hb e. more_is_no_success e; complete = λ ws s l o. none ws o }
      where
        none : {C : Type 0} (ws : List W) → (length ws ≤ 0) × RunOk ok (length acc) ws → C
        none [] (l, r) = absurd r
        none (w ∷ ws) (l, r) = absurd (omega arith)
    until_exact (suc n) acc =
        revalue (λ ws. (length ws ≤ suc n) × RunOk ok (length acc) ws) (run_image img (length acc)) (λ s ws. acc ++ run_puts img put (length acc) s ws)
        (seq_exact _ (h acc) λ s x. rest_exact n acc (λ a. until_exact n (acc ++ (a ∷ []))) x (put s x))
        (λ y o. more n (length acc) acc y.0 y.1 o.0 o.1)
        (λ vs o. less n (length acc) acc vs o)

    -- as many values as bytes at most, where each item has a byte
    module _ (some : (i : ℕ) (x : Item W) → ok i x → 0 < length (img i x)) where
      few : (i : ℕ) (ws : List W) → RunOk ok i ws → length ws ≤ length (run_image img i ws)
      unfolding run_image
      few i [] r = absurd r
      few i (w ∷ []) r = let a = some i (last w) r in omega arith
      few i (w ∷ v ∷ ws) (o, r) =
          let a = some i (followed w) o in
          let b = few (suc i) (v ∷ ws) r in
          let c = length-append (img i (followed w)) (run_image img (suc i) (v ∷ ws)) in
          omega arith

      pub run_exact : (acc : List A) → Exact (run step acc) (RunOk ok (length acc)) (run_image img (length acc)) (λ s ws. acc ++ run_puts img put (length acc) s ws)
      unfolding run
      run_exact acc =
          record {
            sound = λ l s a l' t hb e.
                let x = (until_exact (suc (length l)) acc).sound l s a l' t hb e in
                record { value = x.value; good = x.good.1; split = x.split; tail = x.tail; placed = x.placed };
            complete = λ ws s l o.
                let a = few (length acc) ws o in
                let b = length-append (run_image img (length acc) ws) l in
                (until_exact (suc (length (run_image img (length acc) ws ++ l))) acc).complete ws s l (omega arith, o);
          }
