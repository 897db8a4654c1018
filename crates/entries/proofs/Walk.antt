-- A counted loop over items: what is left of it, read from here, is the whole, read from the start. Assumes nothing.
use mathlib.Core.Path.{◌≡◌, refl, sym, ap, ◌∙◌}
use mathlib.Core.List.{List, [], ◌∷◌, ◌++◌, append_assoc, append-nil}
use Prim.Native.Nat.{ℕ, zero, suc, ◌+◌, ◌-◌, ◌≤◌, ◌<◌}
use native.Mathlib.Nat.{sub-zero}
use native.Mathlib.Numerals.{add-one}
use native.Mathlib.Omega.{arith}
use lib.ListN.{length}
use Rattle.std.specs.Prelude.{Result, Ok, Err}
use Rattle.format.specs.Read.{Reader, accepted, repeat, at}
use Rattle.steps.proofs.Tidy.{Tidy}
use Rattle.steps.proofs.Steps.{un_return, un_repeat, all_read, one_more, one_stops}
use Rattle.wire.specs.declared.refusals.Refusal.{Refusal}
use Rattle.format.specs.Places.{items_here, items_end}
use Rattle.entries.specs.Codes.{next_of}
use Rattle.entries.specs.Walk.{Walk}
use Rattle.entries.proofs.Items.{one_less, here_length, here_snoc, end_snoc}
use Rattle.entries.proofs.Answers.{next_got, next_no}

-- the item read is what stands there
pub record Known {A : Type 0} (here : List ℕ → ℕ → A) (end : List ℕ → ℕ → ℕ) (m : List ℕ) (s : ℕ) (a : A) (t : ℕ) : Type 0 where
  pub is : a ≡ here m s
  pub tail : t ≡ end m s
  pub within : t ≤ length m

-- a reader of such items, each in the light of those before it
pub record Kind {A : Type 0} (step : List A → Reader A) (here : List ℕ → ℕ → A) (end : List ℕ → ℕ → ℕ) : Type 0 where
  pub tidy : (acc : List A) → Tidy (step acc)
  pub known : (acc : List A) (m : List ℕ) (s : ℕ) (a : A) (t : ℕ) → at (step acc) m s ≡ accepted a t → Known here end m s a t

-- n of them
pub record Run {A : Type 0} (here : List ℕ → ℕ → A) (end : List ℕ → ℕ → ℕ) (m : List ℕ) (n s : ℕ) (acc out : List A) (t : ℕ) : Type 0 where
  pub are : out ≡ acc ++ items_here here end m n s
  pub tail : t ≡ items_end end m n s
  pub within : t ≤ length m

module _ {A : Type 0} {step : List A → Reader A} {here : List ℕ → ℕ → A} {end : List ℕ → ℕ → ℕ} (kind : Kind step here end) (m : List ℕ) where
  run_known : (n : ℕ) (acc : List A) (s : ℕ) → s ≤ length m → (out : List A) (t : ℕ) → at (repeat n step acc) m s ≡ accepted out t → Run here end m n s acc out t
  unfolding repeat items_here items_end
  run_known zero acc s h out t e =
      let z = un_return acc m s out t e in
      record { are = z.0 ∙ sym (append-nil acc); tail = z.1; within = omega (arith, z.1) }
  run_known (suc n) acc s h out t e =
      let z = un_repeat step kind.tidy m n acc s out t e in
      let p = kind.known acc m s z.0 z.1 z.2 in
      let r = run_known n (acc ++ (z.0 ∷ [])) z.1 p.within out t z.3 in
      record {
        are = r.are ∙ append_assoc acc (z.0 ∷ []) (items_here here end m n z.1) ∙ rw (p.is, p.tail);
        tail = r.tail ∙ rw p.tail;
        within = r.within;
      }

  pub all_known : (n s : ℕ) → s ≤ length m → (out : List A) (t : ℕ) → at (repeat n step []) m s ≡ accepted out t → Run here end m n s [] out t
  all_known n s h out t e = run_known n [] s h out t e

  pub all_length : (n s : ℕ) → s ≤ length m → (out : List A) (t : ℕ) → at (repeat n step []) m s ≡ accepted out t → length out ≡ n
  all_length n s h out t e = ap length (run_known n [] s h out t e).are ∙ here_length here end m n s

module _ {A : Type 0} {step : List A → Reader A} {here : List ℕ → ℕ → A} {end : List ℕ → ℕ → ℕ} where
  pub walk_start : (m : List ℕ) (first n : ℕ) → first ≤ length m → Walk step here end m first n 0 first
  unfolding items_here items_end
  walk_start m first n h = record { some = omega arith; reached = refl; inside = h; left = rw sub-zero }

  module _ (m : List ℕ) (first n i s : ℕ) (w : Walk step here end m first n i s) where
    pub walk_near : length m < 4294967296 → s < 4294967296
    walk_near h = let y = w.inside in omega arith

    module _ (kind : Kind step here end) where
      pub walk_end : n ≤ i → ◌≡◌ {A = Result ℕ Refusal} (Ok s) (next_of (at (repeat n step []) m first))
      walk_end h = let e : n - i ≡ 0 = omega arith in rw (w.left, e, all_read step kind.tidy m (items_here here end m i first) s)

      module _ (h : i < n) (a : Result ℕ Refusal) (is : a ≡ next_of (at (step (items_here here end m i first)) m s)) where
        pub walk_stop : (q : Refusal) → a ≡ Err q → ◌≡◌ {A = Result ℕ Refusal} (Err q) (next_of (at (repeat n step []) m first))
        walk_stop q b =
            rw (w.left, one_less n i h, one_stops step kind.tidy m (n - (i + 1)) (items_here here end m i first) s _ _ (next_no (at (step (items_here here end m i first)) m s) a is q b))

        pub walk_more : (t : ℕ) → a ≡ Ok t → Walk step here end m first n (i + 1) t
        walk_more t b =
            let g = next_got (at (step (items_here here end m i first)) m s) a is t b in
            let p = kind.known (items_here here end m i first) m s g.item t g.is in
            let longer : items_here here end m (i + 1) first ≡ items_here here end m i first ++ (g.item ∷ []) = rw (add-one, here_snoc here end m i first, ← w.reached, p.is) in
            record {
              some = omega arith;
              reached = rw (add-one, end_snoc end m i first, ← w.reached) p.tail;
              inside = p.within;
              left = w.left ∙ rw (one_less n i h, longer) (one_more step kind.tidy m (n - (i + 1)) (items_here here end m i first) s g.item t g.is);
            }
