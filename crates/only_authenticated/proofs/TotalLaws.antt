-- Laws of measuring the marked pairs. Assumes nothing.
use Prim.Native.Nat.{ℕ, suc, ◌+◌, ◌*◌, ◌-◌, ◌≤◌, ◌<◌}
use native.Mathlib.Nat.{zero-add, add_assoc, add-zero}
use native.Mathlib.Omega.{arith}
use mathlib.Core.Path.{◌≡◌, refl, sym, ap, ◌∙◌}
use mathlib.Core.List.{List, [], ◌∷◌, ◌++◌}
use lib.ListN.{length, get_or, length-append}
use mathlib.Core.Bool.{Bool, true, false}
use Rattle.format.specs.Serialize.{sum}
use Rattle.format.specs.Fields.{pair_of}
use Rattle.format.specs.Context.{pair_length, linear_length}
use Rattle.format.specs.Places.{number16, entry_end, pair_here, pair_end}
use Rattle.steps.proofs.Numbers.{length_part}
use Rattle.entries.specs.Codes.{EntryIs}
use Rattle.wire.specs.declared.Span.{Span}
use Rattle.format.proofs.Serialize.{sum_append}
use Rattle.pair_index.specs.declared.PairIndex.{PairIndex}
use Rattle.only_authenticated.specs.Marks.{pair_in, StandsAt, marked_at, marked}
use Rattle.only_authenticated.specs.Totals.{Adds}
use Rattle.only_authenticated.specs.declared.putting.Total.{Total}

-- the entries of a pair
pub pair_size : (m : List ℕ) (s : ℕ) → pair_end m s ≤ length m → (k : Span) → EntryIs m s k → (v : Span) → EntryIs m k.tail v → 4 + k.len + v.len ≡ pair_length (pair_of (pair_here m s))
pair_size m s inside k kIs v vIs =
    let a = length_part m (s + 2) (number16 m s) (omega arith) in
    let b = length_part m (entry_end m s + 2) (number16 m (entry_end m s)) inside in
    let c : v.len ≡ number16 m (entry_end m s) = vIs.size ∙ ap (number16 m) kIs.ends in
    omega (arith, kIs.size)

-- a pair of the index
module _ (x : PairIndex) (marks : List Bool) (i : ℕ) where
  pub at_none : get_or marks i false ≡ false → marked_at x marks i ≡ []
  unfolding marked_at
  at_none z = rw z refl

  pub at_some : get_or marks i false ≡ true → marked_at x marks i ≡ pair_in x i ∷ []
  unfolding marked_at
  at_some z = rw z refl

  module _ (t : Total) where
    pub add_none : get_or marks i false ≡ false → Adds (marked_at x marks i) t t
    unfolding sum
    add_none z = rw (at_none z) (record { count = sym (add-zero t.count); size = sym (add-zero t.size) })

    pub add_some : get_or marks i false ≡ true → (s : ℕ) → StandsAt x i s → (n : ℕ) → n ≡ pair_length (pair_of (pair_here x.m.now s)) → (r : Total) → r ≡ record { count = t.count + 1; size = t.size + n }
        → Adds (marked_at x marks i) t r
    unfolding sum
    add_some h s e n f r q = rw (at_some h, q, f, e.is) (record { count = refl; size = ap (λ (y : ℕ). t.size + y) (sym (add-zero _)) })

-- the pairs left
module _ (x : PairIndex) (marks : List Bool) (n i : ℕ) where
  pub marked_step : i < n → marked x marks (n - i) i ≡ marked_at x marks i ++ marked x marks (n - (i + 1)) (i + 1)
  unfolding marked
  marked_step h = let e : n - i ≡ suc (n - (i + 1)) = omega arith in rw e refl

  pub marked_none : n ≤ i → marked x marks (n - i) i ≡ []
  unfolding marked
  marked_none h = let e : n - i ≡ 0 = omega arith in rw e refl

-- the loop that measures
pub record Totals (x : PairIndex) (marks : List Bool) (i : ℕ) (t : Total) : Type 0 where
  pub some : i ≤ x.n
  pub count : length (marked x marks x.n 0) ≡ t.count + length (marked x marks (x.n - i) i)
  pub size : linear_length (marked x marks x.n 0) ≡ t.size + linear_length (marked x marks (x.n - i) i)
  pub few : t.count ≤ i
  pub small : t.size ≤ 131076 * i

module _ (x : PairIndex) (marks : List Bool) (i : ℕ) (t : Total) (inv : Totals x marks i t) where
  pub totals_more : i < x.n → (r : Total) → Adds (marked_at x marks i) t r → r.count ≤ t.count + 1 → r.size ≤ t.size + 131076 → Totals x marks (i + 1) r
  totals_more h r a b c =
      record {
        some = omega arith;
        count = inv.count ∙ rw (marked_step x marks x.n i h, length-append, a.count, add_assoc t.count) refl;
        size = inv.size ∙ rw (marked_step x marks x.n i h, sum_append pair_length (marked_at x marks i), a.size, add_assoc t.size) refl;
        few = omega (arith, inv.few);
        small = omega (arith, inv.small);
      }

  pub totals_end : x.n ≤ i → Adds (marked x marks x.n 0) (record { count = 0; size = 0 }) t
  unfolding sum
  totals_end h =
      record {
        count = sym (rw (zero-add, inv.count, marked_none x marks x.n i h) (add-zero t.count));
        size = sym (rw (zero-add, inv.size, marked_none x marks x.n i h) (add-zero t.size));
      }
