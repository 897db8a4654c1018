-- Laws of writing the marked pairs. Assumes nothing.
use Prim.Native.Nat.{ℕ, ◌+◌, ◌-◌, ◌≤◌, ◌<◌}
use native.Mathlib.Nat.{sub-zero, add-zero}
use native.Mathlib.Omega.{arith}
use mathlib.Core.Path.{◌≡◌, refl, sym, ap, ◌∙◌}
use mathlib.Core.Bool.{Bool, true, false}
use mathlib.Core.List.{List, [], ◌∷◌, ◌++◌, append-nil}
use lib.ListN.{length, get_or, length-append}
use borrow.Author.Tests.{le-leb, lt-leb}
use Rattle.format.specs.Serialize.{write_uint16, write_short_length_seq, images, sum}
use Rattle.format.specs.Fields.{Pair, pair_of}
use Rattle.format.specs.Context.{pair_length, linear_length, write_aad_pair, write_aad_pairs, write_aad, write_empty_ec_or_write_aad}
use Rattle.format.specs.Lent.{bytes_at}
use Rattle.format.specs.Places.{pair_here, pair_end}
use Rattle.format.proofs.Context.{length_pairs}
use Rattle.format.proofs.Serialize.{length_uint16, length_entry, images_append, sum_append}
use Rattle.steps.proofs.Numbers.{length_part}
use Rattle.wire.specs.Codes.{because}
use Rattle.wire.specs.Stored.{stored}
use Rattle.wire.proofs.StoreLaws.{stored_more, length_stored, stored_none}
use Rattle.entries.specs.Codes.{EntryIs}
use Rattle.wire.specs.declared.Span.{Span}
use Rattle.std.specs.Prelude.{Ok, Err}
use Rattle.wire.specs.declared.refusals.Refusal.{Refusal}
use Rattle.checks.proofs.Writers.{stored_first, chain}
use Rattle.pair_index.specs.declared.PairIndex.{PairIndex}
use Rattle.only_authenticated.specs.Codes.{Puts}
use Rattle.only_authenticated.specs.Marks.{StandsAt, marked_at, marked}
use Rattle.only_authenticated.specs.Totals.{Adds}
use Rattle.only_authenticated.specs.declared.putting.Total.{Total}
use Rattle.only_authenticated.proofs.TotalLaws.{pair_size, at_none, at_some, marked_step, marked_none}

-- a pair: two entries, one behind the other
module _ (m : List ℕ) (s : ℕ) (inside : pair_end m s ≤ length m) (k v : Span) (kIs : EntryIs m s k) (vIs : EntryIs m k.tail v) where
  size : 4 + k.len + v.len ≡ pair_length (pair_of (pair_here m s))
  size = pair_size m s inside k kIs v vIs

  module _ (out : List ℕ) (at : ℕ) (room : at + pair_length (pair_of (pair_here m s)) ≤ length out) where
    pub key_room : at + 2 + k.len ≤ length out
    key_room = omega (arith, size)

    pub pair_behind : at + 2 + k.len + 2 + v.len ≡ at + pair_length (pair_of (pair_here m s))
    pair_behind = omega (arith, size)

    pub pair_stored : (o p : List ℕ) → o ≡ stored out at (write_short_length_seq (bytes_at m k.start k.len)) → p ≡ stored o (at + 2 + k.len) (write_short_length_seq (bytes_at m v.start v.len))
        → p ≡ stored out at (write_aad_pair (pair_of (pair_here m s)))
    unfolding write_aad_pair
    pair_stored o p e f =
        let l : length (write_short_length_seq (bytes_at m k.start k.len)) ≡ 2 + k.len = length_entry _ ∙ ap (λ (x : ℕ). 2 + x) (length_part m k.start k.len kIs.within) in
        chain out o p at (at + 2 + k.len) _ _ e (omega arith) f (omega (arith, size))
        ∙ rw (kIs.starts, kIs.size, vIs.starts, vIs.size, kIs.ends) refl

-- a pair of the index, if its place is marked
module _ (x : PairIndex) (marks : List Bool) (i at : ℕ) where
  pub none_behind : get_or marks i false ≡ false → at ≡ at + linear_length (marked_at x marks i)
  unfolding sum
  none_behind z = rw (at_none x marks i z) (sym (add-zero at))

  pub none_stored : get_or marks i false ≡ false → (out : List ℕ) → out ≡ stored out at (write_aad_pairs (marked_at x marks i))
  unfolding write_aad_pairs images
  none_stored z out = rw (at_none x marks i z) (stored_none out at)

  module _ (h : get_or marks i false ≡ true) (s : ℕ) (e : StandsAt x i s) where
    size_some : pair_length (pair_of (pair_here x.m.now s)) ≡ linear_length (marked_at x marks i)
    unfolding sum
    size_some = rw (at_some x marks i h, e.is) (sym (add-zero _))

    pub some_room : (out : List ℕ) → at + linear_length (marked_at x marks i) ≤ length out → at + pair_length (pair_of (pair_here x.m.now s)) ≤ length out
    some_room out r = rw size_some r

    pub some_behind : (y : ℕ) → y ≡ at + pair_length (pair_of (pair_here x.m.now s)) → y ≡ at + linear_length (marked_at x marks i)
    some_behind y f = f ∙ ap (λ (z : ℕ). at + z) size_some

    pub some_stored : (out o : List ℕ) → o ≡ stored out at (write_aad_pair (pair_of (pair_here x.m.now s))) → o ≡ stored out at (write_aad_pairs (marked_at x marks i))
    unfolding write_aad_pairs images
    some_stored out o f = f ∙ rw (at_some x marks i h, e.is, append-nil) refl

-- the loop that writes: what it will write is what is left to write
pub record Putting (x : PairIndex) (marks : List Bool) (out₀ out : List ℕ) (from i at : ℕ) : Type 0 where
  pub some : i ≤ x.n
  pub long : length out ≡ length out₀
  pub left : at + linear_length (marked x marks (x.n - i) i) ≤ length out
  pub same : stored out₀ from (write_aad_pairs (marked x marks x.n 0)) ≡ stored out at (write_aad_pairs (marked x marks (x.n - i) i))

pub putting_start : (x : PairIndex) (marks : List Bool) (out : List ℕ) (from : ℕ) → from + linear_length (marked x marks x.n 0) ≤ length out → Putting x marks out out from 0 from
putting_start x marks out from h = record { some = omega arith; long = refl; left = rw sub-zero h; same = rw sub-zero refl }

module _ (x : PairIndex) (marks : List Bool) (out₀ out : List ℕ) (from i at : ℕ) (p : Putting x marks out₀ out from i at) where
  more_left : i < x.n → at + (linear_length (marked_at x marks i) + linear_length (marked x marks (x.n - (i + 1)) (i + 1))) ≤ length out
  more_left h = rw (marked_step x marks x.n i h, sum_append pair_length (marked_at x marks i)) at p.left

  pub putting_room : i < x.n → at + linear_length (marked_at x marks i) ≤ length out
  putting_room h = omega (arith, more_left h)

  pub putting_more : i < x.n → (at' : ℕ) → at' ≡ at + linear_length (marked_at x marks i) → (out' : List ℕ) → out' ≡ stored out at (write_aad_pairs (marked_at x marks i)) → Putting x marks out₀ out' from (i + 1) at'
  unfolding write_aad_pairs
  putting_more h at' f out' e =
      let one = marked_at x marks i in
      let rest = marked x marks (x.n - (i + 1)) (i + 1) in
      let m = more_left h in
      let l : length (write_aad_pairs one) ≡ linear_length one = length_pairs one in
      let fit : at + length (write_aad_pairs one) ≤ length out = omega arith in
      let long : length out' ≡ length out = ap length e ∙ length_stored out at (write_aad_pairs one) fit in
      record {
        some = omega arith;
        long = long ∙ p.long;
        left = omega arith;
        same = p.same ∙ rw (marked_step x marks x.n i h, images_append write_aad_pair one rest) (sym (rw e (stored_more out at (write_aad_pairs one) (write_aad_pairs rest) at' (omega arith) fit)));
      }

  pub putting_end : x.n ≤ i → out ≡ stored out₀ from (write_aad_pairs (marked x marks x.n 0))
  unfolding write_aad_pairs images
  putting_end h = sym (p.same ∙ rw (marked_none x marks x.n i h) (sym (stored_none out at)))

-- all of it, by how many pairs there are
module _ (ps : List Pair) (t : Total) (adds : Adds ps (record { count = 0; size = 0 }) t) (out : List ℕ) where
  few : t.count ≡ length ps
  few = adds.count ∙ omega arith

  long : t.size ≡ linear_length ps
  long = adds.size ∙ omega arith

  pub puts_none : t.count ≡ 0 → Puts (write_empty_ec_or_write_aad ps) out out (Ok 0)
  unfolding write_empty_ec_or_write_aad
  puts_none z = none ps (sym few ∙ z)
    where
      none : (qs : List Pair) → length qs ≡ 0 → Puts (write_empty_ec_or_write_aad qs) out out (Ok 0)
      none [] e = let z = le-leb 0 (length out) (omega arith) in record { answer = rw z refl; output = rw z refl }
      none (q ∷ qs) e = absurd (omega arith)

  module _ (h : t.count ≡ 0 → ⊥) where
    image : write_empty_ec_or_write_aad ps ≡ write_uint16 (length ps) ++ write_aad_pairs ps
    unfolding write_empty_ec_or_write_aad write_aad
    image = some ps (λ e. h (few ∙ e))
      where
        some : (qs : List Pair) → (length qs ≡ 0 → ⊥) → write_empty_ec_or_write_aad qs ≡ write_uint16 (length qs) ++ write_aad_pairs qs
        some [] k = absurd (k refl)
        some (q ∷ qs) k = refl

    sized : length (write_empty_ec_or_write_aad ps) ≡ 2 + t.size
    sized = rw (image, length-append, length_uint16, length_pairs ps, long) refl

    pub puts_28 : length out < 2 + t.size → (q : Refusal) → q ≡ because 28 0 → Puts (write_empty_ec_or_write_aad ps) out out (Err q)
    puts_28 k q e = let z = lt-leb (length (write_empty_ec_or_write_aad ps)) (length out) (rw sized k) in record { answer = rw (e, z) refl; output = rw z refl }

    pub puts_whole : 2 + t.size ≤ length out → (o p : List ℕ) → o ≡ stored out 0 (write_uint16 t.count) → p ≡ stored o 2 (write_aad_pairs ps) → Puts (write_empty_ec_or_write_aad ps) out p (Ok (2 + t.size))
    puts_whole k o p e f =
        let z = le-leb (length (write_empty_ec_or_write_aad ps)) (length out) (rw sized k) in
        let c = length_uint16 t.count in
        let all : p ≡ stored out 0 (write_uint16 t.count ++ write_aad_pairs ps) = chain out o p 0 2 (write_uint16 t.count) (write_aad_pairs ps) e (omega arith) f (omega arith) in
        record { answer = rw (z, sized) refl; output = all ∙ rw (few, ← image, z) (stored_first out (write_empty_ec_or_write_aad ps)) }
