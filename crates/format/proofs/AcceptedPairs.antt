-- Which lists of pairs are accepted, said without an order: so both of two that are joined are accepted where the joined list is, and a
-- rearrangement where the list is. Assumes nothing.
use mathlib.Core.Path.{◌≡◌, refl, sym, ◌∙◌}
use mathlib.Core.HLevel.{¬_prop}
use mathlib.Core.Bool.{Bool, true, false, ◌&&◌}
use mathlib.Core.List.Memᴰ
use mathlib.Core.List.Permᴰ
use mathlib.Core.List.{List, [], ◌∷◌, ◌++◌, Pairwise, Pairwise-append}
use Prim.Native.Nat.{suc, ◌≤◌, ◌<◌}
use native.Mathlib.Omega.{arith}
use lib.Dec.{ltb}
use lib.ListN.{length, length-append}
use Rattle.format.specs.Serialize.{every}
use Rattle.format.specs.Utf8.{valid_utf8_seq}
use Rattle.format.specs.Fields.{Pair, pair_parts}
use Rattle.format.specs.Context.{seen, pair_length, linear_length, pairs_limit}
use Rattle.format.specs.Checks.{check, each, has_uint16_len, pair_checks, pairs_checks}
use Rattle.format.specs.Arrangement.{Rearranged, Accepted}
use Rattle.format.proofs.Tests.{fails, leb_is, is_leb}
use Rattle.format.proofs.Firsts.{holds, unheld, split, join, both, and}
use Rattle.format.proofs.Serialize.{sum_append, every_append, every_images}
use Rattle.format.proofs.Find.{member_seen, seen_member, contrary}
use Rattle.format.proofs.Rearranged.{same_length, same_sum, same_every}
use Rattle.format.proofs.Beside.{Says, each_then, then_each}

-- a pair by itself, and two beside each other
abbrev short : Pair → Bool
short p = every has_uint16_len (pair_parts p)

abbrev texts : Pair → Bool
texts p = valid_utf8_seq p.key && valid_utf8_seq p.value

abbrev pub OtherKey : Pair → Pair → Type 0
OtherKey p q = p.key ≡ q.key → ⊥

other_key_prop : (p q : Pair) → IsProp (OtherKey p q)
other_key_prop p q = ¬_prop

pair_says : Says pair_checks texts OtherKey
pair_says =
    record {
      onward = λ done p (a, (b, (c, h))). (and a b, λ q m e. contrary (member_seen p.key q done m (sym e)) c);
      back = λ done p t apart.
          (let (a, b) = both (valid_utf8_seq p.key) (valid_utf8_seq p.value) t in
          let new : seen p.key done ≡ false = fails (seen p.key done) (λ e. let (q, m, is) = seen_member p.key done e in apart q m (sym is)) in
          (a, (b, (rw new refl, tt))));
    }

pub record Good (ps : List Pair) : Type 0 where
  pub few : length ps ≤ 65535
  pub all_short : every short ps ≡ true
  pub all_texts : every texts ps ≡ true
  pub differ : Pairwise OtherKey ps
  pub room : linear_length ps < pairs_limit

pub good : (ps : List Pair) → Accepted ps → Good ps
unfolding pairs_checks
good ps a =
    let (n, (s, h)) = holds (pairs_checks ps) a in
    let (e, r) = split (each pair_checks [] ps) (check 13 (ltb (linear_length ps) pairs_limit) ∷ []) h in
    let (t, apart, pairs) = each_then pair_checks texts OtherKey other_key_prop pair_says [] ps e in
    record {
      few = is_leb (length ps) 65535 n;
      all_short = sym (every_images has_uint16_len pair_parts ps) ∙ s;
      all_texts = t;
      differ = pairs;
      room = is_leb (suc (linear_length ps)) pairs_limit r.0;
    }

pub accepted_if : (ps : List Pair) → Good ps → Accepted ps
unfolding pairs_checks
accepted_if ps g =
    let e = then_each pair_checks texts OtherKey other_key_prop pair_says [] ps g.all_texts (λ x y m i. absurd (Memᴰ.not-nil i)) g.differ in
    unheld (pairs_checks ps) (
      leb_is (length ps) 65535 g.few,
      (every_images has_uint16_len pair_parts ps ∙ g.all_short, join (each pair_checks [] ps) _ e (leb_is (suc (linear_length ps)) pairs_limit g.room, tt)),
    )

pub both_good : (ps qs : List Pair) → Good (ps ++ qs) → Good ps × Good qs
both_good ps qs g =
    let n = length-append ps qs in
    let few = g.few in
    let s = both (every short ps) (every short qs) (sym (every_append short ps qs) ∙ g.all_short) in
    let t = both (every texts ps) (every texts qs) (sym (every_append texts ps qs) ∙ g.all_texts) in
    let d = (Pairwise-append other_key_prop {l₁ = ps} {l₂ = qs}).0 g.differ in
    let r = sum_append pair_length ps qs in
    let room = g.room in (
      record { few = omega arith; all_short = s.0; all_texts = t.0; differ = d.0; room = omega arith },
      record { few = omega arith; all_short = s.1; all_texts = t.1; differ = d.1; room = omega arith },
    )

pub rearranged_good : {ps qs : List Pair} → Rearranged ps qs → Good ps → Good qs
rearranged_good h g =
    let n = same_length h in
    let few = g.few in
    let r = same_sum pair_length h in
    let room = g.room in
    record {
      few = omega arith;
      all_short = sym (same_every short h) ∙ g.all_short;
      all_texts = sym (same_every texts h) ∙ g.all_texts;
      differ = Permᴰ.pairwise other_key_prop (λ p q d e. d (sym e)) h g.differ;
      room = omega arith;
    }
