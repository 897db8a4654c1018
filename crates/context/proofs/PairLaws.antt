-- The ways out of the functions that read pairs, one law each. Assumes nothing.
use mathlib.Core.Path.{◌≡◌, refl, sym, ap, subst, ◌∙◌}
use mathlib.Core.Bool.{Bool, true, false, not}
use mathlib.Core.List.{List, []}
use Prim.Native.Nat.{ℕ, zero, suc, ◌+◌, ◌*◌, ◌≤◌, ◌<◌}
use native.Mathlib.Numerals.{add-one}
use native.Mathlib.Omega.{arith}
use borrow.Author.Tests.{ltb-true, ltb-false}
use lib.Dec.{ltb}
use lib.ListN.{length}
use Rattle.std.specs.Prelude.{Result, Ok, Err}
use Rattle.format.specs.Read.{end_at, accepted, repeat, at}
use Rattle.format.specs.Fields.{PairAt}
use Rattle.format.specs.Context.{read_text, read_aad_pair, read_next_aad_pair}
use Rattle.format.specs.Places.{number16, items_end, pair_here, pair_end, pairs_end}
use Rattle.steps.proofs.Tidy.{text_tidy}
use Rattle.steps.proofs.Steps.{go, stop, pass, fail, gives}
use Rattle.wire.specs.Codes.{because, span_of}
use Rattle.wire.specs.declared.refusals.Refusal.{Refusal}
use Rattle.wire.specs.declared.Span.{Span}
use Rattle.wire.proofs.Answers.{span_no}
use Rattle.wire.proofs.Stood.{Stood, text_stood}
use Rattle.entries.specs.Codes.{next_of}
use Rattle.entries.proofs.Answers.{next_got, next_no}
use Rattle.entries.proofs.Items.{reach}
use Rattle.entries.proofs.Walk.{walk_start, walk_end, walk_stop, walk_more}
use Rattle.index.specs.Index.{Copied}
use Rattle.pair_index.specs.Index.{Ready, Added}
use Rattle.pair_index.proofs.SeenLaws.{indexed_start, indexed_copied}
use Rattle.context.specs.Stepping.{Space, Onward, Grown, After, Stepped, Reached, UpTo, ReadUpTo, Lendable, HasRoom, AfterAll, ReadAll}
use Rattle.context.proofs.Known.{pair_tidy, pair_known, pair_held, pair_kind, forward}

-- a key and a value
module _ (m : List ℕ) (s end : ℕ) (k : Result Span Refusal) (kIs : k ≡ span_of (at (read_text (end_at end) 10) m s)) where
  pub pair_no_key : (q : Refusal) → k ≡ Err q → ◌≡◌ {A = Result ℕ Refusal} (Err q) (next_of (at (read_aad_pair (end_at end)) m s))
  unfolding read_aad_pair
  pair_no_key q b = rw (stop _ (text_tidy (end_at end) 10) m s _ _ (span_no (at (read_text (end_at end) 10) m s) k kIs q b))

  module _ (key : Span) (kb : k ≡ Ok key) (v : Result Span Refusal) (vIs : v ≡ span_of (at (read_text (end_at end) 11) m key.tail)) where
    ks : Stood (at (read_text (end_at end) 10) m s) m (s + 2) (number16 m s) key
    ks = text_stood m s k key kb (end_at end) 10 kIs

    pub pair_no_value : (q : Refusal) → v ≡ Err q → ◌≡◌ {A = Result ℕ Refusal} (Err q) (next_of (at (read_aad_pair (end_at end)) m s))
    unfolding read_aad_pair
    pair_no_value q b =
        rw (
          go _ (text_tidy (end_at end) 10) m s _ key.tail ks.is,
          stop _ (text_tidy (end_at end) 11) m key.tail _ _ (span_no (at (read_text (end_at end) 11) m key.tail) v vIs q b),
        )

    pub pair_whole : (value : Span) → v ≡ Ok value → ◌≡◌ {A = Result ℕ Refusal} (Ok value.tail) (next_of (at (read_aad_pair (end_at end)) m s))
    unfolding read_aad_pair
    pair_whole value b =
        let vs = text_stood m key.tail v value b (end_at end) 11 vIs in
        rw (go _ (text_tidy (end_at end) 10) m s _ key.tail ks.is, go _ (text_tidy (end_at end) 11) m key.tail _ value.tail vs.is, gives _ m value.tail)

-- where a pair stands
record Stands (m : List ℕ) (s end t : ℕ) : Type 0 where
  is : at (read_aad_pair (end_at end)) m s ≡ accepted (pair_here m s) t
  tail : t ≡ pair_end m s
  within : t ≤ length m
  held : t ≤ end

stands : (m : List ℕ) (s end : ℕ) (x : Result ℕ Refusal) → x ≡ next_of (at (read_aad_pair (end_at end)) m s) → (t : ℕ) → x ≡ Ok t → Stands m s end t
stands m s end x xIs t b =
    let g = next_got (at (read_aad_pair (end_at end)) m s) x xIs t b in
    let p = pair_known (end_at end) m s g.item t g.is in
    record { is = g.is ∙ ap (λ (a : PairAt). accepted a t) p.is; tail = p.tail; within = p.within; held = pair_held end m s g.item t g.is }

-- a pair behind others
module _ (m : List ℕ) (first end n s : ℕ) (x : Result ℕ Refusal) (xIs : x ≡ next_of (at (read_aad_pair (end_at end)) m s)) where
  pub step_none : (keys : List ℕ) (q : Refusal) → x ≡ Err q → Stepped m first end n s keys (Err q)
  unfolding read_next_aad_pair
  step_none keys q b =
      record {
        answer = sym (ap next_of (stop _ (pair_tidy (end_at end)) m s _ _ (next_no (at (read_aad_pair (end_at end)) m s) x xIs q b)));
        after = tt;
      }

  module _ (t : ℕ) (b : x ≡ Ok t) (keys₀ : List ℕ) (on : Onward m first end n s keys₀) where
    there : Stands m s end t
    there = stands m s end x xIs t b

    pub step_ready : Ready m first n s keys₀
    step_ready =
        let y = there in
        record {
          near = omega (arith, on.held, on.space.near);
          behind = omega (arith, on.here, reach pair_end m (forward m) n first);
          here = on.here;
          inside = omega arith;
          room = on.room;
          indexed = on.index;
        }

    module _ (keys : List ℕ) (d : Bool) (added : Added m first n s keys d) where
      pub step_seen : d ≡ true → (q : Refusal) → q ≡ because 12 0 → Stepped m first end n s keys (Err q)
      unfolding read_next_aad_pair
      step_seen e q f =
          record {
            answer = rw (f, go _ (pair_tidy (end_at end)) m s (pair_here m s) t there.is, fail 12 _ _ m t (ap not (sym added.answer ∙ e)));
            after = tt;
          }

      pub step_whole : d ≡ false → Stepped m first end n s keys (Ok t)
      unfolding read_next_aad_pair
      step_whole e =
          record {
            answer = rw (go _ (pair_tidy (end_at end)) m s (pair_here m s) t there.is, pass 12 _ _ m t (ap not (sym added.answer ∙ e)), gives _ m t);
            after = record { index = added.after e; held = there.held };
          }

-- a pair takes four bytes or more
four_each : (m : List ℕ) (n first : ℕ) → first + 4 * n ≤ pairs_end m n first
unfolding items_end
four_each m zero first = omega arith
four_each m (suc n) first = omega (arith, four_each m n (pair_end m first))

-- the loop over the pairs: i of n are read, on the way to k
pub record Pass (m : List ℕ) (first end n k : ℕ) (keys₀ keys : List ℕ) (i s : ℕ) : Type 0 where
  pub reached : Reached m first end n i s keys
  pub some : i ≤ k
  pub most : k ≤ n
  pub long : length keys ≡ length keys₀
  pub room : length keys₀ < 16384 → k ≤ length keys₀

pub pass_start : (m : List ℕ) (first end n k : ℕ) (keys : List ℕ) (i s : ℕ) → Reached m first end n i s keys → i ≤ k → k ≤ n → (length keys < 16384 → k ≤ length keys) → Pass m first end n k keys keys i s
pass_start m first end n k keys i s there h g room = record { reached = there; some = h; most = g; long = refl; room = room }

module _ (m : List ℕ) (first end n k : ℕ) (keys₀ keys : List ℕ) (i s : ℕ) (inv : Pass m first end n k keys₀ keys i s) where
  pub pass_end : k ≤ i → ReadUpTo m first end n k keys (Ok s)
  pass_end h = let e : i ≡ k = omega (arith, inv.some) in record { up_to = subst (λ (j : ℕ). Reached m first end n j s keys) e inv.reached }

  module _ (h : i < k) where
    few : i < 16384
    few = let y = inv.reached.walk in omega (arith, four_each m i first, inv.reached.held, inv.reached.space.near)

    roomy : i < length keys
    roomy = go (ltb (length keys₀) 16384) refl
      where
        go : (t : Bool) → ltb (length keys₀) 16384 ≡ t → i < length keys
        go true e = omega (arith, inv.room (ltb-true (length keys₀) 16384 e), inv.long)
        go false e = omega (arith, few, inv.long, ltb-false (length keys₀) 16384 e)

    pub pass_on : Onward m first end i s keys
    pass_on =
        let y = inv.reached in
        record { space = y.space; here = y.walk.reached; held = y.held; room = roomy; index = y.index }

    below : i < n
    below = omega (arith, inv.most)

    module _ (a : Result ℕ Refusal) (keys' : List ℕ) (step : Stepped m first end i s keys' a) where
      pub pass_stop : (q : Refusal) → a ≡ Err q → ReadUpTo m first end n k keys' (Err q)
      pass_stop q e = record { up_to = walk_stop m first n i s inv.reached.walk (pair_kind (end_at end)) below a step.answer q e }

      pub pass_more : (t : ℕ) → a ≡ Ok t → length keys' ≡ length keys → Pass m first end n k keys₀ keys' (i + 1) t
      pass_more t e l =
          let grown : Grown m first end i keys' t = subst (After m first end i keys') e step.after in
          record {
            reached = record { space = inv.reached.space; walk = walk_more m first n i s inv.reached.walk (pair_kind (end_at end)) below a step.answer t e; held = grown.held; room = omega (arith, roomy); index = rw add-one grown.index };
            some = omega arith;
            most = inv.most;
            long = l ∙ inv.long;
            room = inv.room;
          }

-- the reading as a whole, with one index after another
pub reached_start : (m : List ℕ) (first end n : ℕ) (keys : List ℕ) → Space m first end → first ≤ end → Reached m first end n 0 first keys
reached_start m first end n keys space h = record { space = space; walk = walk_start m first n (omega (arith, space.inside)); held = h; room = omega arith; index = indexed_start m first keys }

module _ (m : List ℕ) (first end n i s : ℕ) (keys : List ℕ) (there : Reached m first end n i s keys) where
  pub reached_some : i ≤ n
  reached_some = there.walk.some

  pub reached_room : i ≤ length keys
  reached_room = there.room

  pub reached_copied : (larger : List ℕ) → Copied keys larger → Reached m first end n i s larger
  reached_copied larger c =
      record {
        space = there.space;
        walk = there.walk;
        held = there.held;
        room = omega (arith, there.room, c.longer);
        index = indexed_copied m first i keys larger there.index there.room c;
      }

module _ (m : List ℕ) (first end n i : ℕ) (keys : List ℕ) (r : Result ℕ Refusal) (h : ReadUpTo m first end n i keys r) where
  pub up_to_stop : (q : Refusal) → r ≡ Err q → ◌≡◌ {A = Result ℕ Refusal} (Err q) (next_of (at (repeat n (read_next_aad_pair (end_at end)) []) m first))
  up_to_stop q e = subst (UpTo m first end n i keys) e h.up_to

  module _ (s : ℕ) (e : r ≡ Ok s) where
    pub up_to_reached : Reached m first end n i s keys
    up_to_reached = subst (UpTo m first end n i keys) e h.up_to

    pub up_to_grown : (larger : List ℕ) → Copied keys larger → Reached m first end n i s larger
    up_to_grown larger c = reached_copied m first end n i s keys up_to_reached larger c

    pub up_to_end : i ≡ n → ◌≡◌ {A = Result ℕ Refusal} (Ok s) (next_of (at (repeat n (read_next_aad_pair (end_at end)) []) m first))
    up_to_end f = walk_end m first n i s up_to_reached.walk (pair_kind (end_at end)) (omega arith)

pub up_to_all : (m : List ℕ) (first end n : ℕ) (keys : List ℕ) (r : Result ℕ Refusal) → ReadUpTo m first end n n keys r → r ≡ next_of (at (repeat n (read_next_aad_pair (end_at end)) []) m first)
up_to_all m first end n keys r h = go r refl
  where
    go : (x : Result ℕ Refusal) → r ≡ x → r ≡ next_of (at (repeat n (read_next_aad_pair (end_at end)) []) m first)
    go (Ok s) e = e ∙ up_to_end m first end n n keys r h s e refl
    go (Err q) e = e ∙ up_to_stop m first end n n keys r h q e

-- the index afterwards
all_after : (m : List ℕ) (first end n room : ℕ) (keys : List ℕ) (r : Result ℕ Refusal) → ReadUpTo m first end n n keys r → AfterAll m first n room keys r
all_after m first end n room keys r h = go r refl
  where
    go : (x : Result ℕ Refusal) → r ≡ x → AfterAll m first n room keys r
    go (Ok s) e = subst (AfterAll m first n room keys) (sym e) (λ _. let y = up_to_reached m first end n n keys r h s e in record { room = y.room; indexed = y.index })
    go (Err q) e = subst (AfterAll m first n room keys) (sym e) tt

pub all_indexed : (m : List ℕ) (first end n room : ℕ) (keys : List ℕ) (r : Result ℕ Refusal) → ReadUpTo m first end n n keys r → ReadAll m first end n room keys r
all_indexed m first end n room keys r h = record { answer = up_to_all m first end n keys r h; after = all_after m first end n room keys r h }

-- and an index that has no room for them promises nothing
pub all_grown : (m : List ℕ) (first end n room : ℕ) (keys : List ℕ) (r : Result ℕ Refusal) → room < 16384 → room < n → r ≡ next_of (at (repeat n (read_next_aad_pair (end_at end)) []) m first) → ReadAll m first end n room keys r
all_grown m first end n room keys r few less e = record { answer = e; after = go r }
  where
    go : (x : Result ℕ Refusal) → AfterAll m first n room keys x
    go (Ok s) = λ h. absurd (omega (arith, h few))
    go (Err q) = tt

-- whether there is room
module _ (room n : ℕ) (r : Bool) (h : HasRoom room n r) where
  pub room_enough : r ≡ true → room < 16384 → n ≤ room
  room_enough = h.enough

  pub room_small : r ≡ false → room < 16384
  room_small = h.small

  pub room_less : r ≡ false → room < n
  room_less = h.less

-- indexes that are lent
pub lent_small : (room : ℕ) → room ≤ 512 → Lendable room
lent_small room h = record { grows = λ _. h }

pub lent_largest : (room : ℕ) → 16384 ≤ room → Lendable room
lent_largest room h = record { grows = λ k. absurd (omega arith) }

pub lent_grows : (room : ℕ) → Lendable room → room < 16384 → room ≤ 512
lent_grows room h = h.grows
