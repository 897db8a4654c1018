-- The ways out of the functions that find a value, one law each. Assumes nothing.
use mathlib.Core.Path.{◌≡◌, refl, sym, ap, subst, ◌∙◌}
use mathlib.Core.Bool.{Bool, true, false, cond}
use mathlib.Core.List.{List, [], ◌∷◌}
use Prim.Native.Nat.{ℕ, zero, suc, ◌+◌, ◌-◌, ◌≤◌, ◌<◌}
use native.Mathlib.Nat.{sub-zero}
use native.Mathlib.Omega.{arith}
use denote.Ref.{Bor}
use lib.ListN.{length, take, drop}
use Rattle.std.specs.Prelude.{Result, Ok, Err}
use Rattle.format.specs.Read.{accepted, refused, at, operation}
use Rattle.format.specs.Serialize.{Part, same_bytes}
use Rattle.format.specs.Fields.{PairAt}
use Rattle.format.specs.Context.{tolerant, read_aad_section, look_up, find_value}
use Rattle.format.specs.Lent.{bytes_at, found_part}
use Rattle.format.specs.Places.{number16, part_of, entry_here, entry_end, items_here, items_end, pair_here, pair_end, pairs_here, pairs_end}
use Rattle.steps.proofs.Steps.{refused_is_none, go, stop, un_bind}
use Rattle.steps.proofs.Numbers.{length_part}
use Rattle.steps.proofs.Operations.{un_operation, operation_guarded}
use Rattle.wire.specs.Codes.{because}
use Rattle.wire.specs.declared.refusals.Refusal.{Refusal}
use Rattle.wire.specs.declared.SuccessfulRead.{SuccessfulRead}
use Rattle.wire.specs.declared.Span.{Span}
use Rattle.wire.specs.Buffer.{from, Opens}
use Rattle.wire.specs.declared.buffer.ReadableBuffer.{ReadableBuffer}
use Rattle.wire.proofs.BufferLaws.{operation_from, why}
use Rattle.entries.specs.Codes.{EntryIs, counted}
use Rattle.entries.proofs.Sections.{counted_no}
use Rattle.entries.proofs.Items.{reach, end_step, here_step}
use Rattle.context.specs.Codes.{found_of, found_in, PartOf}
use Rattle.context.specs.declared.Place.{Place}
use Rattle.request.specs.declared.Mode.TheVariants.{Tolerant}
use Rattle.context.proofs.Answers.{HadValue, found_got, found_no}
use Rattle.context.proofs.Known.{forward, section_tidy, section_known}
use Rattle.context.proofs.Whole.{Had, had}

-- the search in pairs, by the definition
module _ (k m : List ℕ) (t : ℕ) where
  up_none : at (look_up k []) m t ≡ refused 29 0
  unfolding at look_up
  up_none = refl

  module _ (p : PairAt) (ps : List PairAt) where
    up_hit : same_bytes k p.key.bytes ≡ true → at (look_up k (p ∷ ps)) m t ≡ accepted p.value t
    unfolding at look_up
    up_hit e = rw (e, look_up)

    up_past : same_bytes k p.key.bytes ≡ false → at (look_up k (p ∷ ps)) m t ≡ at (look_up k ps) m t
    unfolding at look_up
    up_past e = rw (e, look_up)

  up_found : (ps : List PairAt) → found_of (at (look_up k ps) m t) ≡ found_in k ps
  unfolding found_in
  up_found [] = ap found_of up_none
  up_found (p ∷ ps) = by (same_bytes k p.key.bytes) refl (up_found ps)
    where
      by : (b : Bool) → same_bytes k p.key.bytes ≡ b → found_of (at (look_up k ps) m t) ≡ found_in k ps
          → found_of (at (look_up k (p ∷ ps)) m t) ≡ cond b (Ok (record { start = p.value.start; len = length p.value.bytes })) (found_in k ps)
      by true e ih = ap found_of (up_hit p ps e)
      by false e ih = ap found_of (up_past p ps e) ∙ ih

-- the loop over the pairs
pub record Looked (k m : List ℕ) (first n i s : ℕ) : Type 0 where
  pub some : i ≤ n
  pub inside : i < n → pairs_end m (n - i) s ≤ length m
  pub left : found_in k (pairs_here m n first) ≡ found_in k (pairs_here m (n - i) s)

pub looked_start : (k m : List ℕ) (first n : ℕ) → (0 < n → pairs_end m n first ≤ length m) → Looked k m first n 0 first
looked_start k m first n h = record { some = omega arith; inside = rw sub-zero h; left = rw sub-zero }

module _ (k m : List ℕ) (first n i s : ℕ) (w : Looked k m first n i s) where
  pub looked_none : n ≤ i → (q : Refusal) → q ≡ because 29 0 → ◌≡◌ {A = Result Place Refusal} (Err q) (found_in k (pairs_here m n first))
  unfolding found_in items_here
  looked_none h q f = let e : n - i ≡ 0 = omega arith in ap Err f ∙ sym (w.left ∙ rw e)

  module _ (h : i < n) where
    whole : pair_end m s ≤ length m
    whole = omega (arith, w.inside h, end_step pair_end m n i s h, reach pair_end m (forward m) (n - (i + 1)) (pair_end m s))

    pub looked_key : entry_end m s ≤ length m
    looked_key = omega (arith, whole)

    module _ (e : Span) (is : EntryIs m s e) where
      pub looked_value : entry_end m e.tail ≤ length m
      looked_value = rw is.ends whole

      module _ (v : Span) (vIs : EntryIs m e.tail v) (b : List ℕ) (bIs : b ≡ bytes_at m (s + 2) (number16 m s)) (r : Bool) (f : r ≡ same_bytes k b) where
        step : found_in k (pairs_here m n first) ≡ cond r (Ok (record { start = v.start; len = v.len })) (found_in k (pairs_here m (n - (i + 1)) v.tail))
        unfolding found_in
        step =
            w.left
            ∙ rw (
              here_step pair_here pair_end m n i s h,
              length_part m (entry_end m s + 2) (number16 m (entry_end m s)) whole,
              f,
              bIs,
              vIs.starts,
              vIs.size,
              vIs.ends,
              is.ends,
            )

        pub looked_hit : r ≡ true → ◌≡◌ {A = Result Place Refusal} (Ok (record { start = v.start; len = v.len })) (found_in k (pairs_here m n first))
        looked_hit t = sym (step ∙ rw t)

        pub looked_past : r ≡ false → Looked k m first n (i + 1) v.tail
        looked_past t =
            let to : v.tail ≡ pair_end m s = vIs.ends ∙ ap (entry_end m) is.ends in
            record { some = omega arith; inside = λ _. rw to (rw (end_step pair_end m n i s h) at (w.inside h)); left = step ∙ rw t }

-- in a section
module _ (k m : List ℕ) (start : ℕ) (a : Result (SuccessfulRead ℕ) Refusal) (aIs : a ≡ counted (at (read_aad_section tolerant) m start)) where
  pub value_not : (q : Refusal) → a ≡ Err q → ◌≡◌ {A = Result Place Refusal} (Err q) (found_of (at (find_value k) m start))
  unfolding find_value
  value_not q b = rw (stop _ (section_tidy tolerant) m start _ _ (counted_no (at (read_aad_section tolerant) m start) a aIs q b))

  module _ (pairs : SuccessfulRead ℕ) (b : a ≡ Ok pairs) where
    abbrev read : Had Tolerant m start pairs
    read = had Tolerant m start a aIs pairs b

    pub value_up : (r : Result Place Refusal) → r ≡ found_in k (pairs_here m pairs.value (start + 4)) → r ≡ found_of (at (find_value k) m start)
    unfolding find_value
    value_up r f =
        f
        ∙ ap (found_in k) (sym read.are)
        ∙ sym (ap found_of (go _ (section_tidy tolerant) m start read.items pairs.tail read.is) ∙ up_found k m pairs.tail read.items)

-- as an operation, which opens a buffer and goes on
module _ (k : List ℕ) (m : Bor (List ℕ)) (start : ℕ) (x : Result ReadableBuffer Refusal) (opens : Opens m start x) where
  pub find_on : (b : ReadableBuffer) → x ≡ Ok b → (r : Result Place Refusal) → r ≡ found_of (from (find_value k) b) → r ≡ found_of (operation (find_value k) m.now start)
  find_on b is r f = f ∙ ap found_of (operation_from m start x opens b is (find_value k))

  pub find_none : (q : Refusal) → x ≡ Err q → ◌≡◌ {A = Result Place Refusal} (Err q) (found_of (operation (find_value k) m.now start))
  find_none q is = let (f, g) = why m start x opens q is in rw (f, operation_guarded (find_value k) m.now start g)

-- what is found stands in the message
pub record Stands (m : List ℕ) (p : Part) : Type 0 where
  pub is : p ≡ part_of m p.start (length p.bytes)
  pub within : p.start + length p.bytes ≤ length m

up_known : (k m : List ℕ) (t n s : ℕ) → (0 < n → pairs_end m n s ≤ length m) → (p : Part) (u : ℕ) → at (look_up k (pairs_here m n s)) m t ≡ accepted p u → Stands m p
unfolding items_here items_end
up_known k m t zero s h p u e = refused_is_none (sym (up_none k m t) ∙ e)
up_known k m t (suc n) s h p u e = by (same_bytes k (take (number16 m s) (drop (s + 2) m))) refl (up_known k m t n (pair_end m s) (λ _. h (omega arith)) p u)
  where
    by : (b : Bool) → same_bytes k (take (number16 m s) (drop (s + 2) m)) ≡ b → (at (look_up k (pairs_here m n (pair_end m s))) m t ≡ accepted p u → Stands m p) → Stands m p
    by true q ih =
        let z : accepted (entry_here m (entry_end m s)) t ≡ accepted p u = sym (up_hit k m t (pair_here m s) (pairs_here m n (pair_end m s)) q) ∙ e in
        let w : entry_here m (entry_end m s) ≡ p = cc in
        let g = reach pair_end m (forward m) n (pair_end m s) in
        let f = h (omega arith) in
        let d = length_part m (entry_end m s + 2) (number16 m (entry_end m s)) (omega arith) in
        rw (← w) (record { is = rw d; within = rw d (omega arith) })
    by false q ih = ih (sym (up_past k m t (pair_here m s) (pairs_here m n (pair_end m s)) q) ∙ e)

find_known : (k m : List ℕ) (start : ℕ) (p : Part) (u : ℕ) → at (find_value k) m start ≡ accepted p u → Stands m p
unfolding find_value
find_known k m start p u e =
    let z = un_bind _ (section_tidy tolerant) m start p u e in
    let y = section_known tolerant m start z.0 z.1 z.2 in
    up_known k m z.1 (length z.0) (start + 4) y.inside p u (ap (λ (l : List PairAt). at (look_up k l) m z.1) (sym y.are) ∙ z.3)

-- the companion
module _ (k m : List ℕ) (start : ℕ) (f : Result Place Refusal) (is : f ≡ found_of (operation (find_value k) m start)) where
  pub part_none : (q : Refusal) → f ≡ Err q → (lent given : Bor (List ℕ)) → PartOf lent given (part_of m 0 0) → PartOf lent given (found_part (operation (find_value k) m start))
  part_none q b lent given h =
      let e : part_of m 0 0 ≡ found_part (operation (find_value k) m start) = sym (ap found_part (found_no (operation (find_value k) m start) f is q b)) in
      subst (PartOf lent given) e h

  module _ (v : Place) (b : f ≡ Ok v) where
    had_value : HadValue (operation (find_value k) m start) v
    had_value = found_got (operation (find_value k) m start) f is v b

    stands : Stands m had_value.item
    stands = find_known k m start had_value.item had_value.tail (un_operation (find_value k) m start had_value.item had_value.tail had_value.is).2

    pub part_in : v.start + v.len ≤ length m
    part_in = rw (had_value.from, had_value.long) at stands.within

    pub part_is : (lent given : Bor (List ℕ)) → PartOf lent given (part_of m v.start v.len) → PartOf lent given (found_part (operation (find_value k) m start))
    part_is lent given h =
        let e : had_value.item ≡ part_of m v.start v.len = stands.is ∙ rw (had_value.from, had_value.long) in
        subst (PartOf lent given) (sym (ap found_part had_value.is ∙ e)) h
