-- Keys dropped with one ID and then with another, in either order. Assumes nothing.
use mathlib.Core.Path.{◌≡◌, refl, sym, ap, ◌∙◌}
use mathlib.Core.Logic.{◌⊎◌, inl, inr, ⊎_elim}
use mathlib.Core.Bool.{Bool, true, false, not}
use mathlib.Core.List.Memᴰ
use mathlib.Core.List.{List, [], ◌∷◌, ◌++◌, append_assoc, Memᴰ}
use Prim.Native.Nat.{ℕ, zero, suc, ◌+◌, ◌-◌, ◌≤◌}
use native.Mathlib.Omega.{arith}
use lib.Dec.{eqb}
use lib.ListN.{length, drop}
use lib.Seq.{drop_at}
use Rattle.format.specs.Read.{accepted, refused, operation}
use Rattle.format.specs.Serialize.{Bytes, same_bytes}
use Rattle.format.specs.Fields.{EncryptedDataKey, Fields, HeaderBody, fields_of}
use Rattle.format.specs.Auth.{zeros}
use Rattle.format.specs.Lent.{filled}
use Rattle.format.specs.Mending.{read_draft, without_provider, dropped_image, mended}
use Rattle.format.specs.Mended.{Dropped, Absent}
use Rattle.format.specs.Demand3.{Each}
use Rattle.format.specs.Arrangement.{drop_keys, after_drop, Remains, neither, DroppedBoth, EitherOrder, AllHave, AllHaveEither, AllOfOne, SecondRefused, SomeOfBoth}
use Rattle.format.proofs.Tests.{never}
use Rattle.format.proofs.Find.{same_equal}
use Rattle.format.proofs.LeftOut.{either_first}
use Rattle.format.proofs.TakenOut.{same, leaves_out, taken_out, none_of_it, all_stay, shorter, left_in, all_gone, gone, other_left}
use Rattle.format.proofs.Drafts.{around_length, was_read}
use Rattle.format.proofs.Mending.{in_parts, long, nonempty, refused_keeps, says_40, drop_said, with_image}
use Rattle.format.proofs.KeysDropped.{drops}

-- zeros behind zeros
more_zeros : (a b : ℕ) → zeros a ++ zeros b ≡ zeros (a + b)
unfolding zeros
more_zeros zero b = ap zeros (let e : b ≡ 0 + b = omega arith in e)
more_zeros (suc a) b = ap (λ l. 0 ∷ l) (more_zeros a b) ∙ ap zeros (let e : suc (a + b) ≡ suc a + b = omega arith in e)

-- A shorter draft in the place of one, and then one that is shorter still: what is left of the first two is 00
twice : (d d' m : List ℕ) (t : ℕ) → length d' ≤ length d → length d ≤ t → filled (mended d' (length d)) (filled (mended d t) m) ≡ filled (mended d' t) m
twice d d' m t less short =
    let n = length d in
    let first = in_parts d m t t (let a = long d m t in omega arith) in
    let rest : drop n (filled (mended d t) m) ≡ zeros (t - n) ++ drop t m = ap (drop n) first ∙ drop_at d (zeros (t - n) ++ drop t m) n refl in
    let sum : n - length d' + (t - n) ≡ t - length d' = omega arith in
    in_parts d' (filled (mended d t) m) n n (let a = long d' m n in omega arith)
    ∙ ap (λ l. d' ++ (zeros (n - length d') ++ l)) rest
    ∙ ap (λ l. d' ++ l) (sym (append_assoc (zeros (n - length d')) (zeros (t - n)) (drop t m)) ∙ ap (λ l. l ++ drop t m) (more_zeros (n - length d') (t - n) ∙ ap zeros sum))
    ∙ sym (in_parts d' m t t (let a = long d' m t in omega arith))

-- where an item is there, there are some
some_there : {A : Type 0} {x : A} {xs : List A} → Memᴰ x xs → xs ≡ [] → ⊥
some_there m e = Memᴰ.not-nil (rw e at m)

module _ (p m : List ℕ) (hb : Bytes m) (b : HeaderBody) (t : ℕ) (e : operation read_draft m 0 ≡ accepted b t) where
  abbrev ks : List EncryptedDataKey
  ks = (fields_of b).keys

  module _ (some : without_provider p ks ≡ [] → ⊥) where
    pub at_first : drop_keys p m ≡ accepted (dropped_image p b) t
    at_first = ((drops p m hb).some_remain b t e some).0

    pub once : Dropped p m b t (length (dropped_image p b)) (after_drop p m)
    once = ((drops p m hb).some_remain b t e some).1

    abbrev between : HeaderBody
    between = once.draft.body

    -- a second drop reads the draft that the first left
    module _ (q : List ℕ) where
      left : without_provider q (fields_of between).keys ≡ without_provider q (without_provider p ks)
      left = ap (λ (f : Fields). without_provider q f.keys) once.draft.gives.fields

      pub then_refused : without_provider q (without_provider p ks) ≡ [] → drop_keys q (after_drop p m) ≡ refused 40 0
      then_refused h = says_40 (after_drop p m) between (length (dropped_image p b)) once.draft.reads q (left ∙ h)

      module _ (some_left : without_provider q (without_provider p ks) ≡ [] → ⊥) where
        then_dropped : drop_keys q (after_drop p m) ≡ accepted (neither p q b) (length (dropped_image p b))
        then_dropped =
            drop_said (after_drop p m) between (length (dropped_image p b)) once.draft.reads q (nonempty _ (λ z. some_left (sym left ∙ z)))
            ∙ ap (λ l. accepted l (length (dropped_image p b))) (rw (once.draft.marked, left, once.draft.gives.fields) refl)

        shorter_still : length (neither p q b) ≤ length (dropped_image p b)
        shorter_still =
            let w = was_read m hb b t e in
            let x = ap length (with_image m b t w (without_provider p ks)) in
            let y = ap length (with_image m b t w (without_provider q (without_provider p ks))) in
            let u = around_length w.sent (without_provider p ks) in
            let v = around_length w.sent (without_provider q (without_provider p ks)) in
            let z = shorter q (taken_out q (without_provider p ks)) in
            omega arith

        pub dropped_both : DroppedBoth p q m b t (neither p q b)
        dropped_both =
            record {
              at_first = at_first;
              then = then_dropped;
              buffer_then = rw (then_dropped, at_first) (twice (dropped_image p b) (neither p q b) m t shorter_still once.not_longer);
            }

-- a refusal changes nothing
pub kept : (id buffer : List ℕ) → drop_keys id buffer ≡ refused 40 0 → after_drop id buffer ≡ buffer
kept id buffer h = refused_keeps (drop_keys id buffer) buffer 40 0 h

-- what follows of each item
for_each : {A : Type 0} {P Q : A → Type 0} → ((x : A) → P x → Q x) → (xs : List A) → Each P xs → Each Q xs
for_each f [] a = tt
for_each f (x ∷ xs) (p, a) = (f x p, for_each f xs a)

-- the keys are the same in either order
same_keys : (p q : List ℕ) (ks : List EncryptedDataKey) → without_provider p (without_provider q ks) ≡ without_provider q (without_provider p ks)
same_keys p q ks = either_first (leaves_out p) (leaves_out q) ks

module _ (p q m : List ℕ) (hb : Bytes m) (b : HeaderBody) (t : ℕ) (e : operation read_draft m 0 ≡ accepted b t) where
  pub either_order : Remains p q (fields_of b).keys → EitherOrder p q m b t
  either_order r =
      let ks = (fields_of b).keys in
      let without_p = left_in (taken_out p ks) r.there r.not_p in
      let without_q = left_in (taken_out q ks) r.there r.not_q in
      let pq : DroppedBoth p q m b t (neither p q b) = dropped_both p m hb b t e (some_there without_p) q (some_there (left_in (taken_out q _) without_p r.not_q)) in
      let qp : DroppedBoth q p m b t (neither q p b) = dropped_both q m hb b t e (some_there without_q) p (some_there (left_in (taken_out p _) without_q r.not_p)) in
      let same : DroppedBoth q p m b t (neither p q b) = rw (same_keys p q ks) at qp in
      record { p_first = pq; q_first = same; same_buffer = pq.buffer_then ∙ sym same.buffer_then }

  -- a draft has a key
  has_key : (fields_of b).keys ≡ [] → ⊥
  has_key h =
      let w = was_read m hb b t e in
      let none : w.sent.fields.keys ≡ [] = ap (λ (f : Fields). f.keys) (sym w.fields) ∙ h in
      never w.ok.keys.list.some (ap (λ (l : List EncryptedDataKey). not (eqb (length l) 0)) none)

  pub all_of_one : AllHave p (fields_of b).keys → AllOfOne p q m b t
  all_of_one a = record { p_refused = p_refused; q_absent = λ d. (absent d).0; draft_stays = stays (same_bytes p q) refl }
    where
      p_refused : drop_keys p m ≡ refused 40 0
      p_refused = says_40 m b t e p (all_gone (taken_out p (fields_of b).keys) a)

      absent : (p ≡ q → ⊥) → (drop_keys q m ≡ accepted (dropped_image q b) t) × (after_drop q m ≡ m)
      absent d =
          let none : Absent q (fields_of b).keys = for_each (λ k x y. d (x ∙ sym y)) (fields_of b).keys a in
          let (said, means) = (drops q m hb).some_remain b t e (λ z. has_key (sym (all_stay q (fields_of b).keys none) ∙ z)) in
          (said, (means.unchanged none).0)

      stays : (x : Bool) → same_bytes p q ≡ x → after_drop q m ≡ m
      stays true x = let z : p ≡ q = same_equal p q x in kept q m (ap (λ id. drop_keys id m) (sym z) ∙ p_refused)
      stays false x = (absent (λ z. never (same p q z) x)).1

  -- after the first the other's keys are left, so the other is refused
  second_refused : (without_provider p (fields_of b).keys ≡ [] → ⊥) → AllHaveEither p q (fields_of b).keys → SecondRefused p q m b t
  second_refused some a =
      let other = other_left q (taken_out p (fields_of b).keys) a in
      record { at_first = at_first p m hb b t e some; then = then_refused p m hb b t e some q (all_gone (taken_out q _) other) }

module _ (p q m : List ℕ) (hb : Bytes m) (b : HeaderBody) (t : ℕ) (e : operation read_draft m 0 ≡ accepted b t) (either : AllHaveEither p q (fields_of b).keys) where
  abbrev keys : List EncryptedDataKey
  keys = (fields_of b).keys

  module _ (not_p : AllHave p keys → ⊥) (not_q : AllHave q keys → ⊥) where
    some_p : without_provider p keys ≡ [] → ⊥
    some_p z = not_p (gone (taken_out p keys) z)

    some_q : without_provider q keys ≡ [] → ⊥
    some_q z = not_q (gone (taken_out q keys) z)

    p_then_q : SecondRefused p q m b t
    p_then_q = second_refused p q m hb b t e some_p either

    q_then_p : SecondRefused q p m b t
    q_then_p = second_refused q p m hb b t e some_q (for_each (λ k. ⊎_elim inr inl) keys either)

    -- equal buffers would read as the same keys: what is left without p would be left without q, and none is
    order_shows : after_drop q (after_drop p m) ≡ after_drop p (after_drop q m) → ⊥
    order_shows same =
        let one = (once p m hb b t e some_p).draft in
        let other = (once q m hb b t e some_q).draft in
        let buffers : after_drop p m ≡ after_drop q m = sym (kept q _ p_then_q.then) ∙ same ∙ kept p _ q_then_p.then in
        let read : accepted one.body (length (dropped_image p b)) ≡ accepted other.body (length (dropped_image q b)) =
        sym one.reads ∙ ap (λ l. operation read_draft l 0) buffers ∙ other.reads in
        let bodies : one.body ≡ other.body = cc in
        let left : without_provider p keys ≡ without_provider q keys =
        ap (λ (f : Fields). f.keys) (sym one.gives.fields ∙ ap fields_of bodies ∙ other.gives.fields) in
        let none : without_provider q (without_provider p keys) ≡ [] = all_gone (taken_out q _) (other_left q (taken_out p keys) either) in
        some_q (sym (all_stay q (without_provider q keys) (none_of_it q (taken_out q keys))) ∙ ap (without_provider q) (sym left) ∙ none)

    pub some_of_both : SomeOfBoth p q m b t
    some_of_both = record { p_first = p_then_q; q_first = q_then_p; order_shows = order_shows }

-- a key has one of the IDs, or neither
pub one_or_none : (p q : List ℕ) (ks : List EncryptedDataKey) → Remains p q ks ⊎ AllHaveEither p q ks
one_or_none p q [] = inr tt
one_or_none p q (k ∷ ks) = by (same_bytes p k.keyProviderId) refl (same_bytes q k.keyProviderId) refl (one_or_none p q ks)
  where
    more : (p ≡ k.keyProviderId) ⊎ (q ≡ k.keyProviderId) → Remains p q ks ⊎ AllHaveEither p q ks → Remains p q (k ∷ ks) ⊎ AllHaveEither p q (k ∷ ks)
    more has (inl r) = inl (record { key = r.key; there = Memᴰ.tail r.there; not_p = r.not_p; not_q = r.not_q })
    more has (inr a) = inr (has, a)

    by : (x : Bool) → same_bytes p k.keyProviderId ≡ x → (y : Bool) → same_bytes q k.keyProviderId ≡ y → Remains p q ks ⊎ AllHaveEither p q ks → Remains p q (k ∷ ks) ⊎ AllHaveEither p q (k ∷ ks)
    by true u y v rest = more (inl (same_equal p k.keyProviderId u)) rest
    by false u true v rest = more (inr (same_equal q k.keyProviderId v)) rest
    by false u false v rest = inl (record { key = k; there = Memᴰ.head refl; not_p = λ z. never (same p k.keyProviderId z) u; not_q = λ z. never (same q k.keyProviderId z) v })
