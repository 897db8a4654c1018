-- Keys close up one by one: what was kept of those that were passed stands in front, and what is still to come is as it was.
-- Assumes nothing.
use Prim.Native.Nat.{ℕ, suc, ◌+◌, ◌-◌, ◌≤◌, ◌<◌}
use native.Mathlib.Omega.{arith}
use mathlib.Core.Path.{◌≡◌, refl, sym, ap, ◌∙◌}
use mathlib.Core.Bool.{Bool, true, false, cond}
use mathlib.Core.List.{List, [], ◌∷◌, ◌++◌, append-nil, map, map-append}
use lib.ListN.{length, take, drop, length-append}
use Rattle.format.specs.Serialize.{Bytes, images, same_bytes}
use Rattle.format.specs.Fields.{EncryptedDataKey, key_of}
use Rattle.format.specs.Keys.{write_encrypted_data_key, write_encrypted_data_keys}
use Rattle.format.specs.Lent.{bytes_at}
use Rattle.format.specs.Places.{items_here, items_end, key_here, key_end, keys_here, keys_end}
use Rattle.format.specs.Mending.{without_provider}
use Rattle.format.proofs.Serialize.{images_append}
use Rattle.format.proofs.LeftOut.{of_joined}
use Rattle.format.proofs.TakenOut.{leaves_out}
use Rattle.steps.proofs.Numbers.{length_part}
use Rattle.wire.specs.Stored.{stored}
use Rattle.wire.proofs.StoreLaws.{length_stored, drop_stored, stored_none, stored_more}
use Rattle.entries.proofs.Items.{reach, end_snoc, end_join, here_snoc}
use Rattle.drafts.specs.Dropping.{is_provided_by, Passed, left, ClosedUp}
use Rattle.drafts.specs.declared.dropping.Kept.{Kept}
use Rattle.drafts.proofs.Walk.{key_back, same_key_end, same_provider}

-- where i of the n keys from first on were passed
pub record Closing (id m₀ : List ℕ) (first n i s : ℕ) (kept : Kept) (m : List ℕ) : Type 0 where
  pub some : i ≤ n
  pub place : s ≡ keys_end m₀ i first
  pub count : kept.count ≡ length (left id m₀ first i)
  pub ends : kept.end ≡ first + length (write_encrypted_data_keys (left id m₀ first i))
  pub before : kept.end ≤ s
  pub fewer : kept.count ≤ i
  pub is : m ≡ stored m₀ first (write_encrypted_data_keys (left id m₀ first i))
  pub long : length m ≡ length m₀

pub closing_start : (id m₀ : List ℕ) (first n : ℕ) → Closing id m₀ first n 0 first (record { count = 0; end = first }) m₀
unfolding items_here items_end without_provider write_encrypted_data_keys images
closing_start id m₀ first n =
    record { some = omega arith; place = refl; count = refl; ends = omega arith; before = omega arith; fewer = omega arith; is = stored_none m₀ first; long = refl }

pub closing_end : (id m₀ : List ℕ) (first n i s : ℕ) (kept : Kept) (m : List ℕ) → Closing id m₀ first n i s kept m → n ≤ i → ClosedUp id m₀ first n m kept
closing_end id m₀ first n i s kept m c h =
    let few = c.some in
    let e : i ≡ n = omega arith in
    rw (← e) (record { count = c.count; end = c.ends; buffer = c.is })

module _ (id m₀ : List ℕ) (first n : ℕ) (hb : Bytes m₀) (inside : keys_end m₀ n first ≤ length m₀) (i s : ℕ) (kept : Kept) (m : List ℕ) (c : Closing id m₀ first n i s kept m) (more : i < n) where
  -- the next key lies within the buffer
  next_end : keys_end m₀ (i + 1) first ≡ key_end m₀ s
  next_end = let e : i + 1 ≡ suc i = omega arith in ap (λ (j : ℕ). keys_end m₀ j first) e ∙ end_snoc key_end m₀ i first ∙ ap (key_end m₀) (sym c.place)

  next_inside : key_end m₀ s ≤ length m₀
  next_inside =
      let e : i + 1 + (n - (i + 1)) ≡ n = omega arith in
      let f : keys_end m₀ n first ≡ keys_end m₀ (n - (i + 1)) (keys_end m₀ (i + 1) first) = ap (λ (j : ℕ). keys_end m₀ j first) (sym e) ∙ end_join key_end m₀ (i + 1) (n - (i + 1)) first in
      let g : keys_end m₀ (i + 1) first ≤ keys_end m₀ (n - (i + 1)) (keys_end m₀ (i + 1) first) = reach key_end m₀ (λ t. omega arith) (n - (i + 1)) (keys_end m₀ (i + 1) first) in
      let k = next_end in
      omega arith

  -- and is still there
  rest : drop s m ≡ drop s m₀
  rest =
      let l = c.ends in
      let b = c.before in
      let k = next_inside in
      let bytes = write_encrypted_data_keys (left id m₀ first i) in
      let e : first + length bytes + (s - kept.end) ≡ s = omega arith in
      rw c.is (rw e at (drop_stored m₀ first bytes (s - kept.end) (omega arith)))

  -- the keys up to the next one
  abbrev next : EncryptedDataKey
  next = key_of (key_here m₀ s)

  one_more : (b : Bool) → same_bytes id next.keyProviderId ≡ b → left id m₀ first (i + 1) ≡ left id m₀ first i ++ cond b [] (next ∷ [])
  unfolding without_provider
  one_more b e =
      let j : i + 1 ≡ suc i = omega arith in
      ap (λ (k : ℕ). left id m₀ first k) j
      ∙ ap (λ (l : List _). without_provider id (map key_of l)) (here_snoc key_here key_end m₀ i first ∙ ap (λ (t : ℕ). keys_here m₀ i first ++ (key_here m₀ t ∷ [])) (sym c.place))
      ∙ ap (without_provider id) (map-append key_of (keys_here m₀ i first) (key_here m₀ s ∷ []))
      ∙ of_joined (leaves_out id) (map key_of (keys_here m₀ i first)) (next ∷ [])
      ∙ rw e refl

  module _ (tail : ℕ) (is_tail : tail ≡ key_end m s) where
    tail_is : tail ≡ key_end m₀ s
    tail_is = is_tail ∙ same_key_end m m₀ s rest

    size_is : key_end m s - s ≡ key_end m₀ s - s
    size_is = ap (λ (t : ℕ). t - s) (same_key_end m m₀ s rest)

    same_is : (b : Bool) → is_provided_by id m s ≡ b → same_bytes id next.keyProviderId ≡ b
    same_is b e = sym (ap (same_bytes id) (same_provider m m₀ s rest)) ∙ e

    pub key_within : tail ≤ length m
    key_within = let a = tail_is in let b = next_inside in let l = c.long in omega arith

    -- it goes
    without : is_provided_by id m s ≡ true → Closing id m₀ first n (i + 1) tail kept m
    without e =
        let f : left id m₀ first (i + 1) ≡ left id m₀ first i = one_more true (same_is true e) ∙ append-nil (left id m₀ first i) in
        let t = tail_is in
        let b = c.before in
        let w = c.fewer in
        record {
          some = omega arith;
          place = t ∙ sym next_end;
          count = rw f c.count;
          ends = rw f c.ends;
          before = omega arith;
          fewer = omega arith;
          is = rw f c.is;
          long = c.long;
        }

    -- it stays
    with_it : is_provided_by id m s ≡ false → (kept' : Kept) → kept'.count ≡ kept.count + 1 → kept'.end ≡ kept.end + (key_end m s - s) → (m' : List ℕ) → m' ≡ stored m kept.end (bytes_at m s (key_end m s - s))
        → Closing id m₀ first n (i + 1) tail kept' m'
    unfolding write_encrypted_data_keys images
    with_it e kept' counted at_end m' moved =
        let was = left id m₀ first i in
        let f : left id m₀ first (i + 1) ≡ was ++ (next ∷ []) = one_more false (same_is false e) in
        let t = tail_is in
        let x = size_is in
        let fits = next_inside in
        let size = length_part m₀ s (key_end m₀ s - s) (omega arith) in
        let g : write_encrypted_data_keys (left id m₀ first (i + 1)) ≡ write_encrypted_data_keys was ++ bytes_at m₀ s (key_end m₀ s - s) =
        ap write_encrypted_data_keys f ∙ images_append write_encrypted_data_key was (next ∷ []) ∙ ap (λ (l : List ℕ). images write_encrypted_data_key was ++ l) (append-nil (write_encrypted_data_key next) ∙ key_back m₀ hb s next_inside) in
        let l = ap length g ∙ length-append (write_encrypted_data_keys was) (bytes_at m₀ s (key_end m₀ s - s)) in
        let n₀ = length-append was (next ∷ []) in
        let n₁ = ap length f in
        let p = c.ends in
        let q = c.before in
        let u = c.count in
        let w = c.fewer in
        let is' : m' ≡ stored m₀ first (write_encrypted_data_keys (left id m₀ first (i + 1))) =
        moved ∙ ap (λ (j : ℕ). stored m kept.end (bytes_at m s j)) x ∙ ap (λ (y : List ℕ). stored m kept.end (take (key_end m₀ s - s) y)) rest
        ∙ ap (λ (y : List ℕ). stored y kept.end (bytes_at m₀ s (key_end m₀ s - s))) c.is
        ∙ stored_more m₀ first (write_encrypted_data_keys was) (bytes_at m₀ s (key_end m₀ s - s)) kept.end p (omega arith) ∙ ap (stored m₀ first) (sym g) in
        record {
          some = omega arith;
          place = t ∙ sym next_end;
          count = omega arith;
          ends = omega arith;
          before = omega arith;
          fewer = omega arith;
          is = is';
          long = ap length is' ∙ length_stored m₀ first (write_encrypted_data_keys (left id m₀ first (i + 1))) (omega arith);
        }

    pub closing_step : (kept' : Kept) (m' : List ℕ) → Passed id s kept m m' kept' → Closing id m₀ first n (i + 1) tail kept' m'
    closing_step kept' m' p = by (is_provided_by id m s) refl
      where
        by : (b : Bool) → is_provided_by id m s ≡ b → Closing id m₀ first n (i + 1) tail kept' m'
        by true e = let z = p.goes e in rw (z.0, z.1) (without e)
        by false e = let z = p.stays e in with_it e kept' z.0 z.1 m' z.2
