-- A reader's table: how long it is; and, read as a writer reads it, at its places stand the bytes of what the reader gave. Assumes nothing.
use mathlib.Core.Path.{◌≡◌, refl, sym, ap, ◌∙◌}
use mathlib.Core.List.{List, [], ◌∷◌, ◌++◌, map}
use Prim.Native.Nat.{ℕ, ◌+◌, ◌*◌}
use native.Mathlib.Omega.{arith}
use lib.ListN.{length, get_or, drop, length-append}
use lib.Seq.{get_or-drop, drop-drop}
use native.Mathlib.Nat.{add-zero, zero-mul, suc-mul, add_comm}
use Rattle.format.specs.Serialize.{Part, images}
use Rattle.format.specs.Fields.{PairAt, pair_of, pair_places, EncryptedDataKeyAt, key_of, key_places}
use Rattle.format.specs.Frames.{FrameAt, frame_of, frame_places}
use Rattle.format.specs.Lent.{place, pair_numbers, key_numbers, frame_numbers, filled, items, part_in, pair_in, key_in, frame_in}
use Rattle.format.specs.Demand3.{Held, Each}

-- how long tables are: items of k numbers or parts each
pub each_long : {A B : Type 0} (f : A → List B) (k : ℕ) → ((x : A) → length (f x) ≡ k) → (xs : List A) → length (images f xs) ≡ length xs * k
unfolding images
each_long f k h [] = sym (zero-mul k)
each_long f k h (x ∷ xs) = rw (length-append (f x) (images f xs), h x, each_long f k h xs, suc-mul (length xs) k, add_comm k (length xs * k)) refl

pub places_long : (ps : List Part) → length (images place ps) ≡ length ps * 2
places_long = each_long place 2 (λ p. refl)

pub pair_numbers_long : (ps : List PairAt) → length (pair_numbers ps) ≡ 4 * length ps
pair_numbers_long ps = let a = places_long (images pair_places ps) in let b = each_long pair_places 2 (λ p. refl) ps in omega arith

-- three places each: keys and frames
three_long : {A : Type 0} (f : A → List Part) → ((x : A) → length (f x) ≡ 3) → (xs : List A) → length (images place (images f xs)) ≡ 6 * length xs
three_long f h xs = let a = places_long (images f xs) in let b = each_long f 3 h xs in omega arith

pub key_numbers_long : (ks : List EncryptedDataKeyAt) → length (key_numbers ks) ≡ 6 * length ks
key_numbers_long = three_long key_places (λ k. refl)

pub frame_numbers_long : (fs : List FrameAt) → length (frame_numbers fs) ≡ 6 * length fs
frame_numbers_long = three_long frame_places (λ f. refl)

-- the two numbers of a place
pub place_there : (table : List ℕ) (p : Part) (l : List ℕ) (at : ℕ) → drop at table ≡ place p ++ l → (get_or table at 0 ≡ p.start) × (get_or table (at + 1) 0 ≡ length p.bytes)
place_there table p l at e =
    (ap (λ i. get_or table i 0) (sym (add-zero at)) ∙ sym (get_or-drop at table 0 0) ∙ ap (λ x. get_or x 0 0) e, sym (get_or-drop at table 1 0) ∙ ap (λ x. get_or x 1 0) e)

module _ (m table : List ℕ) where
  part_there : (p : Part) (l : List ℕ) (at : ℕ) → Held m p → drop at table ≡ place p ++ l → part_in m table at ≡ p.bytes
  unfolding part_in
  part_there p l at h e = let (a, b) = place_there table p l at e in rw (a, b) h

  behind : (p : Part) (l : List ℕ) (at : ℕ) → drop at table ≡ place p ++ l → drop (at + 2) table ≡ l
  behind p l at e = sym (drop-drop 2 at table) ∙ ap (drop 2) e

  pub pairs_there : (ps : List PairAt) (l : List ℕ) (at : ℕ) → Each (Held m) (images pair_places ps) → drop at table ≡ pair_numbers ps ++ l
      → items (pair_in m table) 4 (length ps) at ≡ map pair_of ps
  unfolding images items
  pairs_there [] l at h e = refl
  pairs_there (p ∷ ps) l at (k, (v, h)) e =
      let e₁ = behind p.key _ at e in
      let e₂ : drop (at + 4) table ≡ pair_numbers ps ++ l = sym (drop-drop 4 at table) ∙ ap (drop 4) e in
      rw (part_there p.key _ at k e, part_there p.value _ (at + 2) v e₁, pairs_there ps l (at + 4) h e₂) refl

  -- items of three parts each: keys and frames
  three_there : {A B : Type 0} (p q r : A → Part) (make : List ℕ → List ℕ → List ℕ → B) (xs : List A) (l : List ℕ) (at : ℕ) → Each (Held m) (images (λ x. p x ∷ q x ∷ r x ∷ []) xs)
      → drop at table ≡ images place (images (λ x. p x ∷ q x ∷ r x ∷ []) xs) ++ l
      → items (λ i. make (part_in m table i) (part_in m table (i + 2)) (part_in m table (i + 2 + 2))) 6 (length xs) at ≡ map (λ x. make (p x).bytes (q x).bytes (r x).bytes) xs
  unfolding images items
  three_there p q r make [] l at h e = refl
  three_there p q r make (x ∷ xs) l at (a, (b, (c, h))) e =
      let e₁ = behind (p x) _ at e in
      let e₂ = behind (q x) _ (at + 2) e₁ in
      let e₃ : drop (at + 6) table ≡ images place (images (λ x. p x ∷ q x ∷ r x ∷ []) xs) ++ l = sym (drop-drop 6 at table) ∙ ap (drop 6) e in
      rw (part_there (p x) _ at a e, part_there (q x) _ (at + 2) b e₁, part_there (r x) _ (at + 2 + 2) c e₂, three_there p q r make xs l (at + 6) h e₃) refl

  pub keys_there : (ks : List EncryptedDataKeyAt) (l : List ℕ) (at : ℕ) → Each (Held m) (images key_places ks) → drop at table ≡ key_numbers ks ++ l
      → items (key_in m table) 6 (length ks) at ≡ map key_of ks
  keys_there = three_there (λ k. k.keyProviderId) (λ k. k.keyProviderInfo) (λ k. k.ciphertext) (λ a b c. record { keyProviderId = a; keyProviderInfo = b; ciphertext = c })

  pub frames_there : (fs : List FrameAt) (l : List ℕ) (at : ℕ) → Each (Held m) (images frame_places fs) → drop at table ≡ frame_numbers fs ++ l
      → items (frame_in m table) 6 (length fs) at ≡ map frame_of fs
  frames_there = three_there (λ f. f.iv) (λ f. f.content) (λ f. f.tag) (λ a b c. record { iv = a; content = b; tag = c })

module _ (m table : List ℕ) where
  pub pair_table : (ps : List PairAt) → Each (Held m) (images pair_places ps) → items (pair_in m (filled (pair_numbers ps) table)) 4 (length ps) 0 ≡ map pair_of ps
  pair_table ps h = pairs_there m (filled (pair_numbers ps) table) ps (drop (length (pair_numbers ps)) table) 0 h refl

  pub key_table : (ks : List EncryptedDataKeyAt) → Each (Held m) (images key_places ks) → items (key_in m (filled (key_numbers ks) table)) 6 (length ks) 0 ≡ map key_of ks
  key_table ks h = keys_there m (filled (key_numbers ks) table) ks (drop (length (key_numbers ks)) table) 0 h refl

  pub frame_table : (fs : List FrameAt) → Each (Held m) (images frame_places fs) → items (frame_in m (filled (frame_numbers fs) table)) 6 (length fs) 0 ≡ map frame_of fs
  frame_table fs h = frames_there m (filled (frame_numbers fs) table) fs (drop (length (frame_numbers fs)) table) 0 h refl
