-- A table that holds the places of items: what the code makes of its numbers is what stands in the listing. Assumes nothing.
use mathlib.Core.Path.{◌≡◌, refl, sym, ap, ◌∙◌}
use mathlib.Core.List.{List, [], ◌∷◌, ◌++◌, append_assoc}
use Prim.Native.Nat.{ℕ, ◌+◌, ◌*◌, ◌-◌, ◌≤◌, ◌<◌}
use native.Mathlib.Omega.{arith}
use lib.ListN.{length, get_or, drop, length-append, length-drop}
use lib.Seq.{drop-drop, drop_at, get_or-drop}
use Rattle.format.specs.Serialize.{Part, images}
use Rattle.format.specs.Lent.{bytes_at, place, items, here, part_in}
use Rattle.format.specs.Demand3.{Held, Each}
use Rattle.format.proofs.Serialize.{images_append}
use Rattle.text.specs.Text.{hex, field}
use Rattle.listing_text.specs.Listing.{hex_field, lines}
use Rattle.text.specs.Put.{There, PartThere, ItemThere, texts, part_field, item_line}

each_left : (P : Part → Type 0) (xs ys : List Part) → Each P (xs ++ ys) → Each P xs
each_left P [] ys h = tt
each_left P (x ∷ xs) ys h = (h.0, each_left P xs ys h.1)

each_right : (P : Part → Type 0) (xs ys : List Part) → Each P (xs ++ ys) → Each P ys
each_right P [] ys h = h
each_right P (x ∷ xs) ys h = each_right P xs ys h.1

pub places_long : (ps : List Part) → length (images place ps) ≡ 2 * length ps
unfolding images
places_long [] = refl
places_long (p ∷ ps) = let e = places_long ps in omega arith

pub there_is : (m : List ℕ) (p : Part) → Held m p → There m p.start (length p.bytes)
there_is m p h = record { whole = ap length h }

module _ (m table : List ℕ) where
  -- the place that stands at j
  module _ (j a n : ℕ) (l : List ℕ) (e : drop j table ≡ a ∷ n ∷ l) where
    first_number : get_or table j 0 ≡ a
    first_number =
        let z : j + 0 ≡ j = omega arith in
        let y : get_or (drop j table) 0 0 ≡ a = rw e in
        rw z at (sym (get_or-drop j table 0 0) ∙ y)

    second_number : get_or table (j + 1) 0 ≡ n
    second_number = let y : get_or (drop j table) 1 0 ≡ n = rw e in sym (get_or-drop j table 1 0) ∙ y

    both_there : j + 2 ≤ length table
    both_there = omega (arith, sym (length-drop j table) ∙ ap length e)

    behind : drop (j + 2) table ≡ l
    behind = sym (drop-drop 2 j table) ∙ rw e

  pub record Stand (ps : List Part) (j : ℕ) : Type 0 where
    pub text : texts (part_field m table) 2 (length ps) j ≡ images hex_field ps
    pub there : Each (PartThere m table) (items here 2 (length ps) j)

  parts_stand : (ps : List Part) (j : ℕ) (rest : List ℕ) → drop j table ≡ images place ps ++ rest → Each (Held m) ps → Stand ps j
  unfolding images items part_field part_in
  parts_stand [] j rest e h = record { text = refl; there = tt }
  parts_stand (p ∷ ps) j rest e h =
      let l = images place ps ++ rest in
      let a = first_number j p.start (length p.bytes) l e in
      let n = second_number j p.start (length p.bytes) l e in
      let r = parts_stand ps (j + 2) rest (behind j p.start (length p.bytes) l e) h.1 in
      let t : field (hex (bytes_at m (get_or table j 0) (get_or table (j + 1) 0))) ≡ hex_field p = rw (a, n) (ap (λ (b : List ℕ). field (hex b)) h.0) in
      record {
        text = rw (r.text, t);
        there = (record { numbers = both_there j p.start (length p.bytes) l e; bytes = rw (a, n) (there_is m p h.0) }, r.there);
      }

  module _ {A : Type 0} (word : List ℕ) (parts : A → List Part) (n : ℕ) (sized : (x : A) → length (parts x) ≡ n) (some : 0 < n) where
    pub record Lined (xs : List A) (j : ℕ) : Type 0 where
      pub text : texts (item_line m table word n) (2 * n) (length xs) j ≡ lines word parts xs
      pub there : Each (ItemThere m table n) (items here (2 * n) (length xs) j)

    pub items_stand : (xs : List A) (j : ℕ) (rest : List ℕ) → drop j table ≡ images place (images parts xs) ++ rest → Each (Held m) (images parts xs) → Lined xs j
    unfolding images items lines
    items_stand [] j rest e h = record { text = refl; there = tt }
    items_stand (x ∷ xs) j rest e h =
        let ys = images parts xs in
        let l = images place ys ++ rest in
        let f : drop j table ≡ images place (parts x) ++ l = e ∙ ap (λ (k : List ℕ). k ++ rest) (images_append place (parts x) ys) ∙ append_assoc (images place (parts x)) (images place ys) rest in
        let long : length (images place (parts x)) ≡ 2 * n = places_long (parts x) ∙ rw (sized x) in
        let p = parts_stand (parts x) j l f (each_left (Held m) (parts x) ys h) in
        let g : drop (j + 2 * n) table ≡ l = sym (drop-drop (2 * n) j table) ∙ rw f (drop_at (images place (parts x)) l (2 * n) long) in
        let r = items_stand xs (j + 2 * n) rest g (each_right (Held m) (parts x) ys h) in
        let t : texts (part_field m table) 2 n j ≡ images hex_field (parts x) = rw (← sized x) p.text in
        let u : Each (PartThere m table) (items here 2 n j) = rw (← sized x) p.there in
        let w : length table - j ≡ length (images place (parts x) ++ l) = sym (length-drop j table) ∙ ap length f in
        record {
          text = rw (r.text, t);
          there = (record { numbers = omega (arith, rw (length-append, long) at w); parts = record { each = u } }, r.there);
        }
