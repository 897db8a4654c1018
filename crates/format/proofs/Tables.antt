-- Refusal 26 speaks of each place of a table, and a table has its parts by their places. Assumes nothing.
use mathlib.Core.Path.{◌≡◌, refl, ap, ap₂, ◌∙◌}
use mathlib.Core.Bool.{Bool, true}
use mathlib.Core.Option.{none}
use mathlib.Core.List.{List, [], ◌∷◌, ◌++◌}
use Prim.Native.Nat.{ℕ, zero, suc, ◌+◌, ◌*◌, ◌/◌, ◌<◌}
use native.Mathlib.Nat.{add-zero, mul-zero, mul-suc}
use native.Mathlib.Omega.{arith}
use lib.ListN.{length, get_or}
use Rattle.format.specs.Serialize.{every}
use Rattle.format.specs.Checks.{first}
use Rattle.format.specs.Lent.{bytes_at, items, here, part_in, parts_in, in_text, table_checks}
use Rattle.format.specs.Lengths.{JustWhere}
use Rattle.format.specs.Pinned.{InText}
use Rattle.format.proofs.Tests.{leb_is, is_leb, eqb_is, is_eqb}
use Rattle.format.proofs.Firsts.{holds, unheld, both, and}

-- items in a table: how many there are, and each by its place
pub items_length : {A : Type 0} (f : ℕ → A) (k n at : ℕ) → length (items f k n at) ≡ n
unfolding items
items_length f k zero at = refl
items_length f k (suc n) at = ap suc (items_length f k n (at + k))

-- one row of them behind another, and of another function that gives the same
pub items_append : {A : Type 0} (f : ℕ → A) (k a b at : ℕ) → items f k (a + b) at ≡ items f k a at ++ items f k b (at + k * a)
unfolding items
items_append f k zero b at =
    let e : 0 + b ≡ b = omega arith in
    let z : at + k * 0 ≡ at = ap (λ n. at + n) (mul-zero k) ∙ add-zero at in
    rw (e, z) refl
items_append f k (suc a) b at =
    let e : suc a + b ≡ suc (a + b) = omega arith in
    let z : at + k * suc a ≡ at + k + k * a = (let m = mul-suc k a in omega arith) in
    rw (e, z) (ap (λ l. f at ∷ l) (items_append f k a b (at + k)))

pub items_same : {A : Type 0} (f g : ℕ → A) (k n i j : ℕ) → ((x : ℕ) → x < n → f (i + k * x) ≡ g (j + k * x)) → items f k n i ≡ items g k n j
unfolding items
items_same f g k zero i j h = refl
items_same f g k (suc n) i j h =
    let m = mul-zero k in
    let first : f i ≡ g j = ap f (let e : i ≡ i + k * 0 = omega arith in e) ∙ h 0 (omega arith) ∙ ap g (let e : j + k * 0 ≡ j = omega arith in e) in
    let rest : (x : ℕ) → x < n → f (i + k + k * x) ≡ g (j + k + k * x) =
    λ x less.
    (let m = mul-suc k x in
    ap f (let e : i + k + k * x ≡ i + k * suc x = omega arith in e) ∙ h (suc x) (omega arith) ∙ ap g (let e : j + k * suc x ≡ j + k + k * x = omega arith in e)) in
    ap₂ (λ x l. x ∷ l) first (items_same f g k n (i + k) (j + k) rest)

items_at : {A : Type 0} (f : ℕ → A) (d : A) (n at i j : ℕ) → i < n → j ≡ at + 2 * i → get_or (items f 2 n at) i d ≡ f j
unfolding items
items_at f d zero at i j h e = absurd (omega arith)
items_at f d (suc n) at zero j h e = let z : at ≡ j = omega arith in ap f z
items_at f d (suc n) at (suc i) j h e = items_at f d n (at + 2) i j (omega arith) (omega arith)

pub which_keys : (text table : List ℕ) (i : ℕ) → i < length table / 2 → get_or (parts_in text table) i [] ≡ bytes_at text (get_or table (2 * i) 0) (get_or table (2 * i + 1) 0)
unfolding part_in
which_keys text table i h = items_at (part_in text table) [] (length table / 2) 0 i (2 * i) h (omega arith)

-- a test of the places from one on, each two numbers behind the one before it
at_each : (f : ℕ → Bool) (n at : ℕ) → every f (items here 2 n at) ≡ true → (i j : ℕ) → i < n → j ≡ at + 2 * i → f j ≡ true
unfolding every items
at_each f zero at e i j h q = absurd (omega arith)
at_each f (suc n) at e zero j h q = let z = both (f at) (every f (items here 2 n (at + 2))) e in let w : j ≡ at = omega arith in ap f w ∙ z.0
at_each f (suc n) at e (suc i) j h q = let z = both (f at) (every f (items here 2 n (at + 2))) e in at_each f n (at + 2) z.1 i j (omega arith) (omega arith)

each_at : (f : ℕ → Bool) (n at : ℕ) → ((i j : ℕ) → i < n → j ≡ at + 2 * i → f j ≡ true) → every f (items here 2 n at) ≡ true
unfolding every items
each_at f zero at h = refl
each_at f (suc n) at h = and (h 0 at (omega arith) (omega arith)) (each_at f n (at + 2) (λ i j k q. h (suc i) j (omega arith) (omega arith)))

pub tables : (k : ℕ) (text table : List ℕ) → JustWhere (first (table_checks k text table) ≡ none) (InText k text table)
unfolding table_checks in_text
tables k text table =
    record {
      onward = λ e.
          let (a, (b, u)) = holds (table_checks k text table) e in
          record { in_items = is_eqb _ _ a; inside = λ i h. is_leb _ _ (at_each (in_text text table) (length table / 2) 0 b i (2 * i) h (omega arith)) };
      back = λ t. unheld (table_checks k text table) (eqb_is _ _ t.in_items, (each_at (in_text text table) (length table / 2) 0 (λ i j h q. let e : j ≡ 2 * i = omega arith in rw e (leb_is _ _ (t.inside i h))), tt));
    }
