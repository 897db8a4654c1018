-- The rows of RFC 3629's section 4 are the character numbers of its section 3. Assumes nothing.
use mathlib.Core.Path.{◌≡◌, refl}
use mathlib.Core.Bool.{Bool, true, false, ◌&&◌, ◌||◌}
use mathlib.Core.Logic.{◌⊎◌, inl, inr, ⊎_elim}
use mathlib.Core.List.{List, [], ◌∷◌}
use Prim.Native.Nat.{ℕ, ◌+◌, ◌*◌, ◌-◌, ◌≤◌, ◌<◌}
use native.Mathlib.Omega.{arith}
use lib.Dec.{leb, ltb}
use Rattle.format.specs.Utf8.{Range, ◌‥◌, has, tail, rows}
use Rattle.format.specs.Pinned.{Match, done, byte, In, here, there, Octets, none, char}
use Rattle.format.specs.Characters.{Character, one, two, three, four, Characters, empty, more}
use Rattle.format.proofs.Tests.{leb_is, is_leb, is_nleb}
use Rattle.format.proofs.Firsts.{both, and, or_cases}

-- a row's ranges against bytes, computed
abbrev Matches : List Range → List ℕ → Type 0
Matches [] [] = Unit {0}
Matches [] (b ∷ bytes) = ⊥
Matches (r ∷ ranges) [] = ⊥
Matches (r ∷ ranges) (b ∷ bytes) = (has r b ≡ true) × Matches ranges bytes

matches : {ranges : List Range} {c : List ℕ} → Match ranges c → Matches ranges c
matches done = tt
matches (byte h m) = (h, matches m)

within : (lo hi b : ℕ) → has (lo ‥ hi) b ≡ true → (lo ≤ b) × (b ≤ hi)
within lo hi b e = let z = both (leb lo b) (leb b hi) e in (is_leb lo b z.0, is_leb b hi z.1)

is_within : (lo hi b : ℕ) → lo ≤ b → b ≤ hi → has (lo ‥ hi) b ≡ true
is_within lo hi b h k = and (leb_is lo b h) (leb_is b hi k)

-- FROM ROWS TO NUMBERS
abbrev Good : List Range → Type 0
Good row = (c : List ℕ) → Matches row c → Character c

one_byte : Good (0x00 ‥ 0x7F ∷ [])
one_byte [] m = absurd m
one_byte (a ∷ []) (p, m) = let z = within 0x00 0x7F a p in let h : a ≤ 0x7F = z.1 in one a (omega arith)
one_byte (a ∷ b ∷ l) (p, m) = absurd m

two_as : (a b x y : ℕ) → a ≡ 0xC0 + x → b ≡ 0x80 + y → Character ((0xC0 + x) ∷ (0x80 + y) ∷ []) → Character (a ∷ b ∷ [])
two_as a b x y e f h = rw (e, f) h

two_bytes : Good (0xC2 ‥ 0xDF ∷ tail ∷ [])
two_bytes [] m = absurd m
two_bytes (a ∷ []) (p, m) = absurd m
two_bytes (a ∷ b ∷ []) (p, (q, m)) =
    let (a₁, a₂) = within 0xC2 0xDF a p in
    let (b₁, b₂) = within 0x80 0xBF b q in
    two_as a b (a - 0xC0) (b - 0x80) (omega arith) (omega arith) (two (a - 0xC0) (b - 0x80) (omega arith) (omega arith) (omega arith))
two_bytes (a ∷ b ∷ c ∷ l) (p, (q, m)) = absurd m

three_as : (a b c x y z : ℕ) → a ≡ 0xE0 + x → b ≡ 0x80 + y → c ≡ 0x80 + z → Character ((0xE0 + x) ∷ (0x80 + y) ∷ (0x80 + z) ∷ []) → Character (a ∷ b ∷ c ∷ [])
three_as a b c x y z e f g h = rw (e, f, g) h

-- 925,696 is 4096 times E0 and 64 times 80
three_bytes : (lo hi lo₂ hi₂ : ℕ) → 0xE0 ≤ lo → hi ≤ 0xEF → 0x80 ≤ lo₂ → hi₂ ≤ 0xBF → 925696 + 0x800 ≤ 4096 * lo + 64 * lo₂
    → (4096 * hi + 64 * hi₂ + 63 < 925696 + 0xD800) ⊎ (925696 + 0xDFFF < 4096 * lo + 64 * lo₂) → Good (lo ‥ hi ∷ lo₂ ‥ hi₂ ∷ tail ∷ [])
three_bytes lo hi lo₂ hi₂ h₁ h₂ h₃ h₄ low apart [] m = absurd m
three_bytes lo hi lo₂ hi₂ h₁ h₂ h₃ h₄ low apart (a ∷ []) (p, m) = absurd m
three_bytes lo hi lo₂ hi₂ h₁ h₂ h₃ h₄ low apart (a ∷ b ∷ []) (p, (q, m)) = absurd m
three_bytes lo hi lo₂ hi₂ h₁ h₂ h₃ h₄ low apart (a ∷ b ∷ c ∷ []) (p, (q, (r, m))) =
    let (a₁, a₂) = within lo hi a p in
    let (b₁, b₂) = within lo₂ hi₂ b q in
    let (c₁, c₂) = within 0x80 0xBF c r in
    three_as a b c (a - 0xE0) (b - 0x80) (c - 0x80) (omega arith) (omega arith) (omega arith)
    (three (a - 0xE0) (b - 0x80) (c - 0x80) (omega arith) (omega arith) (omega arith) (omega arith) (⊎_elim (λ h. inl (omega arith)) (λ h. inr (omega arith)) apart))
three_bytes lo hi lo₂ hi₂ h₁ h₂ h₃ h₄ low apart (a ∷ b ∷ c ∷ d ∷ l) (p, (q, (r, m))) = absurd m

four_as : (a b c d x y z w : ℕ) → a ≡ 0xF0 + x → b ≡ 0x80 + y → c ≡ 0x80 + z → d ≡ 0x80 + w → Character ((0xF0 + x) ∷ (0x80 + y) ∷ (0x80 + z) ∷ (0x80 + w) ∷ [])
    → Character (a ∷ b ∷ c ∷ d ∷ [])
four_as a b c d x y z w e f g i h = rw (e, f, g, i) h

-- 63,438,848 is 262144 times F0 and 4096 times 80
four_bytes : (lo hi lo₂ hi₂ : ℕ) → 0xF0 ≤ lo → 0x80 ≤ lo₂ → hi₂ ≤ 0xBF → 63438848 + 0x10000 ≤ 262144 * lo + 4096 * lo₂ → 262144 * hi + 4096 * hi₂ + 4095 ≤ 63438848 + 0x10FFFF
    → Good (lo ‥ hi ∷ lo₂ ‥ hi₂ ∷ tail ∷ tail ∷ [])
four_bytes lo hi lo₂ hi₂ h₁ h₃ h₄ low high [] m = absurd m
four_bytes lo hi lo₂ hi₂ h₁ h₃ h₄ low high (a ∷ []) (p, m) = absurd m
four_bytes lo hi lo₂ hi₂ h₁ h₃ h₄ low high (a ∷ b ∷ []) (p, (q, m)) = absurd m
four_bytes lo hi lo₂ hi₂ h₁ h₃ h₄ low high (a ∷ b ∷ c ∷ []) (p, (q, (r, m))) = absurd m
four_bytes lo hi lo₂ hi₂ h₁ h₃ h₄ low high (a ∷ b ∷ c ∷ d ∷ []) (p, (q, (r, (t, m)))) =
    let (a₁, a₂) = within lo hi a p in
    let (b₁, b₂) = within lo₂ hi₂ b q in
    let (c₁, c₂) = within 0x80 0xBF c r in
    let (d₁, d₂) = within 0x80 0xBF d t in
    four_as a b c d (a - 0xF0) (b - 0x80) (c - 0x80) (d - 0x80) (omega arith) (omega arith) (omega arith) (omega arith)
    (four (a - 0xF0) (b - 0x80) (c - 0x80) (d - 0x80) (omega arith) (omega arith) (omega arith) (omega arith) (omega arith))
four_bytes lo hi lo₂ hi₂ h₁ h₃ h₄ low high (a ∷ b ∷ c ∷ d ∷ e ∷ l) (p, (q, (r, (t, m)))) = absurd m

-- the bounds of a row, computed
abbrev fits_3 : ℕ → ℕ → ℕ → ℕ → Bool
fits_3 lo hi lo₂ hi₂ =
    leb 0xE0 lo && (leb hi 0xEF && (leb 0x80 lo₂ && (leb hi₂ 0xBF && (leb (925696 + 0x800) (4096 * lo + 64 * lo₂)
    && (ltb (4096 * hi + 64 * hi₂ + 63) (925696 + 0xD800) || ltb (925696 + 0xDFFF) (4096 * lo + 64 * lo₂))))))

row_3 : (lo hi lo₂ hi₂ : ℕ) → fits_3 lo hi lo₂ hi₂ ≡ true → Good (lo ‥ hi ∷ lo₂ ‥ hi₂ ∷ tail ∷ [])
row_3 lo hi lo₂ hi₂ e =
    let (e₁, r₁) = both _ _ e in
    let (e₂, r₂) = both _ _ r₁ in
    let (e₃, r₃) = both _ _ r₂ in
    let (e₄, r₄) = both _ _ r₃ in
    let (e₅, r₅) = both _ _ r₄ in
    three_bytes lo hi lo₂ hi₂ (is_leb _ _ e₁) (is_leb _ _ e₂) (is_leb _ _ e₃) (is_leb _ _ e₄) (is_leb _ _ e₅)
    (⊎_elim (λ h. inl (is_leb _ _ h)) (λ h. inr (is_leb _ _ h)) (or_cases _ _ r₅))

abbrev fits_4 : ℕ → ℕ → ℕ → ℕ → Bool
fits_4 lo hi lo₂ hi₂ =
    leb 0xF0 lo && (leb 0x80 lo₂ && (leb hi₂ 0xBF && (leb (63438848 + 0x10000) (262144 * lo + 4096 * lo₂) && leb (262144 * hi + 4096 * hi₂ + 4095) (63438848 + 0x10FFFF))))

row_4 : (lo hi lo₂ hi₂ : ℕ) → fits_4 lo hi lo₂ hi₂ ≡ true → Good (lo ‥ hi ∷ lo₂ ‥ hi₂ ∷ tail ∷ tail ∷ [])
row_4 lo hi lo₂ hi₂ e =
    let (e₁, r₁) = both _ _ e in
    let (e₂, r₂) = both _ _ r₁ in
    let (e₃, r₃) = both _ _ r₂ in
    let (e₄, e₅) = both _ _ r₃ in
    four_bytes lo hi lo₂ hi₂ (is_leb _ _ e₁) (is_leb _ _ e₂) (is_leb _ _ e₃) (is_leb _ _ e₄) (is_leb _ _ e₅)

abbrev EachGood : List (List Range) → Type 0
EachGood [] = Unit {0}
EachGood (row ∷ rs) = Good row × EachGood rs

each_good : EachGood rows
unfolding rows
each_good =
    (one_byte, (two_bytes, (row_3 _ _ _ _ refl, (row_3 _ _ _ _ refl, (row_3 _ _ _ _ refl, (row_3 _ _ _ _ refl, (row_4 _ _ _ _ refl, (row_4 _ _ _ _ refl, (row_4 _ _ _ _ refl, tt)))))))))

good_in : {row : List Range} {rs : List (List Range)} → In row rs → EachGood rs → Good row
good_in here (g, gs) = g
good_in (there i) (g, gs) = good_in i gs

pub to_characters : {l : List ℕ} → Octets l → Characters l
to_characters none = empty
to_characters (char i m o) = more (good_in i each_good _ (matches m)) (to_characters o)

-- FROM NUMBERS TO ROWS
record RowOf (c : List ℕ) : Type 0 where
  row : List Range
  is_row : In row rows
  fits : Match row c

of_one : (a : ℕ) → a < 0x80 → RowOf (a ∷ [])
unfolding rows
of_one a h = record { row = 0x00 ‥ 0x7F ∷ []; is_row = here; fits = byte (is_within 0x00 0x7F a (omega arith) (omega arith)) done }

a_tail : (a : ℕ) → a < 64 → has tail (0x80 + a) ≡ true
a_tail a h = is_within 0x80 0xBF (0x80 + a) (omega arith) (omega arith)

of_two : (a b : ℕ) → b < 64 → 0x80 ≤ 64 * a + b → 64 * a + b < 0x800 → RowOf ((0xC0 + a) ∷ (0x80 + b) ∷ [])
unfolding rows
of_two a b h low high = record { row = 0xC2 ‥ 0xDF ∷ tail ∷ []; is_row = there here; fits = byte (is_within 0xC2 0xDF (0xC0 + a) (omega arith) (omega arith)) (byte (a_tail b h) done) }

of_three : (a b c : ℕ) → b < 64 → c < 64 → 0x800 ≤ 4096 * a + 64 * b + c → 4096 * a + 64 * b + c < 0x10000 → (4096 * a + 64 * b + c < 0xD800) ⊎ (0xDFFF < 4096 * a + 64 * b + c)
    → RowOf ((0xE0 + a) ∷ (0x80 + b) ∷ (0x80 + c) ∷ [])
unfolding rows
of_three a b c hb hc low high apart = by (leb a 0) refl (leb a 12) refl (leb a 13) refl
  where
    last : Match (tail ∷ []) ((0x80 + c) ∷ [])
    last = byte (a_tail c hc) done

    by : (p : Bool) → leb a 0 ≡ p → (q : Bool) → leb a 12 ≡ q → (r : Bool) → leb a 13 ≡ r → RowOf ((0xE0 + a) ∷ (0x80 + b) ∷ (0x80 + c) ∷ [])
    by true e q f r g =
        let k = is_leb a 0 e in
        record { row = 0xE0 ‥ 0xE0 ∷ 0xA0 ‥ 0xBF ∷ tail ∷ []; is_row = there (there here); fits = byte (is_within 0xE0 0xE0 (0xE0 + a) (omega arith) (omega arith)) (byte (is_within 0xA0 0xBF (0x80 + b) (omega arith) (omega arith)) last) }
    by false e true f r g =
        let k = is_nleb a 0 e in
        let l = is_leb a 12 f in
        record { row = 0xE1 ‥ 0xEC ∷ tail ∷ tail ∷ []; is_row = there (there (there here)); fits = byte (is_within 0xE1 0xEC (0xE0 + a) (omega arith) (omega arith)) (byte (a_tail b hb) last) }
    by false e false f true g =
        let k = is_nleb a 12 f in
        let l = is_leb a 13 g in
        let below : b < 32 = ⊎_elim (λ h. omega arith) (λ h. omega arith) apart in
        record { row = 0xED ‥ 0xED ∷ 0x80 ‥ 0x9F ∷ tail ∷ []; is_row = there (there (there (there here))); fits = byte (is_within 0xED 0xED (0xE0 + a) (omega arith) (omega arith)) (byte (is_within 0x80 0x9F (0x80 + b) (omega arith) (omega arith)) last) }
    by false e false f false g =
        let k = is_nleb a 13 g in
        record { row = 0xEE ‥ 0xEF ∷ tail ∷ tail ∷ []; is_row = there (there (there (there (there here)))); fits = byte (is_within 0xEE 0xEF (0xE0 + a) (omega arith) (omega arith)) (byte (a_tail b hb) last) }

of_four : (a b c d : ℕ) → b < 64 → c < 64 → d < 64 → 0x10000 ≤ 262144 * a + 4096 * b + 64 * c + d → 262144 * a + 4096 * b + 64 * c + d ≤ 0x10FFFF
    → RowOf ((0xF0 + a) ∷ (0x80 + b) ∷ (0x80 + c) ∷ (0x80 + d) ∷ [])
unfolding rows
of_four a b c d hb hc hd low high = by (leb a 0) refl (leb a 3) refl
  where
    last : Match (tail ∷ tail ∷ []) ((0x80 + c) ∷ (0x80 + d) ∷ [])
    last = byte (a_tail c hc) (byte (a_tail d hd) done)

    by : (p : Bool) → leb a 0 ≡ p → (q : Bool) → leb a 3 ≡ q → RowOf ((0xF0 + a) ∷ (0x80 + b) ∷ (0x80 + c) ∷ (0x80 + d) ∷ [])
    by true e q f =
        let k = is_leb a 0 e in
        record { row = 0xF0 ‥ 0xF0 ∷ 0x90 ‥ 0xBF ∷ tail ∷ tail ∷ []; is_row = there (there (there (there (there (there here))))); fits = byte (is_within 0xF0 0xF0 (0xF0 + a) (omega arith) (omega arith)) (byte (is_within 0x90 0xBF (0x80 + b) (omega arith) (omega arith)) last) }
    by false e true f =
        let k = is_nleb a 0 e in
        let l = is_leb a 3 f in
        record { row = 0xF1 ‥ 0xF3 ∷ tail ∷ tail ∷ tail ∷ []; is_row = there (there (there (there (there (there (there here)))))); fits = byte (is_within 0xF1 0xF3 (0xF0 + a) (omega arith) (omega arith)) (byte (a_tail b hb) last) }
    by false e false f =
        let k = is_nleb a 3 f in
        record { row = 0xF4 ‥ 0xF4 ∷ 0x80 ‥ 0x8F ∷ tail ∷ tail ∷ []; is_row = there (there (there (there (there (there (there (there here))))))); fits = byte (is_within 0xF4 0xF4 (0xF0 + a) (omega arith) (omega arith)) (byte (is_within 0x80 0x8F (0x80 + b) (omega arith) (omega arith)) last) }

row_of : {c : List ℕ} → Character c → RowOf c
row_of (one a h) = of_one a h
row_of (two a b h low high) = of_two a b h low high
row_of (three a b c h k low high apart) = of_three a b c h k low high apart
row_of (four a b c d h k l low high) = of_four a b c d h k l low high

pub to_octets : {l : List ℕ} → Characters l → Octets l
to_octets empty = none
to_octets (more c cs) = let r = row_of c in char r.is_row r.fits (to_octets cs)
