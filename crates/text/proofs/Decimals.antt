-- The decimal numeral: its last digit, that it is the right one, and that it is std's. Assumes nothing.
use mathlib.Core.Path.{◌≡◌, refl, sym, ap, ◌∙◌}
use mathlib.Core.Bool.{Bool, true, false}
use mathlib.Core.List.{List, [], ◌∷◌, ◌++◌}
use mir.Syntax.{w64}
use mir.Val.{Fits}
use Prim.Native.Nat.{ℕ, zero, suc, ◌+◌, ◌*◌, ◌-◌, ◌/◌, ◌%◌, ◌^◌, ◌≤◌, ◌<◌}
use native.Mathlib.Omega.{arith}
use native.Mathlib.Nat.{not-suc-le-zero, pow-suc}
use lib.Dec.{ltb}
use lib.ListN.{length, get_or, length-append, get_or-append}
use borrow.Author.Tests.{lt-ltb, le-ltb, ltb-true, ltb-false}
use Rattle.text.specs.Text.{decimal_in, decimal}
use Rattle.text.specs.Numerals.{value_from, Decimals, Numeral}
use Rattle.std.specs.Fmt as std
use Rattle.std.proofs.lemmas.Fmt.{AppendsLastDigit, decimal_from_appends, length-decimal-le_succ}

in_short : (k n : ℕ) → n < 10 → decimal_in (suc k) n ≡ (48 + n) ∷ []
unfolding decimal_in
in_short k n h = rw (lt-ltb n 10 h)

in_long : (k n : ℕ) → 10 ≤ n → decimal_in (suc k) n ≡ decimal_in k (n / 10) ++ ((48 + n % 10) ∷ [])
unfolding decimal_in
in_long k n h = rw (le-ltb n 10 h, lt-ltb (n % 10) 10 (omega arith))

-- a number of one digit, or of more
cases : {G : Type 0} (n : ℕ) → (n < 10 → G) → (10 ≤ n → G) → G
cases {G = G} n f g = go (ltb n 10) refl
  where
    go : (t : Bool) → ltb n 10 ≡ t → G
    go true e = f (ltb-true n 10 e)
    go false e = g (ltb-false n 10 e)

-- the bound on the digits does not show, where it is above the number
any_bound : (k j n : ℕ) → n < k → n < j → decimal_in k n ≡ decimal_in j n
any_bound zero j n h g = absurd (not-suc-le-zero h)
any_bound (suc k) zero n h g = absurd (not-suc-le-zero g)
any_bound (suc k) (suc j) n h g =
    cases n (λ few. in_short k n few ∙ sym (in_short j n few))
    (λ many. in_long k n many ∙ ap (λ (l : List ℕ). l ++ ((48 + n % 10) ∷ [])) (any_bound k j (n / 10) (omega arith) (omega arith)) ∙ sym (in_long j n many))

pub decimal_short : (n : ℕ) → n < 10 → decimal n ≡ (48 + n) ∷ []
unfolding decimal
decimal_short n h = in_short n n h

pub decimal_long : (n : ℕ) → 10 ≤ n → decimal n ≡ decimal (n / 10) ++ ((48 + n % 10) ∷ [])
unfolding decimal
decimal_long n h = in_long n n h ∙ ap (λ (l : List ℕ). l ++ ((48 + n % 10) ∷ [])) (any_bound n (suc (n / 10)) (n / 10) (omega arith) (omega arith))

-- below a power of ten there are no more digits than its exponent
pub decimal_few : (k n : ℕ) → n < 10 ^ suc k → length (decimal n) ≤ suc k
decimal_few zero n h = rw (decimal_short n (omega arith)) (omega arith)
decimal_few (suc k) n h =
    cases n (λ few. rw (decimal_short n few) (omega arith))
    (λ many.
    let w : n < 10 ^ suc k * 10 = rw (pow-suc 10 (suc k)) at h in
    let e = decimal_few k (n / 10) (omega arith) in
    rw (decimal_long n many, length-append) (omega arith))

-- one digit more
value_more : (ds : List ℕ) (a d : ℕ) → value_from a (ds ++ (d ∷ [])) ≡ value_from a ds * 10 + (d - 48)
unfolding value_from
value_more [] a d = refl
value_more (c ∷ ds) a d = value_more ds (a * 10 + (c - 48)) d

decimals_more : (ds : List ℕ) (d : ℕ) → Decimals ds → 48 ≤ d → d < 58 → Decimals (ds ++ (d ∷ []))
decimals_more [] d h a b = (a, b, tt)
decimals_more (c ∷ ds) d h a b = (h.0, h.1, decimals_more ds d h.2 a b)

-- the digits of n, and the first is not 0 where n is not
record Digits (n : ℕ) (text : List ℕ) : Type 0 where
  some : 0 < length text
  digits : Decimals text
  value : value_from 0 text ≡ n
  first : 0 < n → 48 < get_or text 0 0

digits_in : (k n : ℕ) → n < k → Digits n (decimal_in k n)
unfolding value_from
digits_in zero n h = absurd (not-suc-le-zero h)
digits_in (suc k) n h =
    cases n (λ few. rw (in_short k n few) (record { some = omega arith; digits = (omega arith, omega arith, tt); value = omega arith; first = λ p. omega arith }))
    (λ many.
    let d = digits_in k (n / 10) (omega arith) in
    rw (in_long k n many) (
    record {
      some = rw length-append (omega (arith, d.some));
      digits = decimals_more (decimal_in k (n / 10)) (48 + n % 10) d.digits (omega arith) (omega arith);
      value = rw (value_more (decimal_in k (n / 10)) 0 (48 + n % 10), d.value) (omega arith);
      first = λ p. rw (get_or-append (decimal_in k (n / 10)) ((48 + n % 10) ∷ []) 0 0 d.some) (d.first (omega arith));
    }
    ))

pub decimal_right : (n : ℕ) → Numeral n (decimal n)
unfolding decimal
decimal_right n =
    let d = digits_in (suc n) n (omega arith) in
    record {
      some = d.some;
      digits = d.digits;
      value = d.value;
      tight = λ two. cases n (λ few. let one : length (decimal_in (suc n) n) ≡ 1 = ap length (in_short n n few) in absurd (omega arith)) (λ many. d.first (omega arith));
    }

-- the numeral is std's, which itoa writes
module _ (n : ℕ) (fit : Fits w64 n) where
  pub decimal_std : std.decimal n ≡ decimal n
  unfolding decimal
  decimal_std =
      let own : AppendsLastDigit decimal_in = record { one = in_short; more = in_long } in
      sym (decimal_from_appends decimal_in own (suc n) n (omega (arith, fit.fits)) (omega (length-decimal-le_succ n (omega (arith, fit.fits)), arith)))

  pub decimal_within : length (decimal n) ≤ 20
  decimal_within = decimal_few 19 n (omega (arith, fit.fits))
