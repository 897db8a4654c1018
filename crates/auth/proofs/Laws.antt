-- The ways out of the functions that read an authentication record, one law each. Assumes nothing.
use mathlib.Core.Path.{◌≡◌, refl, sym, ap, ◌∙◌}
use mathlib.Core.Bool.{Bool, true, false}
use mathlib.Core.List.{List}
use Prim.Native.Nat.{ℕ, ◌+◌, ◌-◌, ◌≤◌, ◌<◌}
use native.Mathlib.Omega.{arith}
use borrow.Author.Tests.{leb-true, leb-false, eq-eqb, ne_eqb}
use lib.Dec.{leb, eqb}
use lib.ListN.{length, replicate}
use Rattle.std.specs.Prelude.{Option, Some, None, Result, Ok, Err}
use Rattle.format.specs.Read.{accepted, at}
use Rattle.format.specs.Serialize.{Part, read}
use Rattle.format.specs.Shared.{suite_version}
use Rattle.format.specs.Auth.{zeros, read_header_auth_tag_of, read_header_auth_tag}
use Rattle.format.specs.Lent.{bytes_at}
use Rattle.format.specs.Places.{part_of}
use Rattle.steps.proofs.Tidy.{read_tidy}
use Rattle.steps.proofs.Steps.{refused_is_none, go, stop, pass, fail, gives}
use Rattle.steps.proofs.Numbers.{read_got, read_lacks}
use Rattle.suites.specs.Table.{suite_of}
use Rattle.suites.specs.declared.Suite.{Suite}
use Rattle.suites.proofs.Answers.{unknown, its_version, in_table}
use Rattle.wire.specs.Codes.{because, span_of}
use Rattle.wire.specs.declared.refusals.Refusal.{Refusal}
use Rattle.wire.specs.declared.SuccessfulRead.{SuccessfulRead}
use Rattle.wire.specs.declared.Span.{Span}
use Rattle.wire.proofs.Answers.{span_got, span_no}
use Rattle.auth.specs.Codes.{read_tag, auth_of}
use Rattle.auth.specs.declared.HeaderAuth.{HeaderAuth}

abbrev Answer : Type 0
Answer = Result (SuccessfulRead HeaderAuth) Refusal

-- bytes that were read, one at least
pub record Stands (m : List ℕ) (s k : ℕ) (r : Span) : Type 0 where
  pub is : at (read k) m s ≡ accepted (part_of m s k) r.tail
  pub starts : r.start ≡ s
  pub within : r.start + k ≤ length m

stands : (m : List ℕ) (s k : ℕ) → 0 < k → (x : Result Span Refusal) → x ≡ span_of (at (read k) m s) → (r : Span) → x ≡ Ok r → Stands m s k r
stands m s k some x is r b = by (leb (s + k) (length m)) refl
  where
    by : (c : Bool) → leb (s + k) (length m) ≡ c → Stands m s k r
    by true q =
        let h : s + k ≤ length m = leb-true _ _ q in
        let g = span_got (at (read k) m s) x is r b in
        let z : accepted (part_of m s k) (s + k) ≡ accepted g.item r.tail = sym (read_got m s k h) ∙ g.is in
        let p : part_of m s k ≡ g.item = cc in
        let e : r.start ≡ s = sym g.from ∙ ap (λ (i : Part). i.start) (sym p) in
        record { is = g.is ∙ ap (λ (i : Part). accepted i r.tail) (sym p); starts = e; within = omega (arith, e) }
    by false q =
        let h : length m < s + k = leb-false _ _ q in
        let lacks : length m - s < k = omega arith in
        refused_is_none (sym (read_lacks m s k lacks) ∙ (span_got (at (read k) m s) x is r b).is)

-- the tag, behind an IV
module _ (iv : List ℕ) (m : List ℕ) (s : ℕ) (x : Result Span Refusal) (x_is : x ≡ span_of (at (read 16) m s)) where
  pub no_tag : (q : Refusal) → x ≡ Err q → ◌≡◌ {A = Answer} (Err q) (auth_of (at (read_tag iv) m s))
  unfolding read_tag
  no_tag q b = rw (stop _ (read_tidy 16) m s _ _ (span_no (at (read 16) m s) x x_is q b))

  module _ (r : Span) (b : x ≡ Ok r) where
    tag_there : Stands m s 16 r
    tag_there = stands m s 16 (omega arith) x x_is r b

    pub tag_in : r.start + 16 ≤ length m
    tag_in = tag_there.within

    pub tag_read : (tag : List ℕ) → tag ≡ bytes_at m r.start 16 → ◌≡◌ {A = Answer} (Ok (record { value = record { iv = iv; tag = tag }; tail = r.tail })) (auth_of (at (read_tag iv) m s))
    unfolding read_tag
    tag_read tag e = rw (e, tag_there.starts, go _ (read_tidy 16) m s _ r.tail tag_there.is, gives _ m r.tail)

-- version 1: the IV
module _ (m : List ℕ) (s : ℕ) (x : Result Span Refusal) (x_is : x ≡ span_of (at (read 12) m s)) where
  pub v1_no_iv : (q : Refusal) → x ≡ Err q → ◌≡◌ {A = Answer} (Err q) (auth_of (at (read_header_auth_tag_of true) m s))
  unfolding read_header_auth_tag_of
  v1_no_iv q b = rw (stop _ (read_tidy 12) m s _ _ (span_no (at (read 12) m s) x x_is q b))

  module _ (r : Span) (b : x ≡ Ok r) where
    iv_there : Stands m s 12 r
    iv_there = stands m s 12 (omega arith) x x_is r b

    pub iv_in : r.start + 12 ≤ length m
    iv_in = iv_there.within

    pub v1_read : (iv : List ℕ) → iv ≡ bytes_at m r.start 12 → (a : Answer) → a ≡ auth_of (at (read_tag iv) m r.tail) → a ≡ auth_of (at (read_header_auth_tag_of true) m s)
    unfolding read_header_auth_tag_of read_tag
    v1_read iv e a f = f ∙ rw (e, iv_there.starts, go _ (read_tidy 12) m s _ r.tail iv_there.is) refl

-- version 2: none
pub v2_read : (m : List ℕ) (s : ℕ) (a : Answer) → a ≡ auth_of (at (read_tag (replicate 12 0)) m s) → a ≡ auth_of (at (read_header_auth_tag_of false) m s)
unfolding read_header_auth_tag_of read_tag zeros
v2_read m s a f = f

-- the suite, as it was looked up
module _ (n : ℕ) (x : Option Suite) (x_is : x ≡ suite_of n) (m : List ℕ) (s : ℕ) where
  pub suite_unknown : x ≡ None → (q : Refusal) → q ≡ because 6 0 → ◌≡◌ {A = Answer} (Err q) (auth_of (at (read_header_auth_tag n) m s))
  unfolding read_header_auth_tag
  suite_unknown e q f = rw (f, fail 6 _ _ m s (unknown n x x_is e))

  module _ (k : Suite) (e : x ≡ Some k) (a : Answer) where
    reads : (v1 : Bool) → eqb (suite_version n) 1 ≡ v1 → at (read_header_auth_tag n) m s ≡ at (read_header_auth_tag_of v1) m s
    unfolding read_header_auth_tag
    reads v1 q = pass 6 _ _ m s (in_table n x x_is k e) ∙ ap (λ (b : Bool). at (read_header_auth_tag_of b) m s) q

    pub suite_v1 : k.version ≡ 1 → a ≡ auth_of (at (read_header_auth_tag_of true) m s) → a ≡ auth_of (at (read_header_auth_tag n) m s)
    suite_v1 h f = f ∙ sym (ap auth_of (reads true (eq-eqb _ _ (sym (its_version n x x_is k e) ∙ h))))

    pub suite_v2 : (k.version ≡ 1 → ⊥) → a ≡ auth_of (at (read_header_auth_tag_of false) m s) → a ≡ auth_of (at (read_header_auth_tag n) m s)
    suite_v2 h f = f ∙ sym (ap auth_of (reads false (ne_eqb _ _ (λ q. h (its_version n x x_is k e ∙ q)))))
