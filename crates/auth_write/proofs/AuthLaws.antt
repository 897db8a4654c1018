-- Laws of the authentication record's writer. Assumes nothing.
use Prim.Native.Nat.{ℕ, ◌+◌, ◌≤◌}
use native.Mathlib.Omega.{arith}
use mathlib.Core.Path.{◌≡◌, refl, sym, ap, ◌∙◌}
use mathlib.Core.Bool.{Bool, true, false, cond}
use mathlib.Core.List.{List, ◌++◌}
use lib.Dec.{eqb}
use lib.ListN.{length, take, drop, length-append}
use borrow.Author.Tests.{eqb-true, ne_eqb}
use Rattle.format.specs.Shared.{by, known}
use Rattle.format.specs.Checks.{first, sealed_checks, auth_checks}
use Rattle.format.specs.Auth.{write_header_auth_tag}
use Rattle.format.specs.Lent.{writing_header_auth_tag}
use Rattle.format.proofs.Firsts.{holds, first_pass, first_stop}
use Rattle.suites.specs.Table.{suite_of}
use Rattle.suites.specs.declared.Suite.{Suite}
use Rattle.suites.proofs.Answers.{unknown, its_version, in_table}
use Rattle.wire.specs.Codes.{because}
use Rattle.wire.specs.Stored.{stored}
use Rattle.checks.specs.Answers.{Checked, checked, Writes}
use Rattle.checks.proofs.Stages.{stage_none}
use Rattle.checks.proofs.Writers.{chain, whole_bytes, writes_fails}
use Rattle.auth_write.specs.Ready.{auth_image, AuthReady}
use Rattle.std.specs.Option.{ok_or}
use Rattle.wire.specs.Reasons.{number_of}
use Rattle.wire.specs.declared.refusals.Reason.TheVariants.{UnknownSuite}
use Rattle.wire.specs.declared.refusals.Reason.{Reason}
use Rattle.std.specs.Prelude.{Result, Ok, Err, Option, Some, None}
use Rattle.wire.specs.declared.refusals.Refusal.{Refusal}

-- by version
module _ (version : ℕ) where
  pub size_first : version ≡ 1 → 28 ≡ by version 28 16
  size_first e = rw e

  pub size_second : (version ≡ 1 → ⊥) → 16 ≡ by version 28 16
  size_second h = rw (ne_eqb _ _ h)

  module _ (iv tag out : List ℕ) (a : AuthReady version iv tag (length out)) where
    pub room_iv : version ≡ 1 → 0 + length iv ≤ length out
    room_iv e = omega (arith, size_first e, a.fits, a.ivLong)

    pub room_tag : version ≡ 1 → (o : List ℕ) → length o ≡ length out → 12 + length tag ≤ length o
    room_tag e o l = omega (arith, size_first e, a.fits, a.tagLong)

    pub room_only : (version ≡ 1 → ⊥) → 0 + length tag ≤ length out
    room_only h = omega (arith, size_second h, a.fits, a.tagLong)

    pub auth_first : version ≡ 1 → (o₁ o₂ : List ℕ) → o₁ ≡ stored out 0 (take (length iv) (drop 0 iv)) → o₂ ≡ stored o₁ 12 (take (length tag) (drop 0 tag))
        → o₂ ≡ stored out 0 (auth_image version iv tag)
    unfolding auth_image
    auth_first e o₁ o₂ q₁ q₂ =
        chain out o₁ o₂ 0 12 iv tag (rw (whole_bytes iv) at q₁) (omega (arith, a.ivLong)) (rw (whole_bytes tag) at q₂) (room_iv e) ∙ rw e

    pub auth_second : (version ≡ 1 → ⊥) → (o : List ℕ) → o ≡ stored out 0 (take (length tag) (drop 0 tag)) → o ≡ stored out 0 (auth_image version iv tag)
    unfolding auth_image
    auth_second h o q = rw (whole_bytes tag) at q ∙ rw (ne_eqb _ _ h)

-- the record's length, by version
long : (t : Bool) (iv tag : List ℕ) → length iv ≡ 12 → length tag ≡ 16 → cond t 28 16 ≡ length (cond t (iv ++ tag) tag)
long true iv tag e f = simp length-append (omega arith)
long false iv tag e f = sym f

-- what checks that passed give
module _ (iv tag : List ℕ) (c : Checked) (is : c ≡ checked (first (sealed_checks (length iv) (length tag)))) (e : c ≡ Ok tt) where
  lengths : (length iv ≡ 12) × (length tag ≡ 16)
  lengths = let h = holds (sealed_checks (length iv) (length tag)) (stage_none _ c is e) in (eqb-true _ _ h.0, eqb-true _ _ h.1.0)

  pub auth_ready : (version n room : ℕ) → n ≡ by version 28 16 → n ≤ room → AuthReady version iv tag room
  auth_ready version n room q h = record { ivLong = lengths.0; tagLong = lengths.1; fits = rw q at h }

-- the suite, as it was looked up
module _ (suite : ℕ) (iv tag : List ℕ) (x : Option Suite) (x_is : x ≡ suite_of suite) (y : Result Suite Reason) (made : y ≡ ok_or x UnknownSuite) where
  pub auth_6 : (e : Reason) → y ≡ Err e → (out : List ℕ) (q : Refusal) → q ≡ because (number_of e) 0 → Writes (writing_header_auth_tag suite iv tag) out out (Err q)
  unfolding writing_header_auth_tag auth_checks
  auth_6 e f out q g = by x refl
    where
      by : (o : Option Suite) → x ≡ o → Writes (writing_header_auth_tag suite iv tag) out out (Err q)
      by None h =
          let z : e ≡ UnknownSuite = cc in
          rw (g, z) (writes_fails (writing_header_auth_tag suite iv tag) out (Err (because 6 0)) (sym (ap checked (first_stop 6 (known suite) _ (unknown suite x x_is h)))) (because 6 0) refl)
      by (Some k) h = cc

  module _ (k : Suite) (its : y ≡ Ok k) where
    got : x ≡ Some k
    got = by x refl
      where
        by : (o : Option Suite) → x ≡ o → x ≡ Some k
        by None h = cc
        by (Some j) h = cc

    pub auth_checked : (c : Checked) → c ≡ checked (first (sealed_checks (length iv) (length tag))) → c ≡ checked (first (writing_header_auth_tag suite iv tag).checks)
    unfolding writing_header_auth_tag auth_checks
    auth_checked c is = is ∙ sym (ap checked (first_pass 6 (known suite) _ (in_table suite x x_is k got)))

    image_as : auth_image k.version iv tag ≡ (writing_header_auth_tag suite iv tag).image
    unfolding writing_header_auth_tag write_header_auth_tag auth_image
    image_as = ap (λ (v : ℕ). cond (eqb v 1) (iv ++ tag) tag) (its_version suite x x_is k got)

    pub auth_stored : (out after : List ℕ) → after ≡ stored out 0 (auth_image k.version iv tag) → after ≡ stored out 0 (writing_header_auth_tag suite iv tag).image
    auth_stored out after q = q ∙ ap (stored out 0) image_as

    pub auth_length : (c : Checked) → c ≡ checked (first (sealed_checks (length iv) (length tag))) → c ≡ Ok tt → (n : ℕ) → n ≡ by k.version 28 16
        → n ≡ length (writing_header_auth_tag suite iv tag).image
    unfolding auth_image
    auth_length c is e n q = let (i, t) = lengths iv tag c is e in q ∙ long (eqb k.version 1) iv tag i t ∙ ap length image_as
