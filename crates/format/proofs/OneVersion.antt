-- Sentence 3: the readers of one version against the either-version reader with 20 left untested. Assumes nothing.
use mathlib.Core.Path.{◌≡◌, refl}
use mathlib.Core.Bool.{Bool, true, false, ◌&&◌, ◌||◌, cond}
use mathlib.Core.List.{List, [], ◌∷◌}
use Prim.Native.Nat.{ℕ, ◌+◌, ◌*◌, ◌≤◌, ◌<◌}
use native.Mathlib.Omega.{arith}
use lib.Dec.{leb, eqb}
use lib.ListN.{length, take, drop, drop_of_length-le}
use Rattle.format.specs.Read.{ReadResult, success, more_needed, error, Reader, go_on, ◌>>=◌, ◌>>◌, return, test, refused, answer, operation}
use Rattle.format.specs.Serialize.{read_uint, read_uint8, same_bytes}
use Rattle.format.specs.Shared.{read_message_format_version}
use Rattle.format.specs.Fields.{HeaderBody}
use Rattle.format.specs.Context.{Mode}
use Rattle.format.specs.Keys.{Max}
use Rattle.format.specs.Policies.{Policy}
use Rattle.format.specs.Body.{Which, either, v1_only, v2_only, asked, read_lead_of, read_lead, after_lead, read_opening, Request, request_under, after_keys, after_context, after_opening, read_body, read_header_body_under, read_header_body_untested_under}
use Rattle.format.specs.Demand3.{stands_at, Sentence3}
use Rattle.format.proofs.Tests.{is_leb, is_nleb, is_eqb}
use Rattle.format.proofs.Serialize.{read_fits, read_short}
use Rattle.format.proofs.Messages.{operation_here, operation_far}
use Rattle.format.proofs.FirstBody.{first_refusals}

-- one byte at the front of the bytes left
one_byte : (x : ℕ) (l : List ℕ) (s : ℕ) → read_uint8 (x ∷ l) s ≡ success x l (s + 1)
unfolding read_uint8 read_uint ◌>>=◌ return
one_byte x l s = let e : 0 * 256 + x ≡ x = omega arith in rw (read_fits 1 (x ∷ l) s (omega arith), e) refl

no_byte : (s : ℕ) → read_uint8 [] s ≡ more_needed (s + 1)
unfolding read_uint8 read_uint ◌>>=◌
no_byte s = rw (read_short 1 [] s (omega arith)) refl

abbrev front_is : ℕ → List ℕ → Bool
front_is x l = same_bytes (take 1 l) (x ∷ [])

and_true : (x : Bool) → (x && true) ≡ x
and_true true = refl
and_true false = refl

front_of : (x y : ℕ) (l : List ℕ) → front_is x (y ∷ l) ≡ eqb y x
unfolding same_bytes
front_of x y l = and_true (eqb y x)

none_in_front : (x : ℕ) → front_is x [] ≡ false
unfolding same_bytes
none_in_front x = refl

-- a body behind its version byte, by the outcome of the two comparisons
from_version : Request → Bool → Bool → Bool → List ℕ → ℕ → ReadResult HeaderBody
from_version q v1 v2 ask l s = go_on (go_on (go_on (test 3 (v1 || v2) l s) (λ u. test 4 ask >> read_lead_of v1)) (after_lead q.policy)) (after_opening q)

module _ (policy : Policy) (mode : Mode) (max : Max) (pairRoom keyRoom : ℕ) where
  abbrev asks : Which → Request
  asks which = request_under policy which mode false max pairRoom keyRoom

  body_front : (which : Which) (x : ℕ) (l : List ℕ) (s : ℕ) → read_body (asks which) (x ∷ l) s ≡ from_version (asks which) (eqb x 1) (eqb x 2) (asked which x) l (s + 1)
  unfolding read_body read_opening read_lead read_message_format_version from_version ◌>>=◌ ◌>>◌ return test
  body_front which x l s = rw (one_byte x l s) (go (eqb x 1 || eqb x 2))
    where
      go : (b : Bool) → go_on (go_on (go_on (go_on (test 3 b l (s + 1)) (λ u. return x)) (λ v. test 4 (asked which v) >> read_lead_of (eqb v 1))) (after_lead policy)) (after_opening (asks which))
          ≡ go_on (go_on (go_on (test 3 b l (s + 1)) (λ u. test 4 (asked which x) >> read_lead_of (eqb x 1))) (after_lead policy)) (after_opening (asks which))
      go true = refl
      go false = refl

  body_none : (which : Which) (s : ℕ) → read_body (asks which) [] s ≡ more_needed (s + 1)
  unfolding read_body read_opening read_lead read_message_format_version ◌>>=◌
  body_none which s = rw (no_byte s) refl

  module _ (x : ℕ) (l : List ℕ) (s : ℕ) where
    by_version : (v1 : Bool) → eqb x 1 ≡ v1 → (v2 : Bool) → eqb x 2 ≡ v2
        → (from_version (asks v1_only) v1 v2 v1 l (s + 1) ≡ cond v2 (error 4) (from_version (asks either) v1 v2 true l (s + 1)))
        × (from_version (asks v2_only) v1 v2 v2 l (s + 1) ≡ cond v1 (error 4) (from_version (asks either) v1 v2 true l (s + 1)))
    unfolding from_version test ◌>>◌ after_opening after_context after_keys
    by_version true e₁ true e₂ = let p = is_eqb x 1 e₁ in let q = is_eqb x 2 e₂ in absurd (omega arith)
    by_version true e₁ false e₂ = (refl, refl)
    by_version false e₁ true e₂ = (refl, refl)
    by_version false e₁ false e₂ = (refl, refl)

  one_body : (l : List ℕ) (s : ℕ) → read_body (asks v1_only) l s ≡ cond (front_is 2 l) (error 4) (read_body (asks either) l s)
  one_body [] s = rw (body_none v1_only s, body_none either s, none_in_front 2) refl
  one_body (x ∷ l) s = rw (body_front v1_only x l s, body_front either x l s, front_of 2 x l) (by_version x l s (eqb x 1) refl (eqb x 2) refl).0

  two_body : (l : List ℕ) (s : ℕ) → read_body (asks v2_only) l s ≡ cond (front_is 1 l) (error 4) (read_body (asks either) l s)
  two_body [] s = rw (body_none v2_only s, body_none either s, none_in_front 1) refl
  two_body (x ∷ l) s = rw (body_front v2_only x l s, body_front either x l s, front_of 1 x l) (by_version x l s (eqb x 1) refl (eqb x 2) refl).1

-- from readers to what they answer of a message
module _ {A : Type 0} (r q : Reader A) (x : ℕ) (h : (l : List ℕ) (s : ℕ) → r l s ≡ cond (front_is x l) (error 4) (q l s)) where
  lifted : (m : List ℕ) (s : ℕ) → length m ≤ 4294967295 → operation r m s ≡ cond (stands_at x m s) (refused 4 0) (operation q m s)
  lifted m s fits = go (leb s 4294967295) refl
    where
      both : (b : Bool) (y : ReadResult A) → answer (cond b (error 4) y) ≡ cond b (refused 4 0) (answer y)
      both true y = refl
      both false y = refl

      go : (b : Bool) → leb s 4294967295 ≡ b → operation r m s ≡ cond (stands_at x m s) (refused 4 0) (operation q m s)
      go true e =
          let z : s ≤ 4294967295 = is_leb _ _ e in
          rw (operation_here r m s fits z, operation_here q m s fits z, h (drop s m) s) (both (front_is x (drop s m)) (q (drop s m) s))
      go false e =
          let z : 4294967295 < s = is_nleb _ _ e in
          let w : length m ≤ s = omega arith in
          rw (operation_far r m s z, operation_far q m s z, drop_of_length-le m w, none_in_front x) refl

pub sentence_3 : (policy : Policy) (mode : Mode) (max : Max) (pairRoom keyRoom : ℕ) (m : List ℕ) (s : ℕ) → length m ≤ 4294967295 → Sentence3 policy mode max pairRoom keyRoom m s
unfolding read_header_body_under read_header_body_untested_under
sentence_3 policy mode max pairRoom keyRoom m s fits =
    record {
      version_1 = lifted _ _ 2 (one_body policy mode max pairRoom keyRoom) m s fits;
      version_2 = lifted _ _ 1 (two_body policy mode max pairRoom keyRoom) m s fits;
      untested = first_refusals.of_body (request_under policy either mode false max pairRoom keyRoom) m s;
    }
