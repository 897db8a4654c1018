-- A body without tables is read as with them, but for their two tests, which come last. Assumes nothing.
use mathlib.Core.Path.{◌≡◌, refl, ap}
use mathlib.Core.Bool.{Bool, true, false}
use mathlib.Core.List.{List}
use Prim.Native.Nat.{ℕ}
use lib.Dec.{eqb}
use lib.ListN.{drop}
use Rattle.format.specs.Read.{ReadResult, success, more_needed, error, Reader, go_on, ◌>>=◌, ◌>>◌, return, test, Answer, refused, answer, at, addressable, operation}
use Rattle.format.specs.Fields.{HeaderBody}
use Rattle.format.specs.Context.{tolerant, read_aad_section, with_mark}
use Rattle.format.specs.Keys.{no_max, read_encrypted_data_keys_section}
use Rattle.format.specs.Policies.{no_policy}
use Rattle.format.specs.Body.{Which, read_opening, read_closing, tests_frames, request, after_keys, after_context, after_opening, read_body, read_header_body_under}
use Rattle.format.specs.Mending.{without_tables}
use Rattle.format.specs.Mended.{tables_hold, WithoutTables}

-- a reader that goes on as another does before its last part
last : {A B : Type 0} (x : ReadResult A) (f g : A → Reader B) (h : B → Reader B) → ((a : A) (l : List ℕ) (t : ℕ) → g a l t ≡ go_on (f a l t) h) → go_on x g ≡ go_on (go_on x f) h
last (success a l t) f g h e = e a l t
last (more_needed p) f g h e = refl
last (error k) f g h e = refl

same_operation : {A : Type 0} (r q : Reader A) (m : List ℕ) (s : ℕ) → r (drop s m) s ≡ q (drop s m) s → operation r m s ≡ operation q m s
unfolding operation at
same_operation {A} r q m s e = ap (λ x. elim (addressable m s) as (λ c. Answer A) [ true ↦ answer x | false ↦ refused 1 0 ]) e

module _ (which : Which) (pairRoom keyRoom : ℕ) where
  behind_20 : (fits : Bool) (b : HeaderBody) (l : List ℕ) (t : ℕ)
      → (test 20 fits >> tables_hold pairRoom keyRoom b) l t ≡ go_on ((test 20 fits >> (test 22 true >> (test 23 true >> return b))) l t) (tables_hold pairRoom keyRoom)
  unfolding ◌>>◌ test return
  behind_20 true b l t = refl
  behind_20 false b l t = refl

  tables_last : (l : List ℕ) (s : ℕ) → read_body (request which tolerant (tests_frames which) no_max pairRoom keyRoom) l s ≡ (read_body (without_tables which) >>= tables_hold pairRoom keyRoom) l s
  unfolding read_body after_opening after_context after_keys ◌>>=◌
  tables_last l s =
      last (read_opening which no_policy l s) _ _ _ (λ o l t.
      last (with_mark (read_aad_section tolerant) l t) _ _ _ (λ x l t.
      last (read_encrypted_data_keys_section no_max l t) _ _ _ (λ ks l t.
      last (read_closing (eqb o.version 1) l t) _ _ _ (λ c l t. behind_20 _ _ l t))))

pub without_tables_or_maximum : WithoutTables
unfolding read_header_body_under
without_tables_or_maximum = record { tables_come_last = λ which pairRoom keyRoom m s. same_operation _ _ m s (tables_last which pairRoom keyRoom (drop s m) s) }
