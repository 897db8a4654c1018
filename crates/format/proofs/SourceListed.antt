-- The refusals that the source's reading can answer: 32 and 38 are not among them. Assumes nothing.
use mathlib.Core.Path.{◌≡◌, refl}
use mathlib.Core.Bool.{Bool, true, false}
use mathlib.Core.List.{List, [], ◌∷◌, ◌++◌}
use Prim.Native.Nat.{ℕ}
use lib.Dec.{eqb}
use Rattle.format.specs.Read.{Reader, no_end, refused, operation}
use Rattle.format.specs.Fields.{PairAt}
use Rattle.format.specs.Context.{Mode, tolerant, read_aad_by, ContextAt}
use Rattle.format.specs.Keys.{Max}
use Rattle.format.specs.OnlyAuthenticated.{fitting}
use Rattle.format.specs.Body.{either, Opening, Request}
use Rattle.format.specs.Refusals.{closing_refusals}
use Rattle.format.specs.Source.{source_read_next_aad_pair, source_read_aad_of, source_read_aad_section, source_read_aad_section_into, source_find_value, source_write_only_authenticated, source_read_encrypted_data_keys_section, source_read_encrypted_data_keys_section_into, source_after_context, source_after_opening, source_read_body}
use Rattle.format.proofs.Members.{has, no_member}
use Rattle.format.proofs.ListedLaws.{Listed, listed_as, bind_listed, then_listed, return_listed, test_listed, uint16_listed, repeat_listed, enclosed_listed}
use Rattle.format.proofs.Listed.{look_listed, pair_listed, counted_listed, after_keys_listed, body_numbers, body_listed_by, refuses, never_listed, body_without_2, body_without_32, body_without_38}

next_listed : (acc : List PairAt) → Listed (10 ∷ 11 ∷ 12 ∷ 13 ∷ []) (source_read_next_aad_pair acc)
unfolding source_read_next_aad_pair
next_listed acc = bind_listed (pair_listed no_end) (λ p. then_listed (test_listed 12 _) (then_listed (test_listed 13 _) (return_listed _)))

aad_listed : (mode : Mode) (n : ℕ) → Listed (8 ∷ 21 ∷ 9 ∷ 10 ∷ 11 ∷ 12 ∷ 13 ∷ []) (read_aad_by source_read_next_aad_pair mode n)
unfolding read_aad_by
aad_listed mode n = bind_listed uint16_listed (λ count. then_listed (test_listed 8 _) (then_listed (test_listed 21 _) (then_listed (test_listed 9 _) (repeat_listed count next_listed []))))

abbrev section : List ℕ
section = 8 ∷ 21 ∷ 9 ∷ 10 ∷ 11 ∷ 12 ∷ 13 ∷ 14 ∷ []

of_listed : (mode : Mode) (b : Bool) (n : ℕ) → Listed section (source_read_aad_of mode b n)
unfolding source_read_aad_of
of_listed mode true n = listed_as section refl (return_listed [])
of_listed mode false n = enclosed_listed n 14 (λ e. read_aad_by source_read_next_aad_pair mode n) (λ e. aad_listed mode n)

section_listed : (mode : Mode) → Listed section (source_read_aad_section mode)
unfolding source_read_aad_section
section_listed mode = bind_listed uint16_listed (λ n. of_listed mode (eqb n 0) n)

into_listed : (mode : Mode) (room : ℕ) → Listed (section ++ (22 ∷ [])) (source_read_aad_section_into mode room)
unfolding source_read_aad_section_into
into_listed mode room = bind_listed (section_listed mode) (λ ps. then_listed (test_listed 22 _) (return_listed _))

find_listed : (k : List ℕ) → Listed (section ++ (29 ∷ [])) (source_find_value k)
unfolding source_find_value
find_listed k = bind_listed (section_listed tolerant) (look_listed k)

only_authenticated_listed : (text required : List ℕ) (room : ℕ) → Listed (section ++ (31 ∷ 28 ∷ [])) (source_write_only_authenticated text required room)
unfolding source_write_only_authenticated fitting
only_authenticated_listed text required room = bind_listed (section_listed tolerant) (λ ps. then_listed (test_listed 31 _) (then_listed (test_listed 28 _) (return_listed _)))

-- the key section
abbrev keys : List ℕ
keys = 15 ∷ 16 ∷ []

keys_listed : (max : Max) → Listed keys (source_read_encrypted_data_keys_section max)
unfolding source_read_encrypted_data_keys_section
keys_listed max = bind_listed uint16_listed (counted_listed max)

pub keys_into_listed : (max : Max) (room : ℕ) → Listed (keys ++ (23 ∷ [])) (source_read_encrypted_data_keys_section_into max room)
unfolding source_read_encrypted_data_keys_section_into
keys_into_listed max room = bind_listed (keys_listed max) (λ ks. then_listed (test_listed 23 _) (return_listed _))

pub after_context_listed : (q : Request) (o : Opening) (x : ContextAt) → Listed (keys ++ closing_refusals either q) (source_after_context q o x)
unfolding source_after_context
after_context_listed q o x = bind_listed (keys_listed q.max) (after_keys_listed either q o tt x)

body_listed : (q : Request) → Listed (body_numbers q section keys) (source_read_body q)
unfolding source_read_body source_after_opening source_after_context
body_listed q = body_listed_by q (section_listed q.mode) (keys_listed q.max)

-- neither 32 nor 38
pub record Neither {A : Type 0} (r : Reader A) : Type 0 where
  pub never_32 : (m : List ℕ) (s p : ℕ) → operation r m s ≡ refused 32 p → ⊥
  pub never_38 : (m : List ℕ) (s p : ℕ) → operation r m s ≡ refused 38 p → ⊥

neither : {A : Type 0} (ks : List ℕ) (r : Reader A) → has ks 2 ≡ false → has ks 32 ≡ false → has ks 38 ≡ false → Listed ks r → Neither r
neither ks r no_two no_32 no_38 h =
    let by = refuses ks r (no_member ks 2 no_two) h in
    record { never_32 = never_listed 32 ks no_32 r by; never_38 = never_listed 38 ks no_38 r by }

pub into_neither : (mode : Mode) (room : ℕ) → Neither (source_read_aad_section_into mode room)
into_neither mode room = neither _ _ refl refl refl (into_listed mode room)

pub find_neither : (k : List ℕ) → Neither (source_find_value k)
find_neither k = neither _ _ refl refl refl (find_listed k)

pub only_authenticated_neither : (text required : List ℕ) (room : ℕ) → Neither (source_write_only_authenticated text required room)
only_authenticated_neither text required room = neither _ _ refl refl refl (only_authenticated_listed text required room)

pub keys_neither : (max : Max) (room : ℕ) → Neither (source_read_encrypted_data_keys_section_into max room)
keys_neither max room = neither _ _ refl refl refl (keys_into_listed max room)

pub body_neither : (q : Request) → Neither (source_read_body q)
body_neither q = neither _ _ (body_without_2 q section keys refl refl) (body_without_32 q section keys refl refl) (body_without_38 q section keys refl refl) (body_listed q)
