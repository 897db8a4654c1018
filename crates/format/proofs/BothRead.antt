-- Ours beside the source's reading, reader by reader. Assumes nothing.
use mathlib.Core.Path.{◌≡◌, refl, ap}
use mathlib.Core.Bool.{Bool, true, false, not}
use mathlib.Core.Logic.{◌⊎◌, inl, inr}
use mathlib.Core.List.{List, ◌∷◌}
use Prim.Native.Nat.{ℕ, ◌+◌}
use lib.Dec.{eqb}
use lib.ListN.{length}
use Rattle.format.specs.Read.{ReadResult, success, more_needed, error, Reader, go_on, ◌>>=◌, ◌>>◌, test, refused, answer}
use Rattle.format.specs.Serialize.{Bytes, read_uint16}
use Rattle.format.specs.Fields.{PairAt, EncryptedDataKeyAt}
use Rattle.format.specs.Context.{Mode, tolerant, read_aad_section, ContextAt, mark, with_mark, read_aad_section_into, find_value}
use Rattle.format.specs.OnlyAuthenticated.{write_only_authenticated}
use Rattle.format.specs.Keys.{Max, read_encrypted_data_keys_of, read_encrypted_data_keys_section, read_encrypted_data_keys_section_into}
use Rattle.format.specs.Body.{either, Opening, Request, after_context, after_opening, read_body}
use Rattle.format.specs.Source.{source_read_aad_section, source_read_aad_section_into, source_find_value, source_write_only_authenticated, source_read_encrypted_data_keys_section, source_read_encrypted_data_keys_section_into, source_after_context, source_after_opening, source_read_body}
use Rattle.format.proofs.Section.{Alike, of_alike}
use Rattle.format.proofs.Members.{has}
use Rattle.format.proofs.ListedLaws.{Listed, not_listed}
use Rattle.format.proofs.ListedEnds.{closing_without}
use Rattle.format.proofs.WantedLaws.{Near, Header, uint16_wants}
use Rattle.format.proofs.Wanted.{opening_wants, section_wants, marked_wants}
use Rattle.format.proofs.SourceListed.{keys_into_listed, after_context_listed}

-- two readers that answer alike on bytes, at every place
pub record BothRead {A : Type 0} (r r' : Reader A) : Type 0 where
  pub alike : (l : List ℕ) (s : ℕ) → Bytes l → Alike (r l s) (r' l s)

module _ {A B : Type 0} where
  goes_on : (f : A → Reader B) (x y : ReadResult A) → Alike x y → Alike (go_on x f) (go_on y f)
  goes_on f x y (inl q) = inl (ap (λ w. go_on w f) q)
  goes_on f x (success a l t) (inr (q, p)) = absurd p
  goes_on f x (more_needed w) (inr (q, p)) = inr (rw q refl, tt)
  goes_on f x (error k) (inr (q, p)) = inr (rw q refl, tt)

  -- one of the two and then the same; and the same and then one of the two
  first_differs : {r r' : Reader A} (f : A → Reader B) → BothRead r r' → BothRead (r >>= f) (r' >>= f)
  unfolding ◌>>=◌
  first_differs {r} {r'} f h = record { alike = λ l s hb. goes_on f (r l s) (r' l s) (h.alike l s hb) }

  then_differs : {good : A → Type 0} {r : Reader A} {f f' : A → Reader B} → Header good r → ((a : A) → good a → BothRead (f a) (f' a)) → BothRead (r >>= f) (r >>= f')
  unfolding ◌>>=◌
  then_differs {good} {r} {f} {f'} w h = record { alike = λ l s hb. go (s + length l) (r l s) (w.near l s hb) }
    where
      go : (n : ℕ) (x : ReadResult A) → Near 65536 good n x → Alike (go_on x f) (go_on x f')
      go n (success a l t) g = (h a g.0).alike l t g.1
      go n (more_needed p) g = inl refl
      go n (error k) g = inl refl

-- the readers
pub section_both : (mode : Mode) → BothRead (read_aad_section mode) (source_read_aad_section mode)
unfolding read_aad_section source_read_aad_section
section_both mode = then_differs uint16_wants (λ n few. record { alike = λ l s hb. of_alike mode (eqb n 0) n few l s })

pub marked_both : {r r' : Reader (List PairAt)} → BothRead r r' → BothRead (with_mark r) (with_mark r')
unfolding with_mark
marked_both {r} {r'} h = record { alike = λ l s hb. goes_on (mark s) (r l s) (r' l s) (h.alike l s hb) }

pub into_both : (mode : Mode) (room : ℕ) → BothRead (read_aad_section_into mode room) (source_read_aad_section_into mode room)
unfolding read_aad_section_into source_read_aad_section_into
into_both mode room = first_differs _ (section_both mode)

pub find_both : (k : List ℕ) → BothRead (find_value k) (source_find_value k)
unfolding find_value source_find_value
find_both k = first_differs _ (section_both tolerant)

pub only_authenticated_both : (text required : List ℕ) (room : ℕ) → BothRead (write_only_authenticated text required room) (source_write_only_authenticated text required room)
unfolding write_only_authenticated source_write_only_authenticated
only_authenticated_both text required room = first_differs _ (section_both tolerant)

-- WITH KEYS: alike but for 32; or ours refuses 38, and the source's reading does not refuse 13, which is a context section's
abbrev pub Not13 : {A : Type 0} → ReadResult A → Type 0
Not13 y = (p : ℕ) → answer y ≡ refused 13 p → ⊥

abbrev pub AlikeButKeys : {A : Type 0} → ReadResult A → ReadResult A → Type 0
AlikeButKeys x y = Alike x y ⊎ ((x ≡ error 38) × Not13 y)

pub record BothReadKeys {A : Type 0} (r r' : Reader A) : Type 0 where
  pub alike : (l : List ℕ) (s : ℕ) → Bytes l → AlikeButKeys (r l s) (r' l s)

pub without_keys : {A : Type 0} {r r' : Reader A} → BothRead r r' → BothReadKeys r r'
without_keys h = record { alike = λ l s hb. inl (h.alike l s hb) }

-- the key section, with something behind it
module _ {B : Type 0} (max : Max) (f : List EncryptedDataKeyAt → Reader B) {ks : List ℕ} (h : Listed ks (source_read_encrypted_data_keys_section max >>= f)) (no_13 : has (2 ∷ ks) 13 ≡ false) where
  by_count : (b : Bool) (r : Reader (List EncryptedDataKeyAt)) (l : List ℕ) (t : ℕ) → Not13 (go_on (r l t) f) → AlikeButKeys (go_on ((test 38 (not b) >> r) l t) f) (go_on (r l t) f)
  unfolding test ◌>>◌
  by_count true r l t n = inr (refl, n)
  by_count false r l t n = inl (inl refl)

  counted : (x : ReadResult ℕ) → Not13 (go_on (go_on x (read_encrypted_data_keys_of max)) f)
      → AlikeButKeys (go_on (go_on x (λ count. test 38 (not (eqb count 0)) >> read_encrypted_data_keys_of max count)) f) (go_on (go_on x (read_encrypted_data_keys_of max)) f)
  counted (success count l t) n = by_count (eqb count 0) (read_encrypted_data_keys_of max count) l t n
  counted (more_needed p) n = inl (inl refl)
  counted (error k) n = inl (inl refl)

  keys_both : BothReadKeys (read_encrypted_data_keys_section max >>= f) (source_read_encrypted_data_keys_section max >>= f)
  unfolding read_encrypted_data_keys_section source_read_encrypted_data_keys_section ◌>>=◌
  keys_both = record { alike = λ l s hb. counted (read_uint16 l s) (not_listed h 13 no_13 l s) }

pub keys_into_both : (max : Max) (room : ℕ) → BothReadKeys (read_encrypted_data_keys_section_into max room) (source_read_encrypted_data_keys_section_into max room)
unfolding read_encrypted_data_keys_section_into source_read_encrypted_data_keys_section_into
keys_into_both max room = keys_both max _ (keys_into_listed max room) refl

-- a body: the two part in its context section, or else in its keys
module _ {A B : Type 0} {good : A → Type 0} {r r' : Reader A} {f f' : A → Reader B} (w : Header good r) (h : BothRead r r') (g : (a : A) → BothReadKeys (f a) (f' a)) where
  both_differ : BothReadKeys (r >>= f) (r' >>= f')
  unfolding ◌>>=◌
  both_differ = record { alike = λ l s hb. go (s + length l) (r l s) (r' l s) (w.near l s hb) (h.alike l s hb) }
    where
      go : (n : ℕ) (x y : ReadResult A) → Near 65536 good n x → Alike x y → AlikeButKeys (go_on x f) (go_on y f')
      go n (success a l t) y k (inl q) = rw (← q) ((g a).alike l t k.1)
      go n (more_needed p) y k (inl q) = rw (← q) (inl (inl refl))
      go n (error j) y k (inl q) = rw (← q) (inl (inl refl))
      go n x (success a l t) k (inr (q, p)) = absurd p
      go n x (more_needed p) k (inr (q, i)) = inl (inr (rw q refl, tt))
      go n x (error j) k (inr (q, i)) = inl (inr (rw q refl, tt))

after_context_both : (q : Request) (o : Opening) (x : ContextAt) → BothReadKeys (after_context q o x) (source_after_context q o x)
unfolding after_context source_after_context
after_context_both q o x = keys_both q.max _ (after_context_listed q o x) (closing_without either q).1

pub body_both : (q : Request) → BothReadKeys (read_body q) (source_read_body q)
unfolding read_body source_read_body after_opening source_after_opening
body_both q = both_differ (opening_wants q.which q.policy) (record { alike = λ l s hb. inl refl }) (λ o. both_differ (marked_wants (section_wants q.mode)) (marked_both (section_both q.mode)) (after_context_both q o))
