-- Where the sections of a body stand in its message, their bytes are those that would be written of its pairs and keys. Assumes nothing.
use mathlib.Core.Path.{◌≡◌, refl, sym, ap, ◌∙◌}
use mathlib.Core.Bool.{true}
use mathlib.Core.List.{List, [], ◌∷◌, map}
use Prim.Native.Nat.{ℕ, ◌≤◌}
use native.Mathlib.Omega.{arith}
use lib.ListN.{length, length-append, length-drop}
use Rattle.format.specs.Read.{accepted, at}
use Rattle.format.specs.Serialize.{Bytes}
use Rattle.format.specs.Fields.{Form, today, old, Pair, EncryptedDataKey, EncryptedDataKeyAt, pair_of, key_of, fields_of}
use Rattle.format.specs.Context.{tolerant, section_in, write_aad_pair, read_aad_section, ContextAt, with_mark}
use Rattle.format.specs.Keys.{no_max, write_encrypted_data_key, write_encrypted_data_keys_section, read_encrypted_data_keys_section}
use Rattle.format.specs.Body.{Opening, Closing, whole}
use Rattle.format.specs.Checks.{fits_form}
use Rattle.format.specs.Reissued.{TakenOver}
use Rattle.format.proofs.Exact.{map_puts}
use Rattle.format.proofs.Context.{pair_at, Context, context_bytes}
use Rattle.format.proofs.Marked.{old_has_none, marked_exact}
use Rattle.format.proofs.Keys.{key_at, keys_exact}
use Rattle.format.proofs.Messages.{at_took}
use Rattle.format.proofs.Drafts.{section_length}
use Rattle.format.proofs.Apart.{there}

-- with a pair, both forms are the same
in_todays : (form : Form) (ps : List Pair) → fits_form form (length ps) ≡ true → (ps ≡ [] → ⊥) → section_in form ps ≡ section_in today ps
in_todays today ps e h = refl
in_todays old [] e h = absurd (h refl)
in_todays old (p ∷ ps) e h = old_has_none p ps e

none_of : {A B : Type 0} (f : A → B) (xs : List A) → map f xs ≡ [] → xs ≡ []
none_of f [] e = refl
none_of f (x ∷ xs) e = let z : ◌≡◌ {A = ℕ} 0 1 = cc in absurd (omega arith)

some_keys : (ks : List EncryptedDataKey) → 2 ≤ length (write_encrypted_data_keys_section ks)
some_keys ks = let l = section_length ks in omega arith

module _ (m : List ℕ) (hb : Bytes m) (o : Opening) (first : ℕ) (x : ContextAt) (second : ℕ) (paired : at (with_mark (read_aad_section tolerant)) m first ≡ accepted x second)
    (ks : List EncryptedDataKeyAt) (third : ℕ) (keyed : at (read_encrypted_data_keys_section no_max) m second ≡ accepted ks third) (c : Closing) where
  pub taken_over : TakenOver m (whole o x ks c) first second third
  unfolding fields_of
  taken_over =
      let (l, context) = at_took (marked_exact tolerant) m first hb x second paired in
      let (l', section) = at_took (keys_exact no_max) m second hb ks third keyed in
      let v : Context = context.value in
      let js : List EncryptedDataKey = section.value in
      let pairs_are : map pair_of x.pairs ≡ v.pairs = ap (λ (y : ContextAt). map pair_of y.pairs) context.placed ∙ map_puts write_aad_pair pair_at pair_of (λ s p. refl) _ v.pairs in
      let keys_are : map key_of ks ≡ js = ap (map key_of) section.placed ∙ map_puts write_encrypted_data_key key_at key_of (λ s p. refl) _ js in
      record {
        context = λ some.
            there m first (context_bytes v) l second context.split context.tail
            ∙ in_todays v.form v.pairs context.good.fits (λ none. some (none_of pair_of x.pairs (pairs_are ∙ none)))
            ∙ ap (section_in today) (sym pairs_are);
        keys = there m second _ l' third section.split section.tail ∙ ap write_encrypted_data_keys_section (sym keys_are);
        forward = (
          (let z = context.tail in omega arith),
          (let z = section.tail in omega arith),
          (let z = section.tail in let n = ap length section.split in let k = length-append (write_encrypted_data_keys_section js) l' in let d = length-drop second m in let y = some_keys js in omega arith),
        );
      }
