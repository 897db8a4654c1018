-- Ours beside what the source's writers would do with the same checks but for 38. Assumes nothing.
use mathlib.Core.Path.{◌≡◌, refl, ap, ◌∙◌}
use mathlib.Core.Bool.{true, not}
use mathlib.Core.Option.{none, some}
use mathlib.Core.List.{List, [], ◌∷◌, ◌++◌}
use Prim.Native.Nat.{ℕ}
use native.Mathlib.Omega.{arith}
use lib.Dec.{eqb}
use lib.ListN.{length}
use Rattle.format.specs.Read.{accepted, refused}
use Rattle.format.specs.Serialize.{write_uint16, images, every}
use Rattle.format.specs.Fields.{EncryptedDataKey, key_parts}
use Rattle.format.specs.Keys.{write_encrypted_data_keys, write_encrypted_data_keys_section}
use Rattle.format.specs.Policies.{no_policy}
use Rattle.format.specs.Checks.{first, each, count_checks, key_checks, keys_checks, form_checks, opening_checks, pairs_checks, body_checks_under}
use Rattle.format.specs.Lent.{keys_in, table_checks, Writing, refusal_of, size_of, BodyToWrite, fields_to_write, writing_encrypted_data_keys_section, writing_header_body_under, writing_header_body}
use Rattle.format.specs.Source.{source_keys_checks, source_writing_encrypted_data_keys_section, source_writing_header_body}
use Rattle.format.specs.SourceEquality.{WrittenAlike}
use Rattle.format.proofs.Tests.{neqb_is}
use Rattle.format.proofs.Firsts.{first_none, first_pass, first_cong, first_front}

-- writers with one image whose checks find the same
alike : (w w' : Writing) → first w.checks ≡ first w'.checks → w.image ≡ w'.image → WrittenAlike w w'
unfolding refusal_of
alike w w' e i =
    record {
      answer = λ out. rw (i, first_front w.checks w'.checks _ e) refl;
      output = λ out. rw (i, first_front w.checks w'.checks _ e) refl;
      size = rw (e, i) refl;
    }

-- with a key, 38 passes
some_pass : (ks : List EncryptedDataKey) → (ks ≡ [] → ⊥) → not (eqb (length ks) 0) ≡ true
some_pass [] h = absurd (h refl)
some_pass (k ∷ ks) h = ap not (neqb_is (length (k ∷ ks)) 0 (λ z. omega arith))

same_keys : (ks : List EncryptedDataKey) → (ks ≡ [] → ⊥) → first (keys_checks ks) ≡ first (source_keys_checks ks)
unfolding keys_checks source_keys_checks
same_keys ks h = first_cong (count_checks (length ks) (images key_parts ks)) _ _ (λ q. first_pass 38 _ (each key_checks [] ks) (some_pass ks h))

pub keys_written : (text table : List ℕ) → (keys_in text table ≡ [] → ⊥) → WrittenAlike (writing_encrypted_data_keys_section text table) (source_writing_encrypted_data_keys_section text table)
unfolding writing_encrypted_data_keys_section source_writing_encrypted_data_keys_section
keys_written text table h = alike _ _ (first_cong (table_checks 6 text table) _ _ (λ q. same_keys (keys_in text table) h)) refl

pub body_written : (b : BodyToWrite) → ((fields_to_write b).keys ≡ [] → ⊥) → WrittenAlike (writing_header_body b) (source_writing_header_body b)
unfolding writing_header_body_under source_writing_header_body body_checks_under
body_written b h =
    let f = fields_to_write b in
    let k₂₆ = table_checks 6 b.text b.keyTable in
    alike _ _
    (first_cong (opening_checks no_policy f.version f.messageType f.suite (length f.messageId)) _ _ λ q.
    first_cong (table_checks 4 b.text b.pairTable ++ pairs_checks f.pairs) _ _ λ q.
    first_cong (form_checks b.form (length f.pairs)) _ _ λ q.
    first_front (k₂₆ ++ keys_checks f.keys) (k₂₆ ++ source_keys_checks f.keys) _ (first_cong k₂₆ _ _ λ q. same_keys f.keys h))
    refl

-- without one
pub no_keys_written : (text table : List ℕ) → keys_in text table ≡ [] → first (table_checks 6 text table) ≡ none
    → (size_of (writing_encrypted_data_keys_section text table) ≡ refused 38 0) × (size_of (source_writing_encrypted_data_keys_section text table) ≡ accepted tt 2)
unfolding writing_encrypted_data_keys_section source_writing_encrypted_data_keys_section keys_checks source_keys_checks first each images every write_encrypted_data_keys_section write_encrypted_data_keys write_uint16
no_keys_written text table none_there e =
    let ours : first (table_checks 6 text table ++ keys_checks (keys_in text table)) ≡ some 38 = first_none (table_checks 6 text table) _ e ∙ rw none_there refl in
    let theirs : first (table_checks 6 text table ++ source_keys_checks (keys_in text table)) ≡ none = first_none (table_checks 6 text table) _ e ∙ rw none_there refl in
    (rw ours refl, rw (theirs, none_there) refl)
