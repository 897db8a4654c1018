-- The sections and the authentication record as operations of their own: what each accepts, and what it then gives.
-- They are proved in proofs/Sections. Assumes nothing.
use Rattle.std.specs.Prelude.{◌≡◌, true, List, [], ◌∷◌, ◌++◌, map, ℕ, ◌+◌, ◌*◌, ◌≤◌, length, drop}
use Rattle.std.proofs.Math.Option.{none}
use Rattle.format.specs.Read.{accepted, refused, operation}
use Rattle.format.specs.Serialize.{Bytes, images}
use Rattle.format.specs.Shared.{suite_version, iv_length}
use Rattle.format.specs.Fields.{Form, today, old, Pair, PairAt, pair_of, pair_places, EncryptedDataKey, EncryptedDataKeyAt, key_of, key_places}
use Rattle.format.specs.Context.{section_in, Mode, tolerant, strict, read_aad_section_into}
use Rattle.format.specs.Keys.{Max, within, write_encrypted_data_keys_section, read_encrypted_data_keys_section_into}
use Rattle.format.specs.Auth.{HeaderAuth, zeros, read_header_auth_tag, write_header_auth_tag}
use Rattle.format.specs.Checks.{first, pairs_checks, keys_checks, auth_checks}
use Rattle.format.specs.Lent.{filled, pairs_in, keys_in, Writing, written, output_after, writing_aad_section, writing_encrypted_data_keys_section}
use Rattle.format.specs.Demand3.{Held, Each}

-- the strict reader refuses the old form of an empty context
abbrev pub Allowed : Mode → Form → List Pair → Type 0
Allowed tolerant form ps = Unit {0}
Allowed strict today ps = Unit {0}
Allowed strict old [] = ⊥
Allowed strict old (p ∷ ps) = Unit {0}

-- from s on, the message begins with the section, in that form, of pairs that the writer accepts; the table holds them
pub record ContextStands (mode : Mode) (room : ℕ) (m : List ℕ) (s : ℕ) (form : Form) (ps : List Pair) : Type 0 where
  pub accepts : first (pairs_checks ps) ≡ none
  pub allowed : Allowed mode form ps
  pub after : List ℕ
  pub bytes : drop s m ≡ section_in form ps ++ after
  pub held : 4 * length ps ≤ room

pub record ContextLaw (mode : Mode) (room : ℕ) (m : List ℕ) (s : ℕ) : Type 0 where
  pub only : (ps : List PairAt) (t : ℕ) → operation (read_aad_section_into mode room) m s ≡ accepted ps t
      → (form : Form) × ContextStands mode room m s form (map pair_of ps) × (t ≡ s + length (section_in form (map pair_of ps))) × Each (Held m) (images pair_places ps)
  pub all : length m ≤ 4294967295 → (form : Form) (ps : List Pair) → ContextStands mode room m s form ps
      → (places : List PairAt) × (operation (read_aad_section_into mode room) m s ≡ accepted places (s + length (section_in form ps))) × (map pair_of places ≡ ps)
      × Each (Held m) (images pair_places places)

-- from s on, the message begins with the section of keys that the writer accepts; the maximum is not passed and the table holds them
pub record KeysStand (max : Max) (room : ℕ) (m : List ℕ) (s : ℕ) (ks : List EncryptedDataKey) : Type 0 where
  pub accepts : first (keys_checks ks) ≡ none
  pub max_not_passed : within (length ks) max ≡ true
  pub after : List ℕ
  pub bytes : drop s m ≡ write_encrypted_data_keys_section ks ++ after
  pub held : 6 * length ks ≤ room

pub record KeysLaw (max : Max) (room : ℕ) (m : List ℕ) (s : ℕ) : Type 0 where
  pub only : (ks : List EncryptedDataKeyAt) (t : ℕ) → operation (read_encrypted_data_keys_section_into max room) m s ≡ accepted ks t
      → KeysStand max room m s (map key_of ks) × (t ≡ s + length (write_encrypted_data_keys_section (map key_of ks))) × Each (Held m) (images key_places ks)
  pub all : length m ≤ 4294967295 → (ks : List EncryptedDataKey) → KeysStand max room m s ks
      → (places : List EncryptedDataKeyAt) × (operation (read_encrypted_data_keys_section_into max room) m s ≡ accepted places (s + length (write_encrypted_data_keys_section ks)))
      × (map key_of places ≡ ks) × Each (Held m) (images key_places places)

-- from s on, the message begins with the record; that of version 2 has no IV, and reads as one of zeros
pub record AuthStands (suite : ℕ) (m : List ℕ) (s : ℕ) (a : HeaderAuth) : Type 0 where
  pub accepts : first (auth_checks suite (length a.headerIv) (length a.headerAuthTag)) ≡ none
  pub iv_of_version_2 : suite_version suite ≡ 2 → a.headerIv ≡ zeros iv_length
  pub after : List ℕ
  pub bytes : drop s m ≡ write_header_auth_tag suite a.headerIv a.headerAuthTag ++ after

pub record AuthLaw (suite : ℕ) (m : List ℕ) (s : ℕ) : Type 0 where
  pub only : (a : HeaderAuth) (t : ℕ) → operation (read_header_auth_tag suite) m s ≡ accepted a t
      → AuthStands suite m s a × (t ≡ s + length (write_header_auth_tag suite a.headerIv a.headerAuthTag))
  pub all : length m ≤ 4294967295 → (a : HeaderAuth) → AuthStands suite m s a
      → operation (read_header_auth_tag suite) m s ≡ accepted a (s + length (write_header_auth_tag suite a.headerIv a.headerAuthTag))

-- every writer: where no refusal applies it leaves its image and answers its length, and on a refusal it leaves the output as it was
pub record WriterLaw (w : Writing) (out : List ℕ) : Type 0 where
  pub writes : first w.checks ≡ none → length w.image ≤ length out → (written w out ≡ accepted tt (length w.image)) × (output_after w out ≡ filled w.image out)
  pub only_then : (n : ℕ) → written w out ≡ accepted tt n
      → (first w.checks ≡ none) × (n ≡ length w.image) × (n ≤ length out) × (output_after w out ≡ filled w.image out)
  pub keeps : (k p : ℕ) → written w out ≡ refused k p → (p ≡ 0) × (output_after w out ≡ out)
  pub as_long : length (output_after w out) ≡ length out

-- what a section writer leaves is read back
pub record ReadBack (text table out : List ℕ) : Type 0 where
  pub pairs : (n : ℕ) → written (writing_aad_section text table) out ≡ accepted tt n → length out ≤ 4294967295 → (mode : Mode) (room : ℕ) → 4 * length (pairs_in text table) ≤ room
      → (places : List PairAt) × (operation (read_aad_section_into mode room) (output_after (writing_aad_section text table) out) 0 ≡ accepted places n) × (map pair_of places ≡ pairs_in text table)
  pub keys : (n : ℕ) → written (writing_encrypted_data_keys_section text table) out ≡ accepted tt n → length out ≤ 4294967295 → (max : Max) (room : ℕ) → 6 * length (keys_in text table) ≤ room
      → within (length (keys_in text table)) max ≡ true
      → (places : List EncryptedDataKeyAt) × (operation (read_encrypted_data_keys_section_into max room) (output_after (writing_encrypted_data_keys_section text table) out) 0 ≡ accepted places n)
      × (map key_of places ≡ keys_in text table)

pub record SectionLaws : Type 0 where
  pub writers : (w : Writing) (out : List ℕ) → WriterLaw w out
  pub read_back : (text table out : List ℕ) → ReadBack text table out
  pub context : (mode : Mode) (room : ℕ) (m : List ℕ) (s : ℕ) → Bytes m → ContextLaw mode room m s
  pub keys : (max : Max) (room : ℕ) (m : List ℕ) (s : ℕ) → Bytes m → KeysLaw max room m s
  pub auth : (suite : ℕ) (m : List ℕ) (s : ℕ) → Bytes m → AuthLaw suite m s
