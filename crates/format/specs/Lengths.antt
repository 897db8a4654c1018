-- The lengths that demand 3 has on both of its sides, as numbers: 65,534 for the pairs, 16 and 32 for the ID, 12 and 0 for the stored IV
-- length, 0 and 32 for the suite data, 12 and 16 for the authentication record. They are proved in proofs/Lengths. Assumes nothing.
use Rattle.std.specs.Prelude.{◌≡◌, List, [], ◌∷◌, ◌++◌, map, ℕ, ◌+◌, ◌≤◌, ◌<◌, length}
use Rattle.std.proofs.Math.Option.{none, some}
use Rattle.format.specs.Read.{success, error, no_end, accepted, operation}
use Rattle.format.specs.Serialize.{Bytes, images}
use Rattle.format.specs.Shared.{by, suite_version}
use Rattle.format.specs.Fields.{Form, Pair, PairAt, pair_of, pair_parts, Fields, HeaderBody}
use Rattle.format.specs.Context.{linear_length, Mode, read_aad_pair, read_aad_section_into}
use Rattle.format.specs.Source.{source_read_next_aad_pair}
use Rattle.format.specs.Keys.{Max}
use Rattle.format.specs.Policies.{Policy}
use Rattle.format.specs.Body.{Which, Opening, read_opening, read_header_body}
use Rattle.format.specs.Auth.{HeaderAuth, read_header_auth_tag}
use Rattle.format.specs.Checks.{first, each, count_checks, pair_checks, pairs_checks, auth_checks, Accepts}
use Rattle.format.specs.Demand3.{Has}

-- a statement holds just where another does
pub record JustWhere (P Q : Type 0) : Type 0 where
  pub onward : P → Q
  pub back : Q → P

-- the pair that stands at l is read, its key is new, and with it the pairs acc take 65,534 bytes or more
pub record TakesTooMuch (acc : List PairAt) (l : List ℕ) (s : ℕ) : Type 0 where
  pub pair : PairAt
  pub left : List ℕ
  pub tail : ℕ
  pub is_read : read_aad_pair no_end l s ≡ success pair left tail
  pub new : Has pair.key.bytes acc → ⊥
  pub too_much : 65534 ≤ linear_length (map pair_of (acc ++ (pair ∷ [])))

-- by version: the type, the ID's length, the stored IV length and the suite data's length
pub data Sized : (version type id iv suiteData : ℕ) → Type 0 where
  version_1 : Sized 1 0x80 16 12 0
  version_2 : Sized 2 0 32 0 32

-- and what stands before the context section: the ID's length, and where it ends
pub data OpeningSized (s : ℕ) : (version id tail : ℕ) → Type 0 where
  opening_1 : OpeningSized s 1 16 (s + 20)
  opening_2 : OpeningSized s 2 32 (s + 35)

-- The lengths that stand on both sides, as numbers: what is read has them, and what is written.
pub record Lengths : Type 0 where
  -- 65,534, and what refuses by it: the source's reading, and the writer
  pub pairs_read : (mode : Mode) (room : ℕ) (m : List ℕ) (s : ℕ) → Bytes m → (ps : List PairAt) (t : ℕ) → operation (read_aad_section_into mode room) m s ≡ accepted ps t
      → linear_length (map pair_of ps) < 65534
  pub pairs_refused : (acc : List PairAt) (l : List ℕ) (s : ℕ) → JustWhere (source_read_next_aad_pair acc l s ≡ error 13) (TakesTooMuch acc l s)
  pub pairs_written : (ps : List Pair) → first (pairs_checks ps) ≡ none → linear_length ps < 65534
  pub pairs_not_written : (ps : List Pair) → first (count_checks (length ps) (images pair_parts ps) ++ each pair_checks [] ps) ≡ none
      → JustWhere (first (pairs_checks ps) ≡ some 13) (65534 ≤ linear_length ps)
  -- 16, 32 and 12
  pub opening_read : (which : Which) (policy : Policy) (m : List ℕ) (s : ℕ) → Bytes m → (o : Opening) (t : ℕ) → operation (read_opening which policy) m s ≡ accepted o t
      → OpeningSized s o.version (length o.messageId.bytes) t
  pub body_read : (which : Which) (mode : Mode) (max : Max) (pairRoom keyRoom : ℕ) (m : List ℕ) (s : ℕ) → Bytes m → (b : HeaderBody) (t : ℕ)
      → operation (read_header_body which mode max pairRoom keyRoom) m s ≡ accepted b t
      → Sized b.version b.messageType (length b.messageId.bytes) b.headerIvLength (length b.suiteData.bytes)
  pub body_written : (form : Form) (f : Fields) → Accepts form f → Sized f.version f.messageType (length f.messageId) f.headerIvLength (length f.suiteData)
  -- the authentication record: 12 and 16, of which version 2 stores the tag alone
  pub auth_read : (suite : ℕ) (m : List ℕ) (s : ℕ) → Bytes m → (a : HeaderAuth) (t : ℕ) → operation (read_header_auth_tag suite) m s ≡ accepted a t
      → (length a.headerIv ≡ 12) × (length a.headerAuthTag ≡ 16) × (t ≡ s + by (suite_version suite) 28 16)
  pub auth_written : (suite iv tag : ℕ) → first (auth_checks suite iv tag) ≡ none → (iv ≡ 12) × (tag ≡ 16)
