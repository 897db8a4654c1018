-- A host that fetches just what is wanted: how often it has to fetch, and what it never has to wait for. It is proved in proofs/Fetched.
-- Assumes nothing.
use Rattle.std.specs.Prelude.{◌≡◌, List, [], ◌∷◌, ℕ, ◌+◌, ◌*◌, ◌≤◌, length, take}
use Rattle.format.specs.Read.{Reader, accepted, refused, operation}
use Rattle.format.specs.Serialize.{Bytes}
use Rattle.format.specs.Shared.{by, suite_version}
use Rattle.format.specs.Fields.{EncryptedDataKeyAt, HeaderBody}
use Rattle.format.specs.Context.{Mode, read_aad_section_into, find_value}
use Rattle.format.specs.Keys.{Max, read_encrypted_data_keys_section_into}
use Rattle.format.specs.Body.{Request, read_body}
use Rattle.format.specs.Auth.{read_header_auth_tag}
use Rattle.format.specs.Frames.{FrameAt, read_frames_into}
use Rattle.format.specs.OnlyAuthenticated.{write_only_authenticated}
use Rattle.format.specs.Places.{entry_end}

-- The rounds of a host that has the first n bytes of a message of that size: a run on them says shortage at p, the bytes up to p are fetched, and so on.
-- These are the positions in turn; the last of them may lie beyond the message. `says n p` is that a run on the first n bytes says shortage at p.
abbrev pub Rounds : List ℕ → (ℕ → ℕ → Type 0) → ℕ → ℕ → Type 0
Rounds [] says size n = Unit {0}
Rounds (p ∷ ps) says size n = (n ≤ size) × says n p × Rounds ps says size p

-- there are never more, however many bytes it starts with
abbrev pub NoMoreThan : ℕ → (ℕ → ℕ → Type 0) → ℕ → Type 0
NoMoreThan most says size = (n : ℕ) (ps : List ℕ) → Rounds ps says size n → length ps ≤ most

abbrev pub AtMost : {A : Type 0} → ℕ → Reader A → List ℕ → ℕ → Type 0
AtMost most r m s = NoMoreThan most (λ n p. operation r (take n m) s ≡ refused 2 p) (length m)

pub record FewRounds : Type 0 where
  -- a context section: its length, and the section as a whole, however many pairs it has
  pub of_context : (mode : Mode) (room : ℕ) (m : List ℕ) (s : ℕ) → AtMost 2 (read_aad_section_into mode room) m s
  pub of_find : (k m : List ℕ) (s : ℕ) → AtMost 2 (find_value k) m s
  pub of_only_authenticated : (text required : List ℕ) (room : ℕ) (m : List ℕ) (s : ℕ) → AtMost 2 (write_only_authenticated text required room) m s
  -- an authentication record: its IV, which version 2 has not, and its tag
  pub of_auth : (suite : ℕ) (m : List ℕ) (s : ℕ) → AtMost (by (suite_version suite) 2 1) (read_header_auth_tag suite) m s
  -- a key section: the count, and of each key the length and the bytes of three entries
  pub of_keys : (max : Max) (room : ℕ) (m : List ℕ) (s : ℕ) (ks : List EncryptedDataKeyAt) (t : ℕ) → operation (read_encrypted_data_keys_section_into max room) m s ≡ accepted ks t
      → AtMost (1 + 6 * length ks) (read_encrypted_data_keys_section_into max room) m s
  -- a body: four fields before its context section and four behind its keys, and in version 2 three of each
  pub of_body : (q : Request) (m : List ℕ) (s : ℕ) (b : HeaderBody) (t : ℕ) → operation (read_body q) m s ≡ accepted b t → AtMost (by b.version 11 9 + 6 * length b.keys) (read_body q) m s
  -- frames: four parts each, and the final one six
  pub of_frames : (frame room : ℕ) (m : List ℕ) (s : ℕ) (fs : List FrameAt) (t : ℕ) → operation (read_frames_into frame room) m s ≡ accepted fs t
      → AtMost (4 * length fs + 2) (read_frames_into frame room) m s
  -- and of bytes whatsoever, no more than the largest count of keys makes
  pub of_any_keys : (max : Max) (room : ℕ) (m : List ℕ) (s : ℕ) → Bytes m → AtMost 393211 (read_encrypted_data_keys_section_into max room) m s
  pub of_any_body : (q : Request) (m : List ℕ) (s : ℕ) → Bytes m → AtMost 393221 (read_body q) m s

-- A context section is waited for as a whole once its length is there, and nothing that would end past it is waited for at all. So where the message has
-- the section's end there is no shortage: it is accepted or refused.
abbrev pub NotShort : {A : Type 0} → Reader A → Type 0
NotShort r = (m : List ℕ) (s : ℕ) → entry_end m s ≤ length m → (p : ℕ) → operation r m s ≡ refused 2 p → ⊥

pub record WholeSections : Type 0 where
  pub of_context : (mode : Mode) (room : ℕ) → NotShort (read_aad_section_into mode room)
  pub of_find : (k : List ℕ) → NotShort (find_value k)
  pub of_only_authenticated : (text required : List ℕ) (room : ℕ) → NotShort (write_only_authenticated text required room)
