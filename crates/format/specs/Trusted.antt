-- 'How far a half-fetched header may be trusted.' It is proved in proofs/Trusted. Assumes nothing.
use Rattle.std.specs.Prelude.{◌≡◌, List, ℕ, ◌≤◌, ◌<◌, length, take}
use Rattle.format.specs.Read.{Reader, accepted, refused, operation}
use Rattle.format.specs.Context.{Mode, read_aad_section_into, find_value}
use Rattle.format.specs.Keys.{Max, read_encrypted_data_keys_section_into}
use Rattle.format.specs.Body.{Request, read_body}
use Rattle.format.specs.Auth.{read_header_auth_tag}
use Rattle.format.specs.Frames.{read_frames_into}
use Rattle.format.specs.OnlyAuthenticated.{write_only_authenticated}
use Rattle.format.specs.Reissuing.{Reissue, reissued_header_body, reissue_header_body}

-- Two runs with equal start, tables and request: one on the first n bytes of a message, which ends in o, and one on its first n' bytes, no fewer,
-- which ends in o'. `shortage p` is the end in which a run says shortage at p.
pub record TwoRuns {O : Type 0} (shortage : ℕ → O) (n n' : ℕ) (o o' : O) : Type 0 where
  -- 'if the short run accepts, or refuses other than by 2, the long run gives the same'
  pub same : ((p : ℕ) → o ≡ shortage p → ⊥) → o' ≡ o
  -- 'if it says shortage at p, then p is above n'
  pub above : (p : ℕ) → o ≡ shortage p → n < p
  -- 'every run of the same message with n to p - 1 bytes says p too'
  pub still : (p : ℕ) → o ≡ shortage p → n' < p → o' ≡ shortage p
  -- 'and one with p bytes or more never wants p or less'
  pub onward : (p : ℕ) → o ≡ shortage p → p ≤ n' → (q : ℕ) → o' ≡ shortage q → p < q

-- of a reader, a message and a start
pub record Trusted {A : Type 0} (r : Reader A) (m : List ℕ) (s : ℕ) : Type 0 where
  -- one run on the first n bytes, and one on the whole message
  pub whole : (n : ℕ) → n ≤ length m → TwoRuns (refused 2) n (length m) (operation r (take n m) s) (operation r m s)
  -- or on any more of it
  pub longer : (n n' : ℕ) → n ≤ n' → n' ≤ length m → TwoRuns (refused 2) n n' (operation r (take n m) s) (operation r (take n' m) s)
  -- where the whole is accepted, no run wants a byte behind its tail,
  pub none_behind : (a : A) (t : ℕ) → operation r m s ≡ accepted a t → (n : ℕ) → n ≤ length m → (p : ℕ) → operation r (take n m) s ≡ refused 2 p → p ≤ t
  -- and the bytes up to its tail are enough
  pub enough : (a : A) (t : ℕ) → operation r m s ≡ accepted a t → (n : ℕ) → t ≤ n → n ≤ length m → operation r (take n m) s ≡ accepted a t

-- 'the whole is at most 4,294,967,295 bytes'
abbrev pub Trustworthy : {A : Type 0} → Reader A → Type 0
Trustworthy r = (m : List ℕ) (s : ℕ) → length m ≤ 4294967295 → Trusted r m s

pub record Trust : Type 0 where
  pub of_body : (q : Request) → Trustworthy (read_body q)
  pub of_context : (mode : Mode) (room : ℕ) → Trustworthy (read_aad_section_into mode room)
  pub of_keys : (max : Max) (room : ℕ) → Trustworthy (read_encrypted_data_keys_section_into max room)
  pub of_frames : (frame room : ℕ) → Trustworthy (read_frames_into frame room)
  pub of_auth : (suite : ℕ) → Trustworthy (read_header_auth_tag suite)
  pub of_find : (k : List ℕ) → Trustworthy (find_value k)
  pub of_only_authenticated : (text required : List ℕ) (room : ℕ) → Trustworthy (write_only_authenticated text required room)
  pub of_reissued : (a : Reissue) → Trustworthy (reissued_header_body a)
  pub of_reissue : (a : Reissue) (room : ℕ) → Trustworthy (reissue_header_body a room)
