-- How far a half-fetched message may be trusted, of the code: two calls with equal start, tables and request, one on the first n bytes of a message and
-- one on the whole of it, which may itself be the first bytes of a longer one. Proved in proofs/Trusted. Assumes nothing.
use Rattle.std.specs.Prelude.{ℕ, ◌+◌, ◌*◌, ◌≤◌, ◌≡◌, List, length, take, Result, Ok, Err}
use Rattle.format.specs.Read.{Reader, Answer, operation}
use Rattle.format.specs.Serialize.{Bytes}
use Rattle.format.specs.Shared.{by}
use Rattle.format.specs.Context.{Mode, read_aad_section_into, find_value}
use Rattle.format.specs.Keys.{Max, read_encrypted_data_keys_section_into}
use Rattle.format.specs.Policies.{Policy}
use Rattle.format.specs.Body.{Which}
use Rattle.format.specs.Auth.{read_header_auth_tag}
use Rattle.format.specs.Frames.{read_frames_into}
use Rattle.format.specs.Lent.{pair_numbers, key_numbers, frame_numbers}
use Rattle.format.specs.OnlyAuthenticated.{write_only_authenticated}
use Rattle.format.specs.Reissuing.{Reissue, reissued_header_body, reissue_header_body}
use Rattle.format.specs.Places.{entry_end}
use Rattle.format.specs.Trusted.{TwoRuns}
use Rattle.format.specs.Fetched.{NoMoreThan}
use Rattle.wire.specs.Codes.{because}
use Rattle.wire.specs.declared.refusals.Refusal.{Refusal}
use Rattle.wire.specs.declared.SuccessfulRead.{SuccessfulRead}
use Rattle.entries.specs.Codes.{Reads, counted}
use Rattle.context.specs.Codes.{found_of}
use Rattle.context.specs.declared.Place.{Place}
use Rattle.auth.specs.Codes.{auth_of}
use Rattle.auth.specs.declared.HeaderAuth.{HeaderAuth}
use Rattle.checks.specs.Answers.{written_as, whole}
use Rattle.body_reader.specs.declared.HeaderBody.{HeaderBody}
use Rattle.promises.specs.Reader.{Call, reading_under, Meets}

-- what a call leaves that is lent a table or an output: its answer, and what that holds afterwards
pub record Left (R : Type 0) : Type 0 where
  pub answer : R
  pub lent : List ℕ

abbrev pub left : {R : Type 0} → R → List ℕ → Left R
left r after = record { answer = r; lent = after }

-- BODIES. A call leaves its answer, and what both tables hold afterwards; and this where it says shortage at p
pub record BodyLeft : Type 0 where
  pub answer : Result (SuccessfulRead HeaderBody) Refusal
  pub pairTable : List ℕ
  pub keyTable : List ℕ

abbrev pub body_left : Call → BodyLeft
body_left c = record { answer = c.answer; pairTable = c.pairs'; keyTable = c.keys' }

abbrev pub short_left : Call → ℕ → BodyLeft
short_left c p = record { answer = Err (because 2 p); pairTable = c.pairs; keyTable = c.keys }

-- c is the call on the first n bytes, and d the one on the whole
pub record BodyTrusted (n size : ℕ) (c d : Call) : Type 0 where
  pub runs : TwoRuns (short_left c) n size (body_left c) (body_left d)
  -- where the whole is accepted, the first call wants no byte behind its tail, and n bytes are enough where they reach it
  pub none_behind : (x : HeaderBody) (t : ℕ) → d.answer ≡ Ok (record { value = x; tail = t }) → (p : ℕ) → c.answer ≡ Err (because 2 p) → p ≤ t
  pub enough : (x : HeaderBody) (t : ℕ) → d.answer ≡ Ok (record { value = x; tail = t }) → t ≤ n → body_left c ≡ body_left d

-- some call that meets its contract, on the first n bytes and with these tables, says shortage at p
abbrev pub SaysShortage : Policy → Which → Mode → Max → List ℕ → ℕ → List ℕ → List ℕ → ℕ → ℕ → Type 0
SaysShortage policy which mode max m s pairs keys n p =
    (c : Call) × (c.pairs ≡ pairs) × (c.keys ≡ keys) × Meets (reading_under policy which mode max (take n m) s c) c × (c.answer ≡ Err (because 2 p))

-- THE OTHERS. Some call that meets its contract, on the first n bytes and with that table, says shortage at p
abbrev pub Says : {A T : Type 0} → (Answer A → Result T Refusal) → (A → List ℕ) → Reader A → List ℕ → ℕ → List ℕ → ℕ → ℕ → Type 0
Says {A} {T} code numbers r m s before n p = (after : List ℕ) × (x : Result T Refusal) × Reads code numbers (operation r (take n m) s) before after x × (x ≡ Err (because 2 p))

pub record TrustedPromises : Type 0 where
  pub of_body : (policy : Policy) (which : Which) (mode : Mode) (max : Max) (m : List ℕ) (s n : ℕ) → length m ≤ 4294967295 → n ≤ length m → (c d : Call)
      → Meets (reading_under policy which mode max (take n m) s c) c → Meets (reading_under policy which mode max m s d) d → c.pairs ≡ d.pairs → c.keys ≡ d.keys → BodyTrusted n (length m) c d
  -- a host that fetches just what is wanted needs at most so many rounds for a body that is accepted, and for bytes whatsoever
  pub rounds : (policy : Policy) (which : Which) (mode : Mode) (max : Max) (m : List ℕ) (s : ℕ) (d : Call) → Meets (reading_under policy which mode max m s d) d
      → (x : HeaderBody) (t : ℕ) → d.answer ≡ Ok (record { value = x; tail = t }) → NoMoreThan (by x.numbers.version 11 9 + 6 * x.keyCount) (SaysShortage policy which mode max m s d.pairs d.keys) (length m)
  pub most_rounds : (policy : Policy) (which : Which) (mode : Mode) (max : Max) (m : List ℕ) (s : ℕ) (pairs keys : List ℕ) → Bytes m
      → NoMoreThan 393221 (SaysShortage policy which mode max m s pairs keys) (length m)
  pub of_context : (mode : Mode) (m : List ℕ) (s n : ℕ) → length m ≤ 4294967295 → n ≤ length m → (before after after' : List ℕ) (r r' : Result (SuccessfulRead ℕ) Refusal)
      → Reads counted pair_numbers (operation (read_aad_section_into mode (length before)) (take n m) s) before after r
      → Reads counted pair_numbers (operation (read_aad_section_into mode (length before)) m s) before after' r'
      → TwoRuns (λ p. left (Err (because 2 p)) before) n (length m) (left r after) (left r' after')
  pub of_keys : (max : Max) (m : List ℕ) (s n : ℕ) → length m ≤ 4294967295 → n ≤ length m → (before after after' : List ℕ) (r r' : Result (SuccessfulRead ℕ) Refusal)
      → Reads counted key_numbers (operation (read_encrypted_data_keys_section_into max (length before)) (take n m) s) before after r
      → Reads counted key_numbers (operation (read_encrypted_data_keys_section_into max (length before)) m s) before after' r'
      → TwoRuns (λ p. left (Err (because 2 p)) before) n (length m) (left r after) (left r' after')
  pub of_frames : (frame : ℕ) (m : List ℕ) (s n : ℕ) → length m ≤ 4294967295 → n ≤ length m → (before after after' : List ℕ) (r r' : Result (SuccessfulRead ℕ) Refusal)
      → Reads counted frame_numbers (operation (read_frames_into frame (length before)) (take n m) s) before after r
      → Reads counted frame_numbers (operation (read_frames_into frame (length before)) m s) before after' r'
      → TwoRuns (λ p. left (Err (because 2 p)) before) n (length m) (left r after) (left r' after')
  pub of_only_authenticated : (text required m : List ℕ) (s n : ℕ) → length m ≤ 4294967295 → n ≤ length m → (before after after' : List ℕ) (r r' : Result ℕ Refusal)
      → Reads written_as whole (operation (write_only_authenticated text required (length before)) (take n m) s) before after r
      → Reads written_as whole (operation (write_only_authenticated text required (length before)) m s) before after' r'
      → TwoRuns (λ p. left (Err (because 2 p)) before) n (length m) (left r after) (left r' after')
  pub of_reissue : (a : Reissue) (m : List ℕ) (s n : ℕ) → length m ≤ 4294967295 → n ≤ length m → (before after after' : List ℕ) (r r' : Result ℕ Refusal)
      → Reads written_as whole (operation (reissue_header_body a (length before)) (take n m) s) before after r
      → Reads written_as whole (operation (reissue_header_body a (length before)) m s) before after' r'
      → TwoRuns (λ p. left (Err (because 2 p)) before) n (length m) (left r after) (left r' after')
  pub of_reissued : (a : Reissue) (m : List ℕ) (s n : ℕ) → length m ≤ 4294967295 → n ≤ length m → (r r' : Result ℕ Refusal) → r ≡ written_as (operation (reissued_header_body a) (take n m) s)
      → r' ≡ written_as (operation (reissued_header_body a) m s) → TwoRuns (λ p. Err (because 2 p)) n (length m) r r'
  pub of_find : (k m : List ℕ) (s n : ℕ) → length m ≤ 4294967295 → n ≤ length m → (r r' : Result Place Refusal) → r ≡ found_of (operation (find_value k) (take n m) s)
      → r' ≡ found_of (operation (find_value k) m s) → TwoRuns (λ p. Err (because 2 p)) n (length m) r r'
  pub of_auth : (suite : ℕ) (m : List ℕ) (s n : ℕ) → length m ≤ 4294967295 → n ≤ length m → (r r' : Result (SuccessfulRead HeaderAuth) Refusal) → r ≡ auth_of (operation (read_header_auth_tag suite) (take n m) s)
      → r' ≡ auth_of (operation (read_header_auth_tag suite) m s) → TwoRuns (λ p. Err (because 2 p)) n (length m) r r'
  -- their rounds, where the whole is accepted; a context section takes two whatever is answered, and is not short where its end is there
  pub context_rounds : (mode : Mode) (m : List ℕ) (s : ℕ) (before : List ℕ) → NoMoreThan 2 (Says counted pair_numbers (read_aad_section_into mode (length before)) m s before) (length m)
  pub context_there : (mode : Mode) (m : List ℕ) (s : ℕ) (before after : List ℕ) (r : Result (SuccessfulRead ℕ) Refusal) → Reads counted pair_numbers (operation (read_aad_section_into mode (length before)) m s) before after r
      → entry_end m s ≤ length m → (p : ℕ) → r ≡ Err (because 2 p) → ⊥
  pub keys_rounds : (max : Max) (m : List ℕ) (s : ℕ) (before after : List ℕ) (n t : ℕ)
      → Reads counted key_numbers (operation (read_encrypted_data_keys_section_into max (length before)) m s) before after (Ok (record { value = n; tail = t }))
      → NoMoreThan (1 + 6 * n) (Says counted key_numbers (read_encrypted_data_keys_section_into max (length before)) m s before) (length m)
  pub frames_rounds : (frame : ℕ) (m : List ℕ) (s : ℕ) (before after : List ℕ) (n t : ℕ) → Reads counted frame_numbers (operation (read_frames_into frame (length before)) m s) before after (Ok (record { value = n; tail = t }))
      → NoMoreThan (4 * n + 2) (Says counted frame_numbers (read_frames_into frame (length before)) m s before) (length m)
