-- Each number of the lists in Rattle.format.specs.Refusals, and of a body's and of frames' size, does occur: some call of the operation answers it.
-- Assumes nothing.
use Rattle.std.specs.Prelude.{◌≡◌, ℕ}
use mathlib.Core.List.{List, Memᴰ}
use Rattle.format.specs.Read.{Reader, refused, operation}
use Rattle.format.specs.Fields.{EncryptedDataKey}
use Rattle.format.specs.Context.{Mode, read_aad_section_into, find_value}
use Rattle.format.specs.Keys.{Max, no_max, read_encrypted_data_keys_section_into}
use Rattle.format.specs.Policies.{Policy}
use Rattle.format.specs.Body.{Which, request_under, tests_frames, read_header_body_under}
use Rattle.format.specs.Auth.{read_header_auth_tag}
use Rattle.format.specs.Frames.{read_frames_into}
use Rattle.format.specs.OnlyAuthenticated.{write_only_authenticated}
use Rattle.format.specs.Mending.{drop_encrypted_data_keys, add_encrypted_data_key}
use Rattle.format.specs.Reissuing.{Reissue, reissued_header_body, reissue_header_body}
use Rattle.format.specs.Lent.{BodyToWrite, size_of, writing_header_body_under, writing_frames}
use Rattle.format.specs.Refusals.{context_refusals, find_refusals, only_authenticated_refusals, keys_refusals, body_refusals, drop_refusals, add_refusals, reissued_refusals, reissue_refusals, auth_refusals, frames_refusals}
use Rattle.format.specs.Size.{size_refusals, frames_size_refusals}

-- there is a message and a start of which the reader answers the refusal
pub record Answers {A : Type 0} (r : Reader A) (number : ℕ) : Type 0 where
  pub message : List ℕ
  pub start : ℕ
  pub position : ℕ
  pub answers : operation r message start ≡ refused number position

-- what a body reader of that version and mode can answer under the policy; the maximum and how long the tables are don't change the list
abbrev pub listed_for : Policy → Which → Mode → List ℕ
listed_for policy which mode = body_refusals (request_under policy which mode (tests_frames which) no_max 0 0)

pub record Occurs : Type 0 where
  pub of_context : (mode : Mode) (k : ℕ) → Memᴰ k (context_refusals mode) → (room : ℕ) × Answers (read_aad_section_into mode room) k
  pub of_find : (k : ℕ) → Memᴰ k find_refusals → (key : List ℕ) × Answers (find_value key) k
  pub of_only_authenticated : (k : ℕ) → Memᴰ k only_authenticated_refusals
      → (text : List ℕ) × (required : List ℕ) × (room : ℕ) × Answers (write_only_authenticated text required room) k
  pub of_drop : (k : ℕ) → Memᴰ k drop_refusals → (id : List ℕ) × Answers (drop_encrypted_data_keys id) k
  pub of_add : (k : ℕ) → Memᴰ k add_refusals → (key : EncryptedDataKey) × (room : ℕ) × Answers (add_encrypted_data_key key room) k
  pub of_reissued : (k : ℕ) → Memᴰ k reissued_refusals → (a : Reissue) × Answers (reissued_header_body a) k
  pub of_reissue : (k : ℕ) → Memᴰ k reissue_refusals → (a : Reissue) × (room : ℕ) × Answers (reissue_header_body a room) k
  pub of_keys : (k : ℕ) → Memᴰ k keys_refusals → (max : Max) × (room : ℕ) × Answers (read_encrypted_data_keys_section_into max room) k
  pub of_body : (policy : Policy) (which : Which) (mode : Mode) (k : ℕ) → Memᴰ k (listed_for policy which mode)
      → (max : Max) × (pairRoom : ℕ) × (keyRoom : ℕ) × Answers (read_header_body_under policy which mode max pairRoom keyRoom) k
  pub of_auth : (k : ℕ) → Memᴰ k auth_refusals → (suite : ℕ) × Answers (read_header_auth_tag suite) k
  pub of_frames : (k : ℕ) → Memᴰ k frames_refusals → (frame : ℕ) × (room : ℕ) × Answers (read_frames_into frame room) k
  pub of_size : (policy : Policy) (k : ℕ) → Memᴰ k (size_refusals policy) → (b : BodyToWrite) × (size_of (writing_header_body_under policy b) ≡ refused k 0)
  pub of_frames_size : (k : ℕ) → Memᴰ k frames_size_refusals → (frame : ℕ) × (text : List ℕ) × (table : List ℕ) × (size_of (writing_frames frame text table) ≡ refused k 0)
