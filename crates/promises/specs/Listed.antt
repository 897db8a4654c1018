-- The first refusal listed that applies, and what is read where none does, of the code: what every call of the other operations that read
-- answers, by its contract. Proved in proofs/Listed. Assumes nothing.
use Rattle.std.specs.Prelude.{ℕ, ◌≡◌, List, length, Result, Ok, Err}
use Rattle.format.specs.Read.{accepted, operation}
use Rattle.format.specs.Fields.{EncryptedDataKey}
use Rattle.format.specs.Context.{Mode, read_aad_section_into, find_value}
use Rattle.format.specs.Keys.{Max, read_encrypted_data_keys_section_into}
use Rattle.format.specs.Auth.{read_header_auth_tag}
use Rattle.format.specs.Frames.{read_frames_into}
use Rattle.format.specs.Lent.{pair_numbers, key_numbers, frame_numbers}
use Rattle.format.specs.OnlyAuthenticated.{only_authenticated, write_only_authenticated}
use Rattle.format.specs.Mending.{dropped_image, drop_encrypted_data_keys, added_image, add_encrypted_data_key}
use Rattle.format.specs.Reissuing.{Reissue, reissued_image, reissued_header_body, reissue_header_body}
use Rattle.format.specs.Places.{entry_end, section_pairs, section_keys, section_keys_end, body_here, value_here, auth_here, auth_end, frames_here, frames_end}
use Rattle.format.specs.First.{Line, NoneApplies, FirstApplies, operation_list, context_into_list, keys_into_list, find_list, only_authenticated_list, auth_list, frames_into_list}
use Rattle.format.specs.FirstRefusals.{drop_list, add_list, reissued_list, reissue_list}
use Rattle.wire.specs.Codes.{because}
use Rattle.wire.specs.declared.refusals.Refusal.{Refusal}
use Rattle.wire.specs.declared.SuccessfulRead.{SuccessfulRead}
use Rattle.entries.specs.Codes.{Reads, counted}
use Rattle.context.specs.Codes.{found_of}
use Rattle.context.specs.declared.Place.{Place}
use Rattle.auth.specs.Codes.{auth_of}
use Rattle.auth.specs.declared.HeaderAuth.{HeaderAuth}
use Rattle.checks.specs.Answers.{written_as, whole}
use Rattle.drafts.specs.Codes.{Mends}

-- an answer refuses just by the first line that applies, with its position, and is that of what stands there where none does
pub record ByFirst {T : Type 0} (list : List Line) (of_what_stands r : Result T Refusal) : Type 0 where
  pub refuses : (q : Refusal) → r ≡ Err q → FirstApplies list q.number q.position
  pub applies : (k p : ℕ) → FirstApplies list k p → r ≡ Err (because k p)
  pub accepts : NoneApplies list → r ≡ of_what_stands

pub record ListedPromises : Type 0 where
  pub of_context : (mode : Mode) (room : ℕ) (m : List ℕ) (s : ℕ) (before after : List ℕ) (r : Result (SuccessfulRead ℕ) Refusal)
      → Reads counted pair_numbers (operation (read_aad_section_into mode room) m s) before after r → ByFirst (operation_list (context_into_list mode room) m s) (counted (accepted (section_pairs m s) (entry_end m s))) r
  pub of_find : (k m : List ℕ) (s : ℕ) (r : Result Place Refusal) → r ≡ found_of (operation (find_value k) m s) → ByFirst (operation_list (find_list k) m s) (found_of (accepted (value_here k m s) (entry_end m s))) r
  pub of_only_authenticated : (text required m : List ℕ) (s : ℕ) (before after : List ℕ) (r : Result ℕ Refusal) → Reads written_as whole (operation (write_only_authenticated text required (length before)) m s) before after r
      → ByFirst (operation_list (only_authenticated_list text required (length before)) m s) (Ok (length (only_authenticated text required (section_pairs m s)))) r
  pub of_drop : (id before after : List ℕ) (r : Result ℕ Refusal) → Mends written_as (operation (drop_encrypted_data_keys id) before 0) before after r
      → ByFirst (operation_list (drop_list id) before 0) (Ok (length (dropped_image id (body_here before 0)))) r
  pub of_add : (k : EncryptedDataKey) (before after : List ℕ) (r : Result ℕ Refusal) → Mends written_as (operation (add_encrypted_data_key k (length before)) before 0) before after r
      → ByFirst (operation_list (add_list k (length before)) before 0) (Ok (length (added_image k (body_here before 0)))) r
  pub of_reissue : (a : Reissue) (m : List ℕ) (s : ℕ) (before after : List ℕ) (r : Result ℕ Refusal) → Reads written_as whole (operation (reissue_header_body a (length before)) m s) before after r
      → ByFirst (operation_list (reissue_list a (length before)) m s) (Ok (length (reissued_image a (body_here m s)))) r
  pub of_reissued : (a : Reissue) (m : List ℕ) (s : ℕ) (r : Result ℕ Refusal) → r ≡ written_as (operation (reissued_header_body a) m s)
      → ByFirst (operation_list (reissued_list a) m s) (Ok (length (reissued_image a (body_here m s)))) r
  pub of_keys : (max : Max) (room : ℕ) (m : List ℕ) (s : ℕ) (before after : List ℕ) (r : Result (SuccessfulRead ℕ) Refusal)
      → Reads counted key_numbers (operation (read_encrypted_data_keys_section_into max room) m s) before after r → ByFirst (operation_list (keys_into_list max room) m s) (counted (accepted (section_keys m s) (section_keys_end m s))) r
  pub of_auth : (suite : ℕ) (m : List ℕ) (s : ℕ) (r : Result (SuccessfulRead HeaderAuth) Refusal) → r ≡ auth_of (operation (read_header_auth_tag suite) m s) → ByFirst (operation_list (auth_list suite) m s) (auth_of (accepted (auth_here suite m s) (auth_end suite m s))) r
  pub of_frames : (frame room : ℕ) (m : List ℕ) (s : ℕ) (before after : List ℕ) (r : Result (SuccessfulRead ℕ) Refusal)
      → Reads counted frame_numbers (operation (read_frames_into frame room) m s) before after r → ByFirst (operation_list (frames_into_list frame room) m s) (counted (accepted (frames_here frame m s) (frames_end frame m s))) r
