-- The lists of the operations on drafts; and that every operation refuses by the first line that applies of its list. It is proved in
-- proofs/FirstBody. Assumes nothing.
use Rattle.std.specs.Prelude.{List, [], ◌∷◌, ◌++◌, ℕ, leb, eqb, length}
use Rattle.format.specs.Utf8.{valid_utf8_seq}
use Rattle.format.specs.Shared.{known, of_version, frame_fits}
use Rattle.format.specs.Fields.{EncryptedDataKey}
use Rattle.format.specs.Context.{Mode, read_aad_section_into, find_value}
use Rattle.format.specs.Keys.{Max, read_encrypted_data_keys_section_into}
use Rattle.format.specs.Body.{either, v1_only, Request, read_body}
use Rattle.format.specs.Auth.{read_header_auth_tag}
use Rattle.format.specs.Frames.{read_frames_into}
use Rattle.format.specs.OnlyAuthenticated.{only_authenticated, write_only_authenticated}
use Rattle.format.specs.Mending.{without_tables, some_remain, dropped_image, drop_encrypted_data_keys, addable, added_image, add_encrypted_data_key}
use Rattle.format.specs.Reissuing.{Reissue, reissued_image, reissued_header_body, reissue_header_body}
use Rattle.format.specs.Places.{entry_end, section_pairs, section_keys, section_keys_end, body_here, body_end, value_here, auth_here, auth_end, frames_here, frames_end}
use Rattle.format.specs.First.{Line, unless, FirstRefusal, body_list, context_into_list, keys_into_list, find_list, only_authenticated_list, auth_list, frames_into_list}

-- A draft's keys taken out: the draft's lines, then 40
unfoldable pub drop_list : List ℕ → List ℕ → ℕ → List Line
drop_list id m s = body_list (without_tables either) m s ++ (unless 40 (some_remain id (body_here m s)) ∷ [])

-- And a key added: the draft's, then 16, 27 and 28
unfoldable pub add_list : EncryptedDataKey → ℕ → List ℕ → ℕ → List Line
add_list k room m s =
    body_list (without_tables either) m s
    ++ (unless 16 (valid_utf8_seq k.keyProviderId)
    ∷ unless 27 (addable k (length (body_here m s).keys))
    ∷ unless 28 (leb (length (added_image k (body_here m s))) room)
    ∷ [])

-- And a version 1 draft reissued: the draft's, as version 1 only is read, and 20; of what is added 6, 7, 24 and 25; with an output 28
unfoldable pub reissued_list : Reissue → List ℕ → ℕ → List Line
reissued_list a m s =
    body_list (without_tables v1_only) m s
    ++ (unless 20 (frame_fits (body_here m s).contentType (body_here m s).frameLength)
    ∷ unless 6 (known a.suite)
    ∷ unless 7 (of_version 2 a.suite)
    ∷ unless 24 (eqb (length a.messageId) 32)
    ∷ unless 25 (eqb (length a.suiteData) 32)
    ∷ [])

unfoldable pub reissue_list : Reissue → ℕ → List ℕ → ℕ → List Line
reissue_list a room m s = reissued_list a m s ++ (unless 28 (leb (length (reissued_image a (body_here m s))) room) ∷ [])

pub record FirstRefusals : Type 0 where
  pub of_context : (mode : Mode) (room : ℕ) (m : List ℕ) (s : ℕ) → FirstRefusal (read_aad_section_into mode room) (context_into_list mode room) section_pairs entry_end m s
  pub of_find : (k m : List ℕ) (s : ℕ) → FirstRefusal (find_value k) (find_list k) (value_here k) entry_end m s
  pub of_only_authenticated : (text required : List ℕ) (room : ℕ) (m : List ℕ) (s : ℕ)
      → FirstRefusal (write_only_authenticated text required room) (only_authenticated_list text required room) (λ m s. only_authenticated text required (section_pairs m s)) entry_end m s
  pub of_drop : (id m : List ℕ) (s : ℕ) → FirstRefusal (drop_encrypted_data_keys id) (drop_list id) (λ m s. dropped_image id (body_here m s)) body_end m s
  pub of_add : (k : EncryptedDataKey) (room : ℕ) (m : List ℕ) (s : ℕ) → FirstRefusal (add_encrypted_data_key k room) (add_list k room) (λ m s. added_image k (body_here m s)) body_end m s
  pub of_reissued : (a : Reissue) (m : List ℕ) (s : ℕ) → FirstRefusal (reissued_header_body a) (reissued_list a) (λ m s. reissued_image a (body_here m s)) body_end m s
  pub of_reissue : (a : Reissue) (room : ℕ) (m : List ℕ) (s : ℕ) → FirstRefusal (reissue_header_body a room) (reissue_list a room) (λ m s. reissued_image a (body_here m s)) body_end m s
  pub of_keys : (max : Max) (room : ℕ) (m : List ℕ) (s : ℕ) → FirstRefusal (read_encrypted_data_keys_section_into max room) (keys_into_list max room) section_keys section_keys_end m s
  pub of_body : (q : Request) (m : List ℕ) (s : ℕ) → FirstRefusal (read_body q) (body_list q) body_here body_end m s
  pub of_auth : (suite : ℕ) (m : List ℕ) (s : ℕ) → FirstRefusal (read_header_auth_tag suite) (auth_list suite) (auth_here suite) (auth_end suite) m s
  pub of_frames : (frame room : ℕ) (m : List ℕ) (s : ℕ) → FirstRefusal (read_frames_into frame room) (frames_into_list frame room) (frames_here frame) (frames_end frame) m s
