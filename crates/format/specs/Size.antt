-- The size before writing: what a writer will answer, told without an output or its length. Proved in proofs/Size. Assumes nothing.
use Rattle.std.specs.Prelude.{◌≡◌, ℕ, ◌+◌, ◌≤◌, ◌<◌, length}
use mathlib.Core.List.{List, [], ◌∷◌, ◌++◌, Memᴰ}
use Rattle.format.specs.Read.{Answer, accepted, refused}
use Rattle.format.specs.Fields.{Form, today, old}
use Rattle.format.specs.Policies.{Policy, no_policy, forbid_encrypt_allow_decrypt, require_encrypt_allow_decrypt, require_encrypt_require_decrypt}
use Rattle.format.specs.Lent.{Writing, written, output_after, size_of, BodyToWrite, fields_to_write, writing_header_body_under, writing_header_body, writing_frames}
use Rattle.format.specs.Lengths.{JustWhere}

-- every writer
pub record SizeLaw (w : Writing) : Type 0 where
  -- where a refusal is given, the writer answers it, for any output, which it leaves as it was
  pub refuses : (k p : ℕ) → size_of w ≡ refused k p → (out : List ℕ) → (written w out ≡ refused k p) × (output_after w out ≡ out)
  -- where there is none, it answers 28 exactly when the output is shorter, and otherwise reports the length given
  pub too_short : (n : ℕ) → size_of w ≡ accepted tt n → (out : List ℕ) → JustWhere (written w out ≡ refused 28 0) (length out < n)
  pub reports : (n : ℕ) → size_of w ≡ accepted tt n → (out : List ℕ) → n ≤ length out → written w out ≡ accepted tt n
  -- and back: what the writer answers other than 28, of whatever output, is what was given
  pub refusal_given : (out : List ℕ) (k p : ℕ) → written w out ≡ refused k p → (k ≡ 28 → ⊥) → size_of w ≡ refused k p
  pub length_given : (out : List ℕ) (n : ℕ) → written w out ≡ accepted tt n → size_of w ≡ accepted tt n

-- each policy forbids the writing of one version
unfoldable pub writing_policy_refusals : Policy → List ℕ
writing_policy_refusals no_policy = []
writing_policy_refusals forbid_encrypt_allow_decrypt = 39 ∷ []
writing_policy_refusals require_encrypt_allow_decrypt = 39 ∷ []
writing_policy_refusals require_encrypt_require_decrypt = 39 ∷ []

-- the numbers of a body's refusals, in the order of their tests; 26 and 27 stand before the keys' 38 as well
unfoldable pub size_refusals : Policy → List ℕ
size_refusals policy = 3 ∷ 5 ∷ 6 ∷ 7 ∷ (writing_policy_refusals policy ++ (24 ∷ 26 ∷ 27 ∷ 10 ∷ 11 ∷ 12 ∷ 13 ∷ 33 ∷ 38 ∷ 16 ∷ 17 ∷ 19 ∷ 25 ∷ 20 ∷ []))

-- and of frames'
unfoldable pub frames_size_refusals : List ℕ
frames_size_refusals = 20 ∷ 26 ∷ 36 ∷ 27 ∷ 19 ∷ 30 ∷ 37 ∷ 35 ∷ []

-- the refusal given is of the list, so never 28, and its position is 0
abbrev pub GivenBy : List ℕ → Writing → Type 0
GivenBy refusals w = (k p : ℕ) → size_of w ≡ refused k p → Memᴰ k refusals × (k ≡ 28 → ⊥) × (p ≡ 0)

-- the same call with another mark
abbrev pub marked : Form → BodyToWrite → BodyToWrite
marked form b =
    record {
      version = b.version;
      messageType = b.messageType;
      suite = b.suite;
      contentType = b.contentType;
      headerIvLength = b.headerIvLength;
      frameLength = b.frameLength;
      form = form;
      messageId = b.messageId;
      suiteData = b.suiteData;
      text = b.text;
      pairTable = b.pairTable;
      keyTable = b.keyTable;
    }

-- an answer with so many bytes more
abbrev pub longer : ℕ → Answer (Unit {0}) → Answer (Unit {0})
longer k (accepted u n) = accepted u (n + k)
longer k (refused j p) = refused j p

pub record SizeLaws : Type 0 where
  pub of_writers : (w : Writing) → SizeLaw w
  pub of_body : (policy : Policy) (b : BodyToWrite) → GivenBy (size_refusals policy) (writing_header_body_under policy b)
  pub of_frames : (frame : ℕ) (text table : List ℕ) → GivenBy frames_size_refusals (writing_frames frame text table)
  -- marked old, a body without pairs takes two bytes more than marked as today's, and is refused alike; one with a pair has no length
  pub old_without_pairs : (b : BodyToWrite) → (fields_to_write b).pairs ≡ [] → size_of (writing_header_body (marked old b)) ≡ longer 2 (size_of (writing_header_body (marked today b)))
  pub old_with_a_pair : (b : BodyToWrite) → ((fields_to_write b).pairs ≡ [] → ⊥) → (n : ℕ) → size_of (writing_header_body (marked old b)) ≡ accepted tt n → ⊥
