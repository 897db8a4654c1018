-- Demand 3 of the code: what every call of a writer answers and leaves in its output, by its contract; and that the body reader gives
-- back what `write_header_body` wrote. Proved in proofs/Writer. Assumes nothing.
use Rattle.std.specs.Prelude.{ℕ, ◌*◌, ◌≤◌, ◌<◌, ◌≡◌, true, List, [], ◌∷◌, ◌++◌, leb, length, Result, Ok, Err}
use Rattle.std.proofs.Math.Option.{none}
use Rattle.format.specs.Fields.{Form, Fields}
use Rattle.format.specs.Fields.{HeaderBody as BodyRead}
use Rattle.format.specs.Context.{tolerant}
use Rattle.format.specs.Keys.{Max, within}
use Rattle.format.specs.Body.{either, image}
use Rattle.format.specs.Checks.{Check, check, first}
use Rattle.format.specs.Checks.{Accepts as WriterAccepts}
use Rattle.format.specs.Lent.{filled, table_checks, Writing, BodyToWrite, fields_to_write, writing_header_body}
use Rattle.format.specs.Demand3.{Gives}
use Rattle.format.specs.Pinned.{FirstFails}
use Rattle.wire.specs.Codes.{because}
use Rattle.wire.specs.declared.refusals.Refusal.{Refusal}
use Rattle.checks.specs.Answers.{Writes}
use Rattle.body_write.specs.Lent.{body_to_write}
use Rattle.fields.specs.Codes.{form_of, form_named}
use Rattle.fields.specs.declared.BodyNumbers.{BodyNumbers}
use Rattle.promises.specs.Reader.{Call, reading, Meets, Accepts}

-- document 01's list for a writer: its checks, and 28 last
abbrev pub all_checks : Writing → List ℕ → List Check
all_checks w out = w.checks ++ (check 28 (leb (length w.image) (length out)) ∷ [])

-- every writer, of a section, a record or a body
pub record ByChecks (w : Writing) (before after : List ℕ) (r : Result ℕ Refusal) : Type 0 where
  -- where no check fails, 28 among them, the output begins with the image and keeps what lies behind it
  pub writes : first (all_checks w before) ≡ none → (r ≡ Ok (length w.image)) × (after ≡ filled w.image before)
  pub only_then : (n : ℕ) → r ≡ Ok n → (first (all_checks w before) ≡ none) × (n ≡ length w.image) × (after ≡ filled w.image before)
  -- otherwise it answers the first that fails, with position 0, and leaves the output as it was
  pub refuses : (q : Refusal) → r ≡ Err q → FirstFails (all_checks w before) q.number × (q.position ≡ 0) × (after ≡ before)
  pub fails : (k : ℕ) → FirstFails (all_checks w before) k → (r ≡ Err (because k 0)) × (after ≡ before)

-- a call: what is lent, the output before and after it, and its answer
pub record Write : Type 0 where
  pub numbers : BodyNumbers
  pub messageId : List ℕ
  pub suiteData : List ℕ
  pub text : List ℕ
  pub pairs : List ℕ
  pub keys : List ℕ
  pub before : List ℕ
  pub after : List ℕ
  pub answer : Result ℕ Refusal

abbrev pub lent : Write → BodyToWrite
lent w = body_to_write w.numbers w.messageId w.suiteData w.text w.pairs w.keys

-- the fields that the call is to write, the mark that its number names, and the image of the fields by that mark
abbrev pub fields : Write → Fields
fields w = fields_to_write (lent w)

abbrev pub mark : Write → Form
mark w = form_of (form_named w.numbers.form)

abbrev pub its_image : Write → List ℕ
its_image w = image (mark w) (fields w)

-- the call meets the contract
abbrev pub MeetsWriter : Write → Type 0
MeetsWriter w = Writes (writing_header_body (lent w)) w.before w.after w.answer

-- no refusal of a body write applies: our writer accepts the fields with the mark, 26 does not apply to either table, and 28 does not
pub record NoneApplies (w : Write) : Type 0 where
  pub accepts : WriterAccepts (mark w) (fields w)
  pub pairs : first (table_checks 4 w.text w.pairs) ≡ none
  pub keys : first (table_checks 6 w.text w.keys) ≡ none
  pub fits : length (its_image w) ≤ length w.before

-- SENTENCE 4. The frame length of a call has 32 bits, as its type says.
pub record Sentence4 (w : Write) : Type 0 where
  -- it accepts where none applies, and only there; the output then begins with the image, and keeps what lies behind it
  pub writes : NoneApplies w → (w.answer ≡ Ok (length (its_image w))) × (w.after ≡ filled (its_image w) w.before)
  pub only_then : (n : ℕ) → w.answer ≡ Ok n → NoneApplies w × (n ≡ length (its_image w)) × (w.after ≡ filled (its_image w) w.before)
  -- otherwise it refuses by the first check that fails
  pub checked : ByChecks (writing_header_body (lent w)) w.before w.after w.answer
  -- a call of the tolerant either-version reader on that output, its tables long enough and its maximum not passed, gives the fields and the mark
  pub read_back : (n : ℕ) → w.answer ≡ Ok n → length w.before ≤ 4294967295
      → (max : Max) (c : Call) → Meets (reading either tolerant max w.after 0 c) c
      → 4 * length (fields w).pairs ≤ length c.pairs → 6 * length (fields w).keys ≤ length c.keys → within (length (fields w).keys) max ≡ true
      → (b : BodyRead) × Accepts c b n × Gives w.after b (fields w) × (b.form ≡ mark w)

pub record WriterPromises : Type 0 where
  pub writers : (w : Writing) (before after : List ℕ) (r : Result ℕ Refusal) → Writes w before after r → ByChecks w before after r
  pub sentence_4 : (w : Write) → w.numbers.frameLength < 4294967296 → MeetsWriter w → Sentence4 w
