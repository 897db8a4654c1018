-- Under a policy, of the code: what every call of `read_header_body`, `write_header_body_under` and `header_body_len_under` answers and leaves, by its
-- contract; the policy is a variable. Proved in proofs/Policies. Assumes nothing.
use Rattle.std.specs.Prelude.{ℕ, ◌+◌, ◌*◌, ◌≤◌, ◌<◌, ◌≡◌, true, false, cond, List, length, Result, Ok, Err}
use Rattle.format.specs.Serialize.{Bytes}
use Rattle.format.specs.Fields.{Fields}
use Rattle.format.specs.Fields.{HeaderBody as BodyRead}
use Rattle.format.specs.Context.{Mode, tolerant, strict}
use Rattle.format.specs.Keys.{Max, within}
use Rattle.format.specs.Policies.{Policy, lets_read}
use Rattle.format.specs.Body.{Which, either}
use Rattle.format.specs.Lent.{writing_header_body_under, writing_header_body}
use Rattle.format.specs.Size.{size_refusals}
use Rattle.format.specs.Demand3.{Writer, image_by, Stands, Gives}
use Rattle.format.specs.UnderPolicy.{forbids_reading, forbids_writing}
use Rattle.wire.specs.Codes.{because}
use Rattle.wire.specs.declared.refusals.Refusal.{Refusal}
use Rattle.checks.specs.Answers.{Writes}
use Rattle.body_reader.specs.Codes.{body_code}
use Rattle.body_reader.specs.declared.HeaderBody.{HeaderBody}
use Rattle.promises.specs.Reader.{Call, reading_under, reading, Meets, Accepts, GivesFields, Refuses, Marked, Listed, Sentence2, Sentence3}
use Rattle.promises.specs.Writer.{Write, lent, fields, mark, its_image, MeetsWriter}
use Rattle.promises.specs.Size.{Tells, Told}

-- READING. c is a call without a policy, d one with it, alike in all else.
pub record Reads (policy : Policy) (which : Which) (m : List ℕ) (s : ℕ) (c d : Call) : Type 0 where
  pub answer : d.answer ≡ cond (forbids_reading policy which m s) (Err (because 39 0)) c.answer
  pub pairTable : d.pairs' ≡ cond (forbids_reading policy which m s) d.pairs c.pairs'
  pub keyTable : d.keys' ≡ cond (forbids_reading policy which m s) d.keys c.keys'

-- the tolerant either-version reader gives the fields of each image whose version the policy lets it read, and accepts nothing else
pub record ReadsImages (policy : Policy) (max : Max) (m : List ℕ) (s : ℕ) (c : Call) : Type 0 where
  pub only : length m ≤ 4294967295 → (x : HeaderBody) (tail : ℕ) → c.answer ≡ Ok (record { value = x; tail = tail })
      → (w : Writer) × (f : Fields) × Stands max (length c.pairs) (length c.keys) m s w f × (lets_read policy f.version ≡ true) × (tail ≡ s + length (image_by w f))
      × GivesFields m c x f × Marked x w f
  pub all : length m ≤ 4294967295 → (w : Writer) (f : Fields) → Stands max (length c.pairs) (length c.keys) m s w f → lets_read policy f.version ≡ true
      → (b : BodyRead) × Accepts c b (s + length (image_by w f)) × Gives m b f × GivesFields m c (body_code b) f × Marked (body_code b) w f
  pub forbidden : length m ≤ 4294967295 → (w : Writer) (f : Fields) → Stands max (length c.pairs) (length c.keys) m s w f → lets_read policy f.version ≡ false
      → Refuses c 39 0

-- WRITING. The same call, with a policy.
abbrev pub MeetsWriterUnder : Policy → Write → Type 0
MeetsWriterUnder policy w = Writes (writing_header_body_under policy (lent w)) w.before w.after w.answer

-- v is a call without a policy, w one with it, alike in what they are lent
pub record WritesAlike (policy : Policy) (v w : Write) : Type 0 where
  pub answer : w.answer ≡ cond (forbids_writing policy (lent w)) (Err (because 39 0)) v.answer
  pub output : w.after ≡ cond (forbids_writing policy (lent w)) w.before v.after

pub record PolicyPromises : Type 0 where
  pub reads : (policy : Policy) (which : Which) (mode : Mode) (max : Max) (m : List ℕ) (s : ℕ) (c d : Call) → Meets (reading which mode max m s c) c
      → Meets (reading_under policy which mode max m s d) d → c.pairs ≡ d.pairs → c.keys ≡ d.keys → Reads policy which m s c d
  pub images : (policy : Policy) (max : Max) (m : List ℕ) (s : ℕ) (c : Call) → Bytes m → Meets (reading_under policy either tolerant max m s c) c → ReadsImages policy max m s c
  pub listed : (policy : Policy) (which : Which) (mode : Mode) (max : Max) (m : List ℕ) (s : ℕ) (c : Call) → Meets (reading_under policy which mode max m s c) c
      → Listed policy which mode max m s c
  -- the strict and the one-version readers
  pub sentence_2 : (policy : Policy) (which : Which) (max : Max) (m : List ℕ) (s : ℕ) (c d : Call) → Bytes m → Meets (reading_under policy which tolerant max m s c) c
      → Meets (reading_under policy which strict max m s d) d → c.pairs ≡ d.pairs → c.keys ≡ d.keys → Sentence2 policy which m s c d
  pub sentence_3 : (policy : Policy) (mode : Mode) (max : Max) (m : List ℕ) (s : ℕ) (c : Call) → length m ≤ 4294967295 → Sentence3 policy mode max m s c
  -- written, and told before
  pub writes : (policy : Policy) (v w : Write) → MeetsWriter v → MeetsWriterUnder policy w → lent v ≡ lent w → v.before ≡ w.before → WritesAlike policy v w
  pub tells : (policy : Policy) (w : Write) (s t : Result ℕ Refusal) → Tells (writing_header_body (lent w)) s → Tells (writing_header_body_under policy (lent w)) t
      → t ≡ cond (forbids_writing policy (lent w)) (Err (because 39 0)) s
  pub told : (policy : Policy) (w : Write) (s : Result ℕ Refusal) → Tells (writing_header_body_under policy (lent w)) s → MeetsWriterUnder policy w
      → Told (size_refusals policy) (its_image w) w.before w.after w.answer s
  -- what is written under a policy, the tolerant either-version reader gives back under it
  pub reads_its_own : (policy : Policy) (w : Write) → w.numbers.frameLength < 4294967296 → MeetsWriterUnder policy w → (n : ℕ) → w.answer ≡ Ok n
      → length w.before ≤ 4294967295 → (max : Max) (c : Call) → Meets (reading_under policy either tolerant max w.after 0 c) c
      → 4 * length (fields w).pairs ≤ length c.pairs → 6 * length (fields w).keys ≤ length c.keys → within (length (fields w).keys) max ≡ true
      → (b : BodyRead) × Accepts c b n × Gives w.after b (fields w) × (b.form ≡ mark w)
