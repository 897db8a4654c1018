-- Demand 3 of the code: what every call of `read_header_body` answers and leaves in its tables, by its contract. Proved in
-- proofs/Reader. Assumes nothing.
use Rattle.std.specs.Prelude.{ℕ, ◌+◌, ◌≤◌, ◌<◌, ◌≡◌, cond, List, length, Result, Ok, Err}
use Rattle.format.specs.Read.{Answer, refused, operation}
use Rattle.format.specs.Serialize.{Bytes}
use Rattle.format.specs.Fields.{form_number, Fields}
use Rattle.format.specs.Fields.{HeaderBody as BodyRead}
use Rattle.format.specs.Context.{Mode, tolerant, strict}
use Rattle.format.specs.Keys.{Max}
use Rattle.format.specs.Policies.{Policy, no_policy}
use Rattle.format.specs.Body.{Which, either, v1_only, v2_only, tests_frames, request_under, read_header_body_under, read_header_body_untested_under}
use Rattle.format.specs.Lent.{bytes_at, filled, pair_numbers, key_numbers, items, pair_in, key_in}
use Rattle.format.specs.Places.{body_here, body_end}
use Rattle.format.specs.First.{FirstApplies, NoneApplies, Line, operation_list, body_list}
use Rattle.format.specs.Demand3.{Writer, mark_by, image_by, Stands, Gives, reaches_old, stands_at}
use Rattle.wire.specs.Codes.{because}
use Rattle.wire.specs.declared.refusals.Refusal.{Refusal}
use Rattle.wire.specs.declared.SuccessfulRead.{SuccessfulRead}
use Rattle.body_reader.specs.Codes.{body_code, ReadsBody}
use Rattle.body_reader.specs.declared.HeaderBody.{HeaderBody}

-- a call: both tables before and after it, and its answer
pub record Call : Type 0 where
  pub pairs : List ℕ
  pub pairs' : List ℕ
  pub keys : List ℕ
  pub keys' : List ℕ
  pub answer : Result (SuccessfulRead HeaderBody) Refusal

-- what the definition answers, with tables as long as the call's, under a policy and without one
abbrev pub reading_under : Policy → Which → Mode → Max → List ℕ → ℕ → Call → Answer BodyRead
reading_under policy which mode max m s c = operation (read_header_body_under policy which mode max (length c.pairs) (length c.keys)) m s

abbrev pub reading : Which → Mode → Max → List ℕ → ℕ → Call → Answer BodyRead
reading = reading_under no_policy

-- the call meets the contract, by that answer of the definition
abbrev pub Meets : Answer BodyRead → Call → Type 0
Meets o c = ReadsBody o c.pairs c.pairs' c.keys c.keys' c.answer

-- it accepts: the code's record is that of the body b, and the tables hold the places of its pairs and keys
pub record Accepts (c : Call) (b : BodyRead) (tail : ℕ) : Type 0 where
  pub answer : c.answer ≡ Ok (record { value = body_code b; tail = tail })
  pub pairTable : c.pairs' ≡ filled (pair_numbers b.pairs) c.pairs
  pub keyTable : c.keys' ≡ filled (key_numbers b.keys) c.keys

-- the code's record gives the fields: its numbers and counts are theirs, and so are the bytes at its places and at those in the tables
pub record GivesFields (m : List ℕ) (c : Call) (x : HeaderBody) (f : Fields) : Type 0 where
  pub version : x.numbers.version ≡ f.version
  pub messageType : x.numbers.messageType ≡ f.messageType
  pub suite : x.numbers.suite ≡ f.suite
  pub contentType : x.numbers.contentType ≡ f.contentType
  pub headerIvLength : x.numbers.headerIvLength ≡ f.headerIvLength
  pub frameLength : x.numbers.frameLength ≡ f.frameLength
  pub messageId : bytes_at m x.messageIdStart x.messageIdLen ≡ f.messageId
  pub pairs : items (pair_in m c.pairs') 4 x.pairCount 0 ≡ f.pairs
  pub keys : items (key_in m c.keys') 6 x.keyCount 0 ≡ f.keys
  pub suiteData : bytes_at m x.suiteDataStart x.suiteDataLen ≡ f.suiteData

-- it refuses, and the tables are as they were
pub record Refuses (c : Call) (number position : ℕ) : Type 0 where
  pub answer : c.answer ≡ Err (because number position)
  pub pairTable : c.pairs' ≡ c.pairs
  pub keyTable : c.keys' ≡ c.keys

-- document 01's list for the request
abbrev pub listed : Policy → Which → Mode → Max → List ℕ → ℕ → Call → List Line
listed policy which mode max m s c = operation_list (body_list (request_under policy which mode (tests_frames which) max (length c.pairs) (length c.keys))) m s

-- it refuses by the first line of the list that applies, with its position; where none does it accepts what stands there
pub record Listed (policy : Policy) (which : Which) (mode : Mode) (max : Max) (m : List ℕ) (s : ℕ) (c : Call) : Type 0 where
  pub refuses : (q : Refusal) → c.answer ≡ Err q → FirstApplies (listed policy which mode max m s c) q.number q.position
  pub applies : (k p : ℕ) → FirstApplies (listed policy which mode max m s c) k p → Refuses c k p
  pub accepts : NoneApplies (listed policy which mode max m s c) → Accepts c (body_here m s) (body_end m s)

-- and its mark is the one that a writer is given who would write them
abbrev pub Marked : HeaderBody → Writer → Fields → Type 0
Marked x w f = x.numbers.form ≡ form_number (mark_by w f.pairs)

-- SENTENCE 1, of the tolerant either-version reader
pub record Sentence1 (max : Max) (m : List ℕ) (s : ℕ) (c : Call) : Type 0 where
  pub only : length m ≤ 4294967295 → (x : HeaderBody) (tail : ℕ) → c.answer ≡ Ok (record { value = x; tail = tail })
      → (w : Writer) × (f : Fields) × (b : BodyRead) × Stands max (length c.pairs) (length c.keys) m s w f × Gives m b f × Accepts c b tail × (tail ≡ s + length (image_by w f))
      × GivesFields m c x f × Marked x w f
  pub all : length m ≤ 4294967295 → (w : Writer) (f : Fields) → Stands max (length c.pairs) (length c.keys) m s w f
      → (b : BodyRead) × Accepts c b (s + length (image_by w f)) × Gives m b f × GivesFields m c (body_code b) f × Marked (body_code b) w f
  pub otherwise : length m ≤ 4294967295 → ((w : Writer) (f : Fields) → Stands max (length c.pairs) (length c.keys) m s w f → ⊥)
      → (k : ℕ) × (p : ℕ) × Refuses c k p × FirstApplies (listed no_policy either tolerant max m s c) k p
  pub longer : 4294967295 < length m → Refuses c 1 0
  pub farther : 4294967295 < s → Refuses c 1 0

-- SENTENCE 2, of a strict and a tolerant call with the same start, tables, maximum and policy
pub record Sentence2 (policy : Policy) (which : Which) (m : List ℕ) (s : ℕ) (tolerantly strictly : Call) : Type 0 where
  pub answer : strictly.answer ≡ cond (reaches_old policy which m s) (Err (because 21 0)) tolerantly.answer
  pub pairTable : strictly.pairs' ≡ cond (reaches_old policy which m s) strictly.pairs tolerantly.pairs'
  pub keyTable : strictly.keys' ≡ cond (reaches_old policy which m s) strictly.keys tolerantly.keys'

-- SENTENCE 3, of a reader of one version: it meets the contract with this answer of the definition in the place of its own
pub record Sentence3 (policy : Policy) (mode : Mode) (max : Max) (m : List ℕ) (s : ℕ) (c : Call) : Type 0 where
  pub version_1 : Meets (reading_under policy v1_only mode max m s c) c
      → Meets (cond (stands_at 2 m s) (refused 4 0) (operation (read_header_body_untested_under policy mode max (length c.pairs) (length c.keys)) m s)) c
  pub version_2 : Meets (reading_under policy v2_only mode max m s c) c
      → Meets (cond (stands_at 1 m s) (refused 4 0) (operation (read_header_body_untested_under policy mode max (length c.pairs) (length c.keys)) m s)) c

-- THE MARK of an accepted body, whichever version and mode is asked for: 1 just where the context section that was reached is
-- 00 02 00 00; 0 where there is a pair, and in the strict mode
pub record Marks (which : Which) (mode : Mode) (m : List ℕ) (s : ℕ) (x : HeaderBody) : Type 0 where
  pub by_the_section : x.numbers.form ≡ cond (reaches_old no_policy which m s) 1 0
  pub with_a_pair : (x.pairCount ≡ 0 → ⊥) → x.numbers.form ≡ 0
  pub strictly : mode ≡ strict → x.numbers.form ≡ 0

pub record ReaderPromises : Type 0 where
  pub listed : (which : Which) (mode : Mode) (max : Max) (m : List ℕ) (s : ℕ) (c : Call) → Meets (reading which mode max m s c) c → Listed no_policy which mode max m s c
  pub sentence_1 : (max : Max) (m : List ℕ) (s : ℕ) (c : Call) → Bytes m → Meets (reading either tolerant max m s c) c → Sentence1 max m s c
  pub sentence_2 : (which : Which) (max : Max) (m : List ℕ) (s : ℕ) (c d : Call) → Bytes m → Meets (reading which tolerant max m s c) c → Meets (reading which strict max m s d) d
      → c.pairs ≡ d.pairs → c.keys ≡ d.keys → Sentence2 no_policy which m s c d
  pub sentence_3 : (mode : Mode) (max : Max) (m : List ℕ) (s : ℕ) (c : Call) → length m ≤ 4294967295 → Sentence3 no_policy mode max m s c
  pub marks : (which : Which) (mode : Mode) (max : Max) (m : List ℕ) (s : ℕ) (c : Call) → Bytes m → Meets (reading which mode max m s c) c
      → (x : HeaderBody) (tail : ℕ) → c.answer ≡ Ok (record { value = x; tail = tail }) → Marks which mode m s x
