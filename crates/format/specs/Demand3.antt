-- Demand 3, sentence by sentence, of the definitions that the contracts cite. It is proved in proofs/Demand3. Assumes nothing.
use Rattle.std.specs.Prelude.{◌≡◌, Bool, true, false, cond, ℕ, ◌+◌, ◌*◌, ◌≤◌, ◌<◌, length, drop}
use Rattle.std.proofs.Math.Option.{none, some}
use mathlib.Core.List.{List, [], ◌∷◌, ◌++◌, Memᴰ}
use Rattle.format.specs.Read.{Answer, accepted, refused, operation}
use Rattle.format.specs.Serialize.{Bytes, Part, images, same_bytes}
use Rattle.format.specs.Shared.{by}
use Rattle.format.specs.Fields.{Form, today, old, Pair, PairAt, Fields, HeaderBody, fields_of, with_keys, pair_places, key_places}
use Rattle.format.specs.Context.{Mode, tolerant, strict, read_aad_section, find_value}
use Rattle.format.specs.Keys.{Max, within, read_encrypted_data_keys_section_into}
use Rattle.format.specs.Policies.{Policy, no_policy}
use Rattle.format.specs.Body.{Which, either, v1_only, v2_only, Opening, read_opening, request_under, request, read_header_body_under, read_header_body_untested_under, read_header_body, image}
use Rattle.format.specs.Checks.{Accepts, first, keys_checks, body_checks}
use Rattle.format.specs.First.{FirstApplies, operation_list, FirstRefusal, body_list}
use Rattle.format.specs.Places.{body_here, body_end}
use Rattle.format.specs.Lent.{bytes_at, filled, table_checks, BodyToWrite, fields_to_write, writing_header_body, written, output_after, pair_table_after, key_table_after}

-- WHAT THE SENTENCES SPEAK OF

-- The two writers are our one writer, given a mark: today's writer today's; the old writer old where there is no pair, and today's
-- where there is one.
pub data Writer : Type 0 where
  todays the_old : Writer

abbrev pub mark_by : Writer → List Pair → Form
mark_by todays ps = today
mark_by the_old [] = old
mark_by the_old (p ∷ ps) = today

-- what that writer would write of the fields
abbrev pub image_by : Writer → Fields → List ℕ
image_by w f = image (mark_by w f.pairs) f

-- From s on, the message begins with what the writer would write of fields that it accepts; the tables hold all entries, and the
-- key maximum is not passed.
pub record Stands (max : Max) (pairRoom keyRoom : ℕ) (m : List ℕ) (s : ℕ) (w : Writer) (f : Fields) : Type 0 where
  pub accepts : Accepts (mark_by w f.pairs) f
  pub after : List ℕ
  pub bytes : drop s m ≡ image_by w f ++ after
  pub pairs_held : 4 * length f.pairs ≤ pairRoom
  pub keys_held : 6 * length f.keys ≤ keyRoom
  pub max_not_passed : within (length f.keys) max ≡ true

-- a part that a reader gave has its bytes at its place
abbrev pub Held : List ℕ → Part → Type 0
Held m p = bytes_at m p.start (length p.bytes) ≡ p.bytes

abbrev pub Each : {A : Type 0} → (A → Type 0) → List A → Type 0
Each P [] = Unit {0}
Each P (x ∷ xs) = P x × Each P xs

pub record HeldBody (m : List ℕ) (b : HeaderBody) : Type 0 where
  pub messageId : Held m b.messageId
  pub pairs : Each (Held m) (images pair_places b.pairs)
  pub keys : Each (Held m) (images key_places b.keys)
  pub suiteData : Held m b.suiteData

-- A reader gives fields when its numbers, its counts and the bytes at its places are theirs, whatever its mark.
pub record Gives (m : List ℕ) (b : HeaderBody) (f : Fields) : Type 0 where
  pub fields : fields_of b ≡ f
  pub placed : HeldBody m b

-- A body reader reaches the context section when no refusal listed before the section's applies; here that section is 00 02 00 00.
abbrev pub old_empty : List ℕ → Bool
old_empty l = same_bytes (bytes_at l 0 4) (0 ∷ 2 ∷ 0 ∷ 0 ∷ [])

abbrev pub reached_old : List ℕ → Answer Opening → Bool
reached_old m (accepted o t) = old_empty (drop t m)
reached_old m (refused k p) = false

unfoldable pub reaches_old : Policy → Which → List ℕ → ℕ → Bool
reaches_old policy which m s = reached_old m (operation (read_opening which policy) m s)

-- the byte x stands at s
abbrev pub stands_at : ℕ → List ℕ → ℕ → Bool
stands_at x m s = same_bytes (bytes_at m s 1) (x ∷ [])

-- SENTENCE 1. A message of at most 4,294,967,295 bytes: the tolerant either-version reader accepts if and only if what one of the two
-- writers would write stands there (`only` and `all`); it then gives those same fields, the mark that this writer is given and, as
-- its tail, the end of those bytes. Otherwise, and on any longer message or from a start as far, it answers the first refusal listed
-- that applies, with its position: specs/First has the list.
pub record Sentence1 (max : Max) (pairRoom keyRoom : ℕ) (m : List ℕ) (s : ℕ) : Type 0 where
  pub only : length m ≤ 4294967295 → (b : HeaderBody) (t : ℕ) → operation (read_header_body either tolerant max pairRoom keyRoom) m s ≡ accepted b t
      → (w : Writer) × (f : Fields) × Stands max pairRoom keyRoom m s w f × Gives m b f × (b.form ≡ mark_by w f.pairs) × (t ≡ s + length (image_by w f))
  pub all : length m ≤ 4294967295 → (w : Writer) (f : Fields) → Stands max pairRoom keyRoom m s w f
      → (b : HeaderBody) × (operation (read_header_body either tolerant max pairRoom keyRoom) m s ≡ accepted b (s + length (image_by w f))) × Gives m b f
      × (b.form ≡ mark_by w f.pairs)
  pub otherwise : length m ≤ 4294967295 → ((w : Writer) (f : Fields) → Stands max pairRoom keyRoom m s w f → ⊥)
      → (k : ℕ) × (p : ℕ) × (operation (read_header_body either tolerant max pairRoom keyRoom) m s ≡ refused k p)
      × FirstApplies (operation_list (body_list (request either tolerant true max pairRoom keyRoom)) m s) k p
  pub listed : FirstRefusal (read_header_body either tolerant max pairRoom keyRoom) (body_list (request either tolerant true max pairRoom keyRoom)) body_here body_end m s
  pub longer : 4294967295 < length m → operation (read_header_body either tolerant max pairRoom keyRoom) m s ≡ refused 1 0
  pub farther : 4294967295 < s → operation (read_header_body either tolerant max pairRoom keyRoom) m s ≡ refused 1 0

-- SENTENCE 2. On every message, with the same start, tables and maximum, the strict reader answers as the tolerant one, alike in
-- number, position, fields with their places, mark, tail and tables afterwards, except that it refuses 21 where the context section
-- it reaches is 00 02 00 00. (It holds of the readers of one version too, and under any policy; demand 3 is without one.)
pub record Sentence2 (policy : Policy) (which : Which) (max : Max) (pairRoom keyRoom : ℕ) (m : List ℕ) (s : ℕ) : Type 0 where
  pub answers : operation (read_header_body_under policy which strict max pairRoom keyRoom) m s
      ≡ cond (reaches_old policy which m s) (refused 21 0) (operation (read_header_body_under policy which tolerant max pairRoom keyRoom) m s)
  pub pair_table : (table : List ℕ) → pair_table_after (operation (read_header_body_under policy which strict max pairRoom keyRoom) m s) table
      ≡ cond (reaches_old policy which m s) table (pair_table_after (operation (read_header_body_under policy which tolerant max pairRoom keyRoom) m s) table)
  pub key_table : (table : List ℕ) → key_table_after (operation (read_header_body_under policy which strict max pairRoom keyRoom) m s) table
      ≡ cond (reaches_old policy which m s) table (key_table_after (operation (read_header_body_under policy which tolerant max pairRoom keyRoom) m s) table)
  -- the section that is reached stands 20 or 35 bytes after the start, by version
  pub reached : (o : Opening) (t : ℕ) → operation (read_opening which policy) m s ≡ accepted o t → t ≡ s + by o.version 20 35

-- SENTENCE 3. In a message of at most that length, a reader of one version refuses 4 where the other version's byte stands at the
-- start, whatever follows; in every other case it answers, with the same start, tables and maximum, as the tolerant one would with
-- 20 left untested. (And in the strict mode as the strict one would; and under any policy.)
pub record Sentence3 (policy : Policy) (mode : Mode) (max : Max) (pairRoom keyRoom : ℕ) (m : List ℕ) (s : ℕ) : Type 0 where
  pub version_1 : operation (read_header_body_under policy v1_only mode max pairRoom keyRoom) m s
      ≡ cond (stands_at 2 m s) (refused 4 0) (operation (read_header_body_untested_under policy mode max pairRoom keyRoom) m s)
  pub version_2 : operation (read_header_body_under policy v2_only mode max pairRoom keyRoom) m s
      ≡ cond (stands_at 1 m s) (refused 4 0) (operation (read_header_body_untested_under policy mode max pairRoom keyRoom) m s)
  -- with 20 left untested: by the list in which that line never applies
  pub untested : FirstRefusal (read_header_body_untested_under policy mode max pairRoom keyRoom) (body_list (request_under policy either mode false max pairRoom keyRoom)) body_here body_end m s

-- THE MARK, of whichever version and mode is asked for: a body is marked old just where the context section that was reached is
-- 00 02 00 00. So one with a pair is marked today's, and the strict reader never marks old.
pub record Marks (which : Which) (mode : Mode) (m : List ℕ) (s : ℕ) (b : HeaderBody) : Type 0 where
  pub by_the_section : b.form ≡ cond (reaches_old no_policy which m s) old today
  pub with_a_pair : (b.pairs ≡ [] → ⊥) → b.form ≡ today
  pub strictly : mode ≡ strict → b.form ≡ today

-- SENTENCE 4. Today's writer writes an empty context as 00 00 and the old one wrote 00 02 00 00; otherwise the two write the same
-- bytes, and accept the same fields. Where no refusal applies our writer's output is the image by its mark, and its length; reading it
-- back, which follows from sentence 1, gives the fields and the mark.
pub record Images (f : Fields) : Type 0 where
  pub alike : (f.pairs ≡ [] → ⊥) → image_by the_old f ≡ image_by todays f
  pub front : List ℕ
  pub back : List ℕ
  pub today_has : f.pairs ≡ [] → image_by todays f ≡ front ++ (0x00 ∷ 0x00 ∷ back)
  pub old_has : f.pairs ≡ [] → image_by the_old f ≡ front ++ (0x00 ∷ 0x02 ∷ 0x00 ∷ 0x00 ∷ back)
  -- the front is what stands before the context section
  pub front_long : Accepts today f → length front ≡ by f.version 20 35
  -- 33 applies to neither, since each is given a mark that fits: what one accepts the other does
  pub same_accepted : (v w : Writer) → Accepts (mark_by v f.pairs) f → Accepts (mark_by w f.pairs) f

pub record Sentence4 (w : BodyToWrite) (out : List ℕ) : Type 0 where
  pub images : Images (fields_to_write w)
  pub writes : Accepts w.form (fields_to_write w) → first (table_checks 4 w.text w.pairTable) ≡ none → first (table_checks 6 w.text w.keyTable) ≡ none
      → length (image w.form (fields_to_write w)) ≤ length out
      → (written (writing_header_body w) out ≡ accepted tt (length (image w.form (fields_to_write w))))
      × (output_after (writing_header_body w) out ≡ filled (image w.form (fields_to_write w)) out)
  -- and where it is accepted, no refusal applied, 26 and 28 among them
  pub only_then : (n : ℕ) → w.frameLength < 4294967296 → written (writing_header_body w) out ≡ accepted tt n
      → Accepts w.form (fields_to_write w) × (first (table_checks 4 w.text w.pairTable) ≡ none) × (first (table_checks 6 w.text w.keyTable) ≡ none)
      × (n ≡ length (image w.form (fields_to_write w))) × (n ≤ length out) × (output_after (writing_header_body w) out ≡ filled (image w.form (fields_to_write w)) out)
  pub read_back : (n : ℕ) → w.frameLength < 4294967296 → written (writing_header_body w) out ≡ accepted tt n → length out ≤ 4294967295
      → (max : Max) (pairRoom keyRoom : ℕ) → 4 * length (fields_to_write w).pairs ≤ pairRoom → 6 * length (fields_to_write w).keys ≤ keyRoom
      → within (length (fields_to_write w).keys) max ≡ true
      → (b : HeaderBody) × (operation (read_header_body either tolerant max pairRoom keyRoom) (output_after (writing_header_body w) out) 0 ≡ accepted b n)
      × Gives (output_after (writing_header_body w) out) b (fields_to_write w) × (b.form ≡ w.form)

-- FIELDS WITHOUT A KEY are accepted by neither side, so the rule about two writers speaks of fields with a key. Where nothing but a key is missing,
-- both sides say so: of fields that a writer accepts, less their keys, 38 is what it answers, and what the reader answers to their bytes.
abbrev pub without_keys : Fields → Fields
without_keys f = with_keys [] f

pub record NoKeys : Type 0 where
  pub no_writer : (form : Form) (f : Fields) → f.keys ≡ [] → Accepts form f → ⊥
  pub no_reader : (which : Which) (mode : Mode) (max : Max) (pairRoom keyRoom : ℕ) (m : List ℕ) (s : ℕ) → Bytes m
      → (b : HeaderBody) (t : ℕ) → operation (read_header_body which mode max pairRoom keyRoom) m s ≡ accepted b t → b.keys ≡ [] → ⊥
  pub writer_says : (w : Writer) (f : Fields) → Accepts (mark_by w f.pairs) f → first (body_checks [] [] (mark_by w f.pairs) (without_keys f)) ≡ some 38
  pub reader_says : (w : Writer) (f : Fields) → Accepts (mark_by w f.pairs) f → (max : Max) (pairRoom keyRoom : ℕ) (m : List ℕ) (s : ℕ) (after : List ℕ)
      → length m ≤ 4294967295 → drop s m ≡ image_by w (without_keys f) ++ after → operation (read_header_body either tolerant max pairRoom keyRoom) m s ≡ refused 38 0
  -- and the same of a key section alone
  pub no_section : (max : Max) (room : ℕ) (m : List ℕ) (s t : ℕ) → Bytes m → operation (read_encrypted_data_keys_section_into max room) m s ≡ accepted [] t → ⊥
  pub section_says : first (keys_checks []) ≡ some 38

-- FIND answers the value of the one pair with that key, and 29 exactly when no pair has it.
pub data Has (k : List ℕ) : List PairAt → Type 0 where
  here : {p : PairAt} {ps : List PairAt} → k ≡ p.key.bytes → Has k (p ∷ ps)
  there : {p : PairAt} {ps : List PairAt} → Has k ps → Has k (p ∷ ps)

-- no two pairs have the same key
abbrev pub Differ : List PairAt → Type 0
Differ [] = Unit {0}
Differ (p ∷ ps) = (Has p.key.bytes ps → ⊥) × Differ ps

pub record Finds (k m : List ℕ) (s : ℕ) : Type 0 where
  -- the section's refusals are find's
  pub refuses : (j p : ℕ) → operation (read_aad_section tolerant) m s ≡ refused j p → operation (find_value k) m s ≡ refused j p
  pub one : (ps : List PairAt) (t : ℕ) → operation (read_aad_section tolerant) m s ≡ accepted ps t → Differ ps
  pub value : (ps : List PairAt) (t : ℕ) → operation (read_aad_section tolerant) m s ≡ accepted ps t → (p : PairAt) → Memᴰ p ps → k ≡ p.key.bytes
      → (operation (find_value k) m s ≡ accepted p.value t) × Held m p.value
  pub none_has_it : (ps : List PairAt) (t : ℕ) → operation (read_aad_section tolerant) m s ≡ accepted ps t → (Has k ps → ⊥) → operation (find_value k) m s ≡ refused 29 0

-- DEMAND 3, whole
pub record Demand3 : Type 0 where
  pub sentence_1 : (max : Max) (pairRoom keyRoom : ℕ) (m : List ℕ) (s : ℕ) → Bytes m → Sentence1 max pairRoom keyRoom m s
  pub sentence_2 : (which : Which) (max : Max) (pairRoom keyRoom : ℕ) (m : List ℕ) (s : ℕ) → Bytes m → Sentence2 no_policy which max pairRoom keyRoom m s
  pub sentence_3 : (mode : Mode) (max : Max) (pairRoom keyRoom : ℕ) (m : List ℕ) (s : ℕ) → length m ≤ 4294967295 → Sentence3 no_policy mode max pairRoom keyRoom m s
  pub marks : (which : Which) (mode : Mode) (max : Max) (pairRoom keyRoom : ℕ) (m : List ℕ) (s : ℕ) → Bytes m
      → (b : HeaderBody) (t : ℕ) → operation (read_header_body which mode max pairRoom keyRoom) m s ≡ accepted b t → Marks which mode m s b
  pub sentence_4 : (w : BodyToWrite) (out : List ℕ) → Sentence4 w out
  pub no_keys : NoKeys
  pub finds : (k m : List ℕ) (s : ℕ) → Bytes m → Finds k m s
