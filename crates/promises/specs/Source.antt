-- 'Accepted headers don't change; equality with the source excepts this refusal', of 32, and the same but for headers without a key, of 38, of the code:
-- what every call answers and leaves in its tables and outputs, by its contract, against the source's reading. Proved in proofs/Source. Assumes nothing.
use Rattle.std.specs.Prelude.{ℕ, ◌+◌, ◌≡◌, List, [], ◌⊎◌, length, Result, Err}
use Rattle.format.specs.Read.{Answer, refused, operation}
use Rattle.format.specs.Serialize.{Bytes}
use Rattle.format.specs.Fields.{HeaderBody as BodyRead}
use Rattle.format.specs.Context.{Mode, read_aad_section_into, find_value}
use Rattle.format.specs.Keys.{Max, read_encrypted_data_keys_section_into}
use Rattle.format.specs.Body.{Which, tests_frames, Request, request}
use Rattle.format.specs.Lent.{table_after, pair_numbers, key_numbers, pair_table_after, key_table_after, keys_in, writing_encrypted_data_keys_section, writing_header_body}
use Rattle.format.specs.Lengths.{JustWhere}
use Rattle.format.specs.OnlyAuthenticated.{write_only_authenticated}
use Rattle.format.specs.Places.{entry_end}
use Rattle.format.specs.Source.{source_read_aad_section_into, source_find_value, source_write_only_authenticated, source_read_encrypted_data_keys_section_into, source_read_body, source_writing_encrypted_data_keys_section, source_writing_header_body}
use Rattle.format.specs.SourceEquality.{NoKeyAt, NoKeyIn}
use Rattle.wire.specs.Codes.{because}
use Rattle.wire.specs.declared.refusals.Refusal.{Refusal}
use Rattle.wire.specs.declared.SuccessfulRead.{SuccessfulRead}
use Rattle.entries.specs.Codes.{Reads, counted}
use Rattle.context.specs.Codes.{found_of}
use Rattle.context.specs.declared.Place.{Place}
use Rattle.checks.specs.Answers.{Writes, written_as, whole}
use Rattle.body_reader.specs.Codes.{body_of}
use Rattle.promises.specs.Reader.{Call, reading, Meets}
use Rattle.promises.specs.Writer.{Write, lent, fields, MeetsWriter}
use Rattle.promises.specs.Size.{Tells}

-- an answer that is neither 32 nor 38 is that of the source's reading; it is 38 where a key count of 0 stands there, and nowhere else; where it
-- is 32, the source's reading refuses too; and it is never 13
pub record BySource {A T : Type 0} (no_key : Type 0) (code : Answer A → Result T Refusal) (source : Answer A) (r : Result T Refusal) : Type 0 where
  pub alike : ((p : ℕ) → r ≡ Err (because 32 p) → ⊥) → (r ≡ Err (because 38 0) → ⊥) → r ≡ code source
  pub no_key_there : JustWhere (r ≡ Err (because 38 0)) no_key
  pub both_refuse : (p : ℕ) → r ≡ Err (because 32 p) → (k : ℕ) × (q : ℕ) × (source ≡ refused k q)
  pub never_13 : (p : ℕ) → r ≡ Err (because 13 p) → ⊥

-- and what a table or an output holds afterwards is what the source's reading would leave in it, or what it held where there is no key
pub record Leaves {A T : Type 0} (no_key : Type 0) (code : Answer A → Result T Refusal) (numbers : A → List ℕ) (source : Answer A) (before after : List ℕ) (r : Result T Refusal) : Type 0 where
  pub answer : BySource no_key code source r
  pub table : (no_key → ⊥) → after ≡ table_after numbers source before
  pub kept : no_key → after ≡ before

-- a body's, with tables as long as the call's
abbrev pub as_asked : Which → Mode → Max → Call → Request
as_asked which mode max c = request which mode (tests_frames which) max (length c.pairs) (length c.keys)

abbrev pub source_reading : Which → Mode → Max → List ℕ → ℕ → Call → Answer BodyRead
source_reading which mode max m s c = operation (source_read_body (as_asked which mode max c)) m s

pub record BodyLeaves (no_key : Type 0) (source : Answer BodyRead) (c : Call) : Type 0 where
  pub answer : BySource no_key body_of source c.answer
  pub pairTable : (no_key → ⊥) → c.pairs' ≡ pair_table_after source c.pairs
  pub keyTable : (no_key → ⊥) → c.keys' ≡ key_table_after source c.keys
  pub kept : no_key → (c.pairs' ≡ c.pairs) × (c.keys' ≡ c.keys)

-- the message's elements are bytes, as its type says
pub record SourcePromises : Type 0 where
  pub of_context : (mode : Mode) (room : ℕ) (m : List ℕ) (s : ℕ) → Bytes m → (before after : List ℕ) (r : Result (SuccessfulRead ℕ) Refusal)
      → Reads counted pair_numbers (operation (read_aad_section_into mode room) m s) before after r → Leaves ⊥ counted pair_numbers (operation (source_read_aad_section_into mode room) m s) before after r
  pub of_find : (k m : List ℕ) (s : ℕ) → Bytes m → (r : Result Place Refusal) → r ≡ found_of (operation (find_value k) m s) → BySource ⊥ found_of (operation (source_find_value k) m s) r
  pub of_only_authenticated : (text required : List ℕ) (room : ℕ) (m : List ℕ) (s : ℕ) → Bytes m → (before after : List ℕ) (r : Result ℕ Refusal)
      → Reads written_as whole (operation (write_only_authenticated text required room) m s) before after r
      → Leaves ⊥ written_as whole (operation (source_write_only_authenticated text required room) m s) before after r
  -- a section that is short wants its length, or itself as a whole
  pub wants : (mode : Mode) (room : ℕ) (m : List ℕ) (s : ℕ) (before after : List ℕ) (r : Result (SuccessfulRead ℕ) Refusal) → Reads counted pair_numbers (operation (read_aad_section_into mode room) m s) before after r
      → (p : ℕ) → r ≡ Err (because 2 p) → (p ≡ s + 2) ⊎ (p ≡ entry_end m s)
  pub of_keys : (max : Max) (room : ℕ) (m : List ℕ) (s : ℕ) → Bytes m → (before after : List ℕ) (r : Result (SuccessfulRead ℕ) Refusal)
      → Reads counted key_numbers (operation (read_encrypted_data_keys_section_into max room) m s) before after r
      → Leaves (NoKeyAt m s) counted key_numbers (operation (source_read_encrypted_data_keys_section_into max room) m s) before after r
  pub of_body : (which : Which) (mode : Mode) (max : Max) (m : List ℕ) (s : ℕ) (c : Call) → Bytes m → Meets (reading which mode max m s c) c
      → BodyLeaves (NoKeyIn (as_asked which mode max c) m s) (source_reading which mode max m s c) c
  -- WRITING. Where there is a key, a call of a writer, and of the length before it, is as good as one of the source's
  pub keys_written : (text table before after : List ℕ) (r : Result ℕ Refusal) → (keys_in text table ≡ [] → ⊥)
      → Writes (writing_encrypted_data_keys_section text table) before after r → Writes (source_writing_encrypted_data_keys_section text table) before after r
  pub body_written : (w : Write) → ((fields w).keys ≡ [] → ⊥) → MeetsWriter w → Writes (source_writing_header_body (lent w)) w.before w.after w.answer
  pub body_length : (w : Write) (s : Result ℕ Refusal) → ((fields w).keys ≡ [] → ⊥) → Tells (writing_header_body (lent w)) s → Tells (source_writing_header_body (lent w)) s
