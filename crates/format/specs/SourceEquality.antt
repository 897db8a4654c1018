-- 'Accepted headers don't change; equality with the source excepts this refusal', of 32, and of 38 'reading and writing both change, and
-- equality with the source excepts it': ours beside the source's reading, of every message, start, mode, table and maximum. It is proved in
-- proofs/SourceEquality. Assumes nothing.
use Rattle.std.specs.Prelude.{◌≡◌, List, [], ◌∷◌, ◌++◌, ◌⊎◌, ℕ, ◌+◌}
use Rattle.std.proofs.Math.Option.{none}
use Rattle.format.specs.Read.{Answer, accepted, refused, operation}
use Rattle.format.specs.Serialize.{Bytes}
use Rattle.format.specs.Shared.{by}
use Rattle.format.specs.Fields.{HeaderBody}
use Rattle.format.specs.Context.{Mode, read_aad_section_into, find_value}
use Rattle.format.specs.Keys.{Max, read_encrypted_data_keys_section_into}
use Rattle.format.specs.Lent.{bytes_at, table_after, keys_in, table_checks, Writing, written, size_of, output_after, BodyToWrite, fields_to_write, writing_encrypted_data_keys_section, writing_header_body}
use Rattle.format.specs.Checks.{first}
use Rattle.format.specs.Lengths.{JustWhere}
use Rattle.format.specs.OnlyAuthenticated.{write_only_authenticated}
use Rattle.format.specs.Body.{Request, read_body}
use Rattle.format.specs.Places.{number8, entry_end}
use Rattle.format.specs.First.{Line, NoneApplies, operation_list, opening_list, context_list}
use Rattle.format.specs.Source.{source_read_aad_section_into, source_find_value, source_write_only_authenticated, source_read_encrypted_data_keys_section_into, source_read_body, source_writing_encrypted_data_keys_section, source_writing_header_body}

-- a key count of 0 stands at `place`, where no refusal listed `before` applies
pub record NoKey (before : List Line) (m : List ℕ) (place : ℕ) : Type 0 where
  pub reached : NoneApplies before
  pub count : bytes_at m place 2 ≡ (0x00 ∷ 0x00 ∷ [])

-- of a key section at a start: only 1 comes before its count
abbrev pub NoKeyAt : List ℕ → ℕ → Type 0
NoKeyAt m s = NoKey (operation_list (λ m s. []) m s) m s

-- of a body: the opening's and the context section's refusals, too, come before it
unfoldable pub before_keys : Request → List ℕ → ℕ → List Line
before_keys q m s = opening_list q.which q.policy m s ++ context_list q.mode m (s + by (number8 m s) 20 35)

abbrev pub NoKeyIn : Request → List ℕ → ℕ → Type 0
NoKeyIn q m s = NoKey (operation_list (before_keys q) m s) m (entry_end m (s + by (number8 m s) 20 35))

-- what ours and the source's reading answer to one input, which has no key where `no_key` holds
pub record Beside {A : Type 0} (no_key : Type 0) (ours source : Answer A) : Type 0 where
  -- where ours answers neither 32 nor 38, the two answer alike: number, position, record
  pub alike : ((p : ℕ) → ours ≡ refused 32 p → ⊥) → (ours ≡ refused 38 0 → ⊥) → ours ≡ source
  -- ours answers 38 where a count of 0 stands there, and nowhere else
  pub no_key_there : JustWhere (ours ≡ refused 38 0) no_key
  -- where ours answers 32, the source's reading refuses too
  pub both_refuse : (p : ℕ) → ours ≡ refused 32 p → (k : ℕ) × (q : ℕ) × (source ≡ refused k q)
  -- and the source's reading never answers 32 or 38, so the two part just there
  pub source_never_32 : (p : ℕ) → source ≡ refused 32 p → ⊥
  pub source_never_38 : (p : ℕ) → source ≡ refused 38 p → ⊥
  -- so what is accepted does not change where there is a key
  pub accepts : (a : A) (t : ℕ) → JustWhere (ours ≡ accepted a t) ((source ≡ accepted a t) × (no_key → ⊥))
  -- nor what a table holds afterwards, whichever numbers of the record it gets
  pub table : (no_key → ⊥) → (numbers : A → List ℕ) (table : List ℕ) → table_after numbers ours table ≡ table_after numbers source table
  -- 13 can't be answered, and what the source refuses by it is refused by 32
  pub never_13 : (p : ℕ) → ours ≡ refused 13 p → ⊥
  pub for_13 : (p : ℕ) → source ≡ refused 13 p → ours ≡ refused 32 0

-- two calls of writers that answer alike and leave the same, whatever the output, and of which the same is told before
pub record WrittenAlike (ours source : Writing) : Type 0 where
  pub answer : (out : List ℕ) → written ours out ≡ written source out
  pub output : (out : List ℕ) → output_after ours out ≡ output_after source out
  pub size : size_of ours ≡ size_of source

-- operations that read no keys never answer 38
abbrev pub BesideContext : {A : Type 0} → Answer A → Answer A → Type 0
BesideContext ours source = Beside ⊥ ours source

pub record SourceEquality : Type 0 where
  pub of_context : (mode : Mode) (room : ℕ) (m : List ℕ) (s : ℕ) → Bytes m
      → BesideContext (operation (read_aad_section_into mode room) m s) (operation (source_read_aad_section_into mode room) m s)
  pub of_find : (k m : List ℕ) (s : ℕ) → Bytes m → BesideContext (operation (find_value k) m s) (operation (source_find_value k) m s)
  pub of_only_authenticated : (text required : List ℕ) (room : ℕ) (m : List ℕ) (s : ℕ) → Bytes m
      → BesideContext (operation (write_only_authenticated text required room) m s) (operation (source_write_only_authenticated text required room) m s)
  pub of_keys : (max : Max) (room : ℕ) (m : List ℕ) (s : ℕ) → Bytes m
      → Beside (NoKeyAt m s) (operation (read_encrypted_data_keys_section_into max room) m s) (operation (source_read_encrypted_data_keys_section_into max room) m s)
  pub of_body : (q : Request) (m : List ℕ) (s : ℕ) → Bytes m → Beside (NoKeyIn q m s) (operation (read_body q) m s) (operation (source_read_body q) m s)
  -- where ours answers 38, the source's reading of a key section accepts no keys, and a body that it accepts has none
  pub no_keys : (max : Max) (room : ℕ) (m : List ℕ) (s : ℕ) → NoKeyAt m s → operation (source_read_encrypted_data_keys_section_into max room) m s ≡ accepted [] (s + 2)
  pub no_keys_in : (q : Request) (m : List ℕ) (s : ℕ) → Bytes m → NoKeyIn q m s → (b : HeaderBody) (t : ℕ) → operation (source_read_body q) m s ≡ accepted b t → b.keys ≡ []
  -- WRITING. Where there is a key the two are alike. Where there is none ours answers 38 unless 26 comes before it, and the source's writes; of a body
  -- specs/Demand3 NoKeys says it.
  pub keys_written : (text table : List ℕ) → (keys_in text table ≡ [] → ⊥) → WrittenAlike (writing_encrypted_data_keys_section text table) (source_writing_encrypted_data_keys_section text table)
  pub body_written : (b : BodyToWrite) → ((fields_to_write b).keys ≡ [] → ⊥) → WrittenAlike (writing_header_body b) (source_writing_header_body b)
  pub no_keys_written : (text table : List ℕ) → keys_in text table ≡ [] → first (table_checks 6 text table) ≡ none
      → (size_of (writing_encrypted_data_keys_section text table) ≡ refused 38 0) × (size_of (source_writing_encrypted_data_keys_section text table) ≡ accepted tt 2)
  -- and a player is asked only for bytes that can help: those of a section's length, or of the section as a whole
  pub wants : (mode : Mode) (room : ℕ) (m : List ℕ) (s p : ℕ) → operation (read_aad_section_into mode room) m s ≡ refused 2 p → (p ≡ s + 2) ⊎ (p ≡ entry_end m s)
