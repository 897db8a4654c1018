-- Fields without a key are accepted by neither side, of the code: what every call of a reader or a writer answers, by its contract. Proved in
-- proofs/NoKeys. Assumes nothing.
use Rattle.std.specs.Prelude.{ℕ, ◌≤◌, ◌<◌, ◌≡◌, List, [], ◌++◌, length, drop, Result, Ok}
use Rattle.format.specs.Read.{operation}
use Rattle.format.specs.Serialize.{Bytes}
use Rattle.format.specs.Fields.{Fields}
use Rattle.format.specs.Context.{Mode, tolerant}
use Rattle.format.specs.Keys.{Max, read_encrypted_data_keys_section_into}
use Rattle.format.specs.Body.{Which, either}
use Rattle.format.specs.Checks.{Accepts as WriterAccepts}
use Rattle.format.specs.Lent.{key_numbers, keys_in, writing_encrypted_data_keys_section}
use Rattle.format.specs.Demand3.{Writer, mark_by, image_by, without_keys}
use Rattle.wire.specs.declared.refusals.Refusal.{Refusal}
use Rattle.wire.specs.declared.SuccessfulRead.{SuccessfulRead}
use Rattle.entries.specs.Codes.{Reads, counted}
use Rattle.checks.specs.Answers.{Writes}
use Rattle.body_reader.specs.declared.HeaderBody.{HeaderBody}
use Rattle.promises.specs.Reader.{Call, reading, Meets, Refuses}
use Rattle.promises.specs.Writer.{Write, fields, MeetsWriter}

pub record NoKeysPromises : Type 0 where
  -- a body or a key section that is read has a key, whatever version, mode, maximum and tables are asked for
  pub body_read : (which : Which) (mode : Mode) (max : Max) (m : List ℕ) (s : ℕ) (c : Call) → Bytes m → Meets (reading which mode max m s c) c
      → (x : HeaderBody) (tail : ℕ) → c.answer ≡ Ok (record { value = x; tail = tail }) → x.keyCount ≡ 0 → ⊥
  pub section_read : (max : Max) (room : ℕ) (m : List ℕ) (s : ℕ) → Bytes m → (before after : List ℕ) (r : Result (SuccessfulRead ℕ) Refusal)
      → Reads counted key_numbers (operation (read_encrypted_data_keys_section_into max room) m s) before after r → (n tail : ℕ) → r ≡ Ok (record { value = n; tail = tail }) → n ≡ 0 → ⊥
  -- and so has one that is written
  pub body_written : (w : Write) → w.numbers.frameLength < 4294967296 → MeetsWriter w → (n : ℕ) → w.answer ≡ Ok n → (fields w).keys ≡ [] → ⊥
  pub section_written : (text table before after : List ℕ) (r : Result ℕ Refusal) → Writes (writing_encrypted_data_keys_section text table) before after r
      → (n : ℕ) → r ≡ Ok n → keys_in text table ≡ [] → ⊥
  -- the bytes of fields that a writer accepts, less their keys, are refused by 38, and the tables are as they were
  pub less_their_keys : (w : Writer) (f : Fields) → WriterAccepts (mark_by w f.pairs) f → (max : Max) (m : List ℕ) (s : ℕ) (after : List ℕ) (c : Call)
      → length m ≤ 4294967295 → drop s m ≡ image_by w (without_keys f) ++ after → Meets (reading either tolerant max m s c) c → Refuses c 38 0
