-- Fields without a key are accepted by neither side: the definitions' statement, by the contracts. Assumes nothing.
use Prim.Native.Nat.{ℕ}
use native.Mathlib.Omega.{arith}
use mathlib.Core.Path.{◌≡◌, refl, sym, ap, ◌∙◌}
use mathlib.Core.Option.{Option, none, some}
use mathlib.Core.List.{List, [], ◌∷◌, ◌++◌}
use lib.ListN.{length}
use Rattle.std.specs.Prelude.{Result, Ok}
use Rattle.format.specs.Read.{accepted, operation}
use Rattle.format.specs.Serialize.{Bytes}
use Rattle.format.specs.Context.{Mode, tolerant}
use Rattle.format.specs.Keys.{Max, read_encrypted_data_keys_section_into}
use Rattle.format.specs.Body.{Which, either}
use Rattle.format.specs.Checks.{first, keys_checks}
use Rattle.format.specs.Lent.{key_numbers, keys_in, table_checks, writing_encrypted_data_keys_section}
use Rattle.format.proofs.Firsts.{holds, unheld, split}
use Rattle.format.proofs.Demand3.{demand_3}
use Rattle.wire.specs.declared.refusals.Refusal.{Refusal}
use Rattle.wire.specs.declared.SuccessfulRead.{SuccessfulRead}
use Rattle.wire.proofs.Answers.{read_got}
use Rattle.entries.specs.Codes.{Reads, counted}
use Rattle.entries.proofs.Sections.{counted_got}
use Rattle.checks.specs.Answers.{Writes}
use Rattle.body_reader.specs.Codes.{body_code}
use Rattle.body_reader.specs.declared.HeaderBody.{HeaderBody}
use Rattle.promises.specs.Reader.{Call, reading, Meets}
use Rattle.promises.specs.Writer.{fields, mark}
use Rattle.promises.specs.NoKeys.{NoKeysPromises}
use Rattle.promises.proofs.Reader.{refuses}
use Rattle.promises.proofs.Writer.{sentence_4, by_checks}

empty : {A : Type 0} (xs : List A) → length xs ≡ 0 → xs ≡ []
empty [] e = refl
empty (x ∷ xs) e = absurd (omega arith)

body_read : (which : Which) (mode : Mode) (max : Max) (m : List ℕ) (s : ℕ) (c : Call) → Bytes m → Meets (reading which mode max m s c) c
    → (x : HeaderBody) (tail : ℕ) → c.answer ≡ Ok (record { value = x; tail = tail }) → x.keyCount ≡ 0 → ⊥
body_read which mode max m s c hb call x tail e none_there =
    let g = read_got body_code (reading which mode max m s c) c.answer call.answer _ e in
    demand_3.no_keys.no_reader which mode max (length c.pairs) (length c.keys) m s hb g.item tail g.is (empty g.item.keys (ap (λ (y : HeaderBody). y.keyCount) g.gives ∙ none_there))

section_read : (max : Max) (room : ℕ) (m : List ℕ) (s : ℕ) → Bytes m → (before after : List ℕ) (r : Result (SuccessfulRead ℕ) Refusal)
    → Reads counted key_numbers (operation (read_encrypted_data_keys_section_into max room) m s) before after r → (n tail : ℕ) → r ≡ Ok (record { value = n; tail = tail }) → n ≡ 0 → ⊥
section_read max room m s hb before after r call n tail e none_there =
    let g = counted_got (operation (read_encrypted_data_keys_section_into max room) m s) r call.answer _ e in
    demand_3.no_keys.no_section max room m s tail hb (g.is ∙ ap (λ y. accepted y tail) (empty g.items (g.long ∙ none_there)))

section_written : (text table before after : List ℕ) (r : Result ℕ Refusal) → Writes (writing_encrypted_data_keys_section text table) before after r
    → (n : ℕ) → r ≡ Ok n → keys_in text table ≡ [] → ⊥
unfolding writing_encrypted_data_keys_section
section_written text table before after r call n e none_there =
    let (passed, size, kept) = (by_checks (writing_encrypted_data_keys_section text table) before after r call).only_then n e in
    let held = (split (table_checks 6 text table ++ keys_checks (keys_in text table)) _ (holds _ passed)).0 in
    let none_fails : first (keys_checks []) ≡ none = rw none_there at (unheld (keys_checks (keys_in text table)) (split (table_checks 6 text table) (keys_checks (keys_in text table)) held).1) in
    let y : ◌≡◌ {A = Option ℕ} (some 38) none = sym demand_3.no_keys.section_says ∙ none_fails in
    cc

pub no_keys_promises : NoKeysPromises
no_keys_promises =
    record {
      body_read = body_read;
      section_read = section_read;
      body_written = λ w wide call n e none_there. demand_3.no_keys.no_writer (mark w) (fields w) none_there ((sentence_4 w wide call).only_then n e).0.accepts;
      section_written = section_written;
      less_their_keys = λ w f a max m s after c fits stands call.
          refuses c (reading either tolerant max m s c) call 38 0 (demand_3.no_keys.reader_says w f a max (length c.pairs) (length c.keys) m s after fits stands);
    }
