-- The code against the source's reading: the definitions' equality, by the contracts. Assumes nothing.
use Prim.Native.Nat.{ℕ}
use mathlib.Core.Path.{◌≡◌, sym, ap, ◌∙◌}
use mathlib.Core.List.{List}
use lib.ListN.{length}
use Rattle.std.specs.Prelude.{Result}
use Rattle.format.specs.Read.{Answer}
use Rattle.format.specs.Serialize.{Bytes}
use Rattle.format.specs.Context.{Mode}
use Rattle.format.specs.Keys.{Max}
use Rattle.format.specs.Body.{Which, read_header_body_under}
use Rattle.format.specs.Lent.{table_after, pair_numbers, key_numbers, pair_table_after, key_table_after, Writing}
use Rattle.format.specs.SourceEquality.{NoKeyIn, Beside, WrittenAlike}
use Rattle.format.proofs.SourceEquality.{source_equality}
use Rattle.wire.specs.Codes.{because}
use Rattle.wire.specs.declared.refusals.Refusal.{Refusal}
use Rattle.entries.specs.Codes.{Reads}
use Rattle.checks.specs.Answers.{write_answer_of, Writes, whole}
use Rattle.body_reader.specs.Codes.{body_code}
use Rattle.promises.specs.Reader.{Call, reading, Meets}
use Rattle.promises.specs.Writer.{lent}
use Rattle.promises.specs.Source.{BySource, Leaves, as_asked, source_reading, BodyLeaves, SourcePromises}
use Rattle.promises.proofs.Codes.{Keeps, as_read, as_found, as_written}

module _ {A T : Type 0} {code : Answer A → Result T Refusal} (keeps : Keeps code) (no_key : Type 0) (ours source : Answer A) (law : Beside no_key ours source) (r : Result T Refusal) (is : r ≡ code ours) where
  by_source : BySource no_key code source r
  by_source =
      record {
        alike = λ no none. is ∙ ap code (law.alike (λ p e. no p (is ∙ ap code e ∙ keeps.there 32 p)) (λ e. none (is ∙ ap code e ∙ keeps.there 38 0)));
        no_key_there = record { onward = λ e. law.no_key_there.onward (keeps.back ours (because 38 0) (sym is ∙ e)); back = λ k. is ∙ ap code (law.no_key_there.back k) ∙ keeps.there 38 0 };
        both_refuse = λ p e. law.both_refuse p (keeps.back ours (because 32 p) (sym is ∙ e));
        never_13 = λ p e. law.never_13 p (keeps.back ours (because 13 p) (sym is ∙ e));
      }

  leaves : (numbers : A → List ℕ) (before after : List ℕ) → Reads code numbers ours before after r → Leaves no_key code numbers source before after r
  leaves numbers before after call =
      record { answer = by_source; table = λ some. call.table ∙ law.table some numbers before; kept = λ k. call.table ∙ ap (λ o. table_after numbers o before) (law.no_key_there.back k) }

body_leaves : (which : Which) (mode : Mode) (max : Max) (m : List ℕ) (s : ℕ) (c : Call) → Bytes m → Meets (reading which mode max m s c) c → BodyLeaves (NoKeyIn (as_asked which mode max c) m s) (source_reading which mode max m s c) c
unfolding read_header_body_under
body_leaves which mode max m s c hb call =
    let law = source_equality.of_body (as_asked which mode max c) m s hb in
    record {
      answer = by_source (as_read body_code) _ _ _ law c.answer call.answer;
      pairTable = λ some. call.pairTable ∙ law.table some (λ b. pair_numbers b.pairs) c.pairs;
      keyTable = λ some. call.keyTable ∙ law.table some (λ b. key_numbers b.keys) c.keys;
      kept = λ k.
          let e = law.no_key_there.back k in
          (call.pairTable ∙ ap (λ o. pair_table_after o c.pairs) e, call.keyTable ∙ ap (λ o. key_table_after o c.keys) e);
    }

-- a call of a writer, by what answers alike and leaves the same
written_alike : {w w' : Writing} → WrittenAlike w w' → (before after : List ℕ) (r : Result ℕ Refusal) → Writes w before after r → Writes w' before after r
written_alike h before after r call = record { answer = call.answer ∙ ap write_answer_of (h.answer before); output = call.output ∙ h.output before }

pub source_promises : SourcePromises
source_promises =
    record {
      of_context = λ mode room m s hb before after r call.
          leaves (as_read length) _ _ _ (source_equality.of_context mode room m s hb) r call.answer pair_numbers before after call;
      of_find = λ k m s hb r call. by_source as_found _ _ _ (source_equality.of_find k m s hb) r call;
      of_only_authenticated = λ text required room m s hb before after r call.
          leaves as_written _ _ _ (source_equality.of_only_authenticated text required room m s hb) r call.answer whole before after call;
      wants = λ mode room m s before after r call p e. source_equality.wants mode room m s p ((as_read length).back _ (because 2 p) (sym call.answer ∙ e));
      of_keys = λ max room m s hb before after r call.
          leaves (as_read length) _ _ _ (source_equality.of_keys max room m s hb) r call.answer key_numbers before after call;
      of_body = body_leaves;
      keys_written = λ text table before after r some call. written_alike (source_equality.keys_written text table some) before after r call;
      body_written = λ w some call. written_alike (source_equality.body_written (lent w) some) w.before w.after w.answer call;
      body_length = λ w s some told. told ∙ ap write_answer_of (source_equality.body_written (lent w) some).size;
    }
