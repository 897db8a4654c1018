-- What the reader's calls gave is written back by the writer's: the definitions' theorem, by both contracts. Assumes nothing.
use Prim.Native.Nat.{ℕ, ◌-◌, ◌≤◌}
use mathlib.Core.Path.{◌≡◌, refl, ap, ◌∙◌}
use mathlib.Core.List.{List}
use lib.ListN.{length}
use Rattle.std.specs.Prelude.{Ok}
use Rattle.format.specs.Read.{accepted}
use Rattle.format.specs.Serialize.{Bytes}
use Rattle.format.specs.Fields.{today, old, form_number}
use Rattle.format.specs.Fields.{Form as Mark}
use Rattle.format.specs.Fields.{HeaderBody as BodyRead}
use Rattle.format.specs.Context.{Mode}
use Rattle.format.specs.Keys.{Max}
use Rattle.format.specs.Body.{either}
use Rattle.format.specs.Lent.{bytes_at, filled, pair_table_after, key_table_after, BodyToWrite, written, output_after, writing_header_body}
use Rattle.format.specs.WrittenBack.{again}
use Rattle.format.proofs.WrittenBack.{written_back}
use Rattle.wire.proofs.Answers.{read_got}
use Rattle.fields.specs.Codes.{form_of, form_named}
use Rattle.body_reader.specs.Codes.{body_code}
use Rattle.body_reader.specs.declared.HeaderBody.{HeaderBody}
use Rattle.checks.specs.Answers.{write_answer_of}
use Rattle.body_write.specs.Lent.{body_to_write}
use Rattle.promises.specs.Reader.{Call, reading, Meets, Accepts}
use Rattle.promises.specs.Writer.{Write, lent, MeetsWriter}
use Rattle.promises.specs.WrittenBack.{Hands, WrittenBackPromise}
use Rattle.promises.proofs.Reader.{accepts}

-- the number that a reader gives is taken for the mark that it stands for
mark_again : (form : Mark) → form_of (form_named (form_number form)) ≡ form
mark_again today = refl
mark_again old = refl

module _ (m : List ℕ) (c : Call) (b : BodyRead) (tail : ℕ) (call : Accepts c b tail) (w : Write) (hands : Hands m c (body_code b) w) where
  is_lent : lent w ≡ again m b (pair_table_after (accepted b tail) c.pairs) (key_table_after (accepted b tail) c.keys)
  unfolding body_to_write again
  is_lent =
      rw (hands.numbers, hands.messageId, hands.suiteData, hands.text, hands.pairs, hands.keys, call.pairTable, call.keyTable, mark_again b.form) refl

exactly : (mode : Mode) (max : Max) (m : List ℕ) (s : ℕ) (c : Call) → Bytes m → Meets (reading either mode max m s c) c
    → (x : HeaderBody) (tail : ℕ) → c.answer ≡ Ok (record { value = x; tail = tail }) → (w : Write) → MeetsWriter w → Hands m c x w → tail - s ≤ length w.before
    → (w.answer ≡ Ok (tail - s)) × (w.after ≡ filled (bytes_at m s (tail - s)) w.before)
exactly mode max m s c bytes call x tail e w wrote hands fits =
    let g = read_got body_code (reading either mode max m s c) c.answer call.answer _ e in
    let is = is_lent m c g.item tail (accepts c (reading either mode max m s c) call g.item tail g.is) w (rw (← g.gives) at hands) in
    let (answer, output) = (written_back.exactly mode max (length c.pairs) (length c.keys) m s bytes g.item tail g.is).back c.pairs c.keys w.before fits in (
      wrote.answer ∙ ap (λ (y : BodyToWrite). write_answer_of (written (writing_header_body y) w.before)) is ∙ ap write_answer_of answer,
      wrote.output ∙ ap (λ (y : BodyToWrite). output_after (writing_header_body y) w.before) is ∙ output,
    )

pub written_back_promise : WrittenBackPromise
written_back_promise = record { exactly = exactly }
