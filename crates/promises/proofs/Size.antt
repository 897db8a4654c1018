-- What the code tells of a size: the definition's law, by the two contracts. Assumes nothing.
use Prim.Native.Nat.{ℕ, ◌≤◌}
use mathlib.Core.Path.{◌≡◌, ap, ◌∙◌}
use mathlib.Core.List.{List}
use lib.ListN.{length}
use Rattle.std.specs.Prelude.{Result, Ok, Err}
use Rattle.format.specs.Read.{accepted, refused}
use Rattle.format.specs.Policies.{no_policy}
use Rattle.format.specs.Lent.{filled, Writing, size_of, writing_header_body_under, writing_header_body, writing_frames}
use Rattle.format.specs.Size.{SizeLaw, size_refusals, frames_size_refusals, GivenBy}
use Rattle.format.proofs.Writers.{writer_law}
use Rattle.format.proofs.Size.{size_laws}
use Rattle.wire.specs.Codes.{because}
use Rattle.wire.specs.declared.refusals.Refusal.{Refusal}
use Rattle.checks.specs.Answers.{write_answer_of, Writes}
use Rattle.checks.proofs.Writers.{written_is, refused_is}
use Rattle.body_write.specs.Lent.{body_to_write}
use Rattle.promises.specs.Writer.{Write, lent, its_image, MeetsWriter}
use Rattle.promises.specs.Size.{Tells, Told, SizePromises}

module _ (w : Writing) (refusals : List ℕ) (given : GivenBy refusals w) (before after : List ℕ) (r s : Result ℕ Refusal) (size : Tells w s) (call : Writes w before after r) where
  law : SizeLaw w
  law = size_laws.of_writers w

  told_refused : (q : Refusal) → s ≡ Err q → size_of w ≡ refused q.number q.position
  told_refused q e = refused_is s (size_of w) size q e

  told_length : (n : ℕ) → s ≡ Ok n → size_of w ≡ accepted tt n
  told_length n e = written_is s (size_of w) size n e

  reports : (n : ℕ) → s ≡ Ok n → n ≤ length before → (r ≡ Ok n) × (n ≡ length w.image) × (after ≡ filled w.image before)
  reports n e h =
      let a = law.reports n (told_length n e) before h in
      let (c, d, room, o) = (writer_law w before).only_then n a in
      (call.answer ∙ ap write_answer_of a, d, call.output ∙ o)

  pub told : Told refusals w.image before after r s
  told =
      record {
        refuses = λ q e. (let (a, o) = law.refuses _ _ (told_refused q e) before in (call.answer ∙ ap write_answer_of a, call.output ∙ o));
        too_short = λ n e.
            (let short = law.too_short n (told_length n e) before in
            record {
              onward = λ a. short.onward (refused_is r _ call.answer (because 28 0) a);
              back = λ h. call.answer ∙ ap write_answer_of (short.back h);
            });
        reports = reports;
        refusal_told = λ q a other. size ∙ ap write_answer_of (law.refusal_given before _ _ (refused_is r _ call.answer q a) other);
        length_told = λ n a. size ∙ ap write_answer_of (law.length_given before n (written_is r _ call.answer n a));
        listed = λ q e. given _ _ (told_refused q e);
      }

of_body : (w : Write) (s : Result ℕ Refusal) → Tells (writing_header_body (lent w)) s → MeetsWriter w → Told (size_refusals no_policy) (its_image w) w.before w.after w.answer s
unfolding writing_header_body_under body_to_write
of_body w s size call = told (writing_header_body (lent w)) (size_refusals no_policy) (size_laws.of_body no_policy (lent w)) w.before w.after w.answer s size call

pub size_promises : SizePromises
size_promises =
    record {
      of_body = of_body;
      of_frames = λ frame text table. told (writing_frames frame text table) frames_size_refusals (size_laws.of_frames frame text table);
    }
