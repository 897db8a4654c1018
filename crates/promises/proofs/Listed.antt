-- Each reader's answer refuses by the first line that applies, and where none does it is that of what stands there. Assumes nothing.
use Prim.Native.Nat.{ℕ}
use mathlib.Core.Path.{◌≡◌, sym, ap, ◌∙◌}
use mathlib.Core.List.{List}
use lib.ListN.{length}
use Rattle.std.specs.Prelude.{Result}
use Rattle.format.specs.Read.{Reader, Answer, accepted, operation}
use Rattle.format.specs.First.{Line, FirstRefusal, operation_list}
use Rattle.format.proofs.FirstBody.{first_refusals}
use Rattle.wire.specs.declared.refusals.Refusal.{Refusal}
use Rattle.auth.specs.Codes.{auth_code}
use Rattle.promises.specs.Listed.{ByFirst, ListedPromises}
use Rattle.promises.proofs.Codes.{Keeps, as_read, as_found, as_written}

module _ {A T : Type 0} {code : Answer A → Result T Refusal} (keeps : Keeps code) where
  by_first : {r : Reader A} {list : List ℕ → ℕ → List Line} {here : List ℕ → ℕ → A} {end : List ℕ → ℕ → ℕ} {m : List ℕ} {s : ℕ} → FirstRefusal r list here end m s
      → (x : Result T Refusal) → x ≡ code (operation r m s) → ByFirst (operation_list list m s) (code (accepted (here m s) (end m s))) x
  by_first {r} {list} {here} {end} {m} {s} law x e =
      record {
        refuses = λ q f. law.refuses q.number q.position (keeps.back (operation r m s) q (sym e ∙ f));
        applies = λ k p f. e ∙ ap code (law.applies k p f) ∙ keeps.there k p;
        accepts = λ f. e ∙ ap code (law.accepts f);
      }

pub listed_promises : ListedPromises
listed_promises =
    record {
      of_context = λ mode room m s before after r call. by_first (as_read length) (first_refusals.of_context mode room m s) r call.answer;
      of_find = λ k m s r call. by_first as_found (first_refusals.of_find k m s) r call;
      of_only_authenticated = λ text required m s before after r call. by_first as_written (first_refusals.of_only_authenticated text required (length before) m s) r call.answer;
      of_drop = λ id before after r call. by_first as_written (first_refusals.of_drop id before 0) r call.answer;
      of_add = λ k before after r call. by_first as_written (first_refusals.of_add k (length before) before 0) r call.answer;
      of_reissue = λ a m s before after r call. by_first as_written (first_refusals.of_reissue a (length before) m s) r call.answer;
      of_reissued = λ a m s r call. by_first as_written (first_refusals.of_reissued a m s) r call;
      of_keys = λ max room m s before after r call. by_first (as_read length) (first_refusals.of_keys max room m s) r call.answer;
      of_auth = λ suite m s r call. by_first (as_read auth_code) (first_refusals.of_auth suite m s) r call;
      of_frames = λ frame room m s before after r call. by_first (as_read length) (first_refusals.of_frames frame room m s) r call.answer;
    }
