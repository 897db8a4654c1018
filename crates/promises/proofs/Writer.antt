-- Demand 3 of the body writer's calls: the definition's, by the contract. Assumes nothing.
use Prim.Native.Nat.{ℕ, ◌*◌, ◌≤◌, ◌<◌}
use mathlib.Core.Path.{◌≡◌, refl, sym, ap, subst, ◌∙◌}
use mathlib.Core.Bool.{true}
use mathlib.Core.Option.{Option, none, some}
use mathlib.Core.List.{List}
use lib.ListN.{length}
use Rattle.std.specs.Prelude.{Result, Ok}
use Rattle.format.specs.Fields.{HeaderBody as BodyRead}
use Rattle.format.specs.Context.{tolerant}
use Rattle.format.specs.Keys.{Max, within}
use Rattle.format.specs.Body.{either}
use Rattle.format.specs.Lent.{filled, Writing, refusal_of, written_of, output_of, writing_header_body}
use Rattle.format.specs.Demand3.{Gives}
use Rattle.format.specs.Demand3.{Sentence4 as Sentence4Defined}
use Rattle.format.proofs.Writers.{of_accepted, of_refused}
use Rattle.format.proofs.Demand3.{demand_3}
use Rattle.format.proofs.Pinned.{pinned}
use Rattle.wire.specs.declared.refusals.Refusal.{Refusal}
use Rattle.checks.specs.Answers.{write_answer_of, Writes}
use Rattle.checks.proofs.Writers.{written_is, refused_is}
use Rattle.body_write.specs.Lent.{body_to_write}
use Rattle.promises.specs.Reader.{Call, reading, Meets, Accepts}
use Rattle.promises.specs.Writer.{all_checks, ByChecks, Write, lent, fields, mark, its_image, MeetsWriter, NoneApplies, Sentence4, WriterPromises}
use Rattle.promises.proofs.Reader.{accepts}

-- every writer: by the first of its checks that fails
module _ (w : Writing) (before after : List ℕ) (r : Result ℕ Refusal) (call : Writes w before after r) where
  -- by what its checks find
  by : (x : Option ℕ) → refusal_of w before ≡ x → (r ≡ write_answer_of (written_of x w.image)) × (after ≡ output_of x w.image before)
  by x e = (rw e at call.answer, rw e at call.output)

  pub by_checks : ByChecks w before after r
  unfolding refusal_of
  by_checks =
      let first_law = pinned.first_check (all_checks w before) in
      record {
        writes = λ e. by none e;
        only_then = λ n e. (let (p, long) = of_accepted w.image (refusal_of w before) n (written_is r _ call.answer n e) in (p, long, (by none p).1));
        refuses = λ q e.
            (let (p, first) = of_refused w.image (refusal_of w before) q.number q.position (refused_is r _ call.answer q e) in
            ((first_law q.number).onward p, first, (by (some q.number) p).1));
        fails = λ k f. by (some k) ((first_law k).back f);
      }

module _ (w : Write) (wide : w.numbers.frameLength < 4294967296) (call : MeetsWriter w) where
  law : Sentence4Defined (lent w) w.before
  law = demand_3.sentence_4 (lent w) w.before

  frame_is : (lent w).frameLength ≡ w.numbers.frameLength
  unfolding body_to_write
  frame_is = refl

  wide_lent : (lent w).frameLength < 4294967296
  wide_lent = rw frame_is wide

  texts : ((lent w).text ≡ w.text) × ((lent w).pairTable ≡ w.pairs) × ((lent w).keyTable ≡ w.keys)
  unfolding body_to_write
  texts = (refl, refl, refl)

  writes : NoneApplies w → (w.answer ≡ Ok (length (its_image w))) × (w.after ≡ filled (its_image w) w.before)
  unfolding body_to_write
  writes h =
      let (a, o) = law.writes h.accepts h.pairs h.keys h.fits in
      (call.answer ∙ ap write_answer_of a, call.output ∙ o)

  only_then : (n : ℕ) → w.answer ≡ Ok n → NoneApplies w × (n ≡ length (its_image w)) × (w.after ≡ filled (its_image w) w.before)
  unfolding body_to_write
  only_then n e =
      let (a, p, k, d, room, o) = law.only_then n wide_lent (written_is w.answer _ call.answer n e) in
      (record { accepts = a; pairs = p; keys = k; fits = rw d at room }, d, call.output ∙ o)

  read_back : (n : ℕ) → w.answer ≡ Ok n → length w.before ≤ 4294967295 → (max : Max) (c : Call) → Meets (reading either tolerant max w.after 0 c) c
      → 4 * length (fields w).pairs ≤ length c.pairs → 6 * length (fields w).keys ≤ length c.keys → within (length (fields w).keys) max ≡ true
      → (b : BodyRead) × Accepts c b n × Gives w.after b (fields w) × (b.form ≡ mark w)
  unfolding body_to_write
  read_back n e few max c read hp hk hm =
      let (b, said, gives, marked) = law.read_back n wide_lent (written_is w.answer _ call.answer n e) few max (length c.pairs) (length c.keys) hp hk hm in
      (b, accepts c _ read b n (ap (λ o. reading either tolerant max o 0 c) call.output ∙ said), subst (λ (o : List ℕ). Gives o b (fields w)) (sym call.output) gives, marked)

  pub sentence_4 : Sentence4 w
  sentence_4 =
      record {
        writes = writes;
        only_then = only_then;
        checked = by_checks (writing_header_body (lent w)) w.before w.after w.answer call;
        read_back = read_back;
      }

pub writer_promises : WriterPromises
writer_promises = record { writers = by_checks; sentence_4 = sentence_4 }
