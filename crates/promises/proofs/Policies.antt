-- Under a policy: the definitions' statement, by the contracts. Assumes nothing.
use Prim.Native.Nat.{ℕ, ◌*◌, ◌≤◌, ◌<◌}
use mathlib.Core.Path.{◌≡◌, sym, ap, subst, ◌∙◌}
use mathlib.Core.Bool.{true, cond}
use mathlib.Core.List.{List}
use lib.ListN.{length}
use Rattle.std.specs.Prelude.{Result, Ok, Err}
use Rattle.format.specs.Read.{Answer, operation}
use Rattle.format.specs.Serialize.{Bytes}
use Rattle.format.specs.Fields.{form_number}
use Rattle.format.specs.Fields.{HeaderBody as BodyRead}
use Rattle.format.specs.Context.{Mode, tolerant}
use Rattle.format.specs.Keys.{Max, within}
use Rattle.format.specs.Policies.{Policy}
use Rattle.format.specs.Body.{Which, either, read_header_body}
use Rattle.format.specs.Lent.{writing_header_body_under, writing_header_body}
use Rattle.format.specs.Size.{size_refusals}
use Rattle.format.specs.Demand3.{Gives}
use Rattle.format.specs.UnderPolicy.{forbids_reading, forbids_writing}
use Rattle.format.proofs.Size.{size_laws}
use Rattle.format.proofs.UnderPolicy.{under_policy}
use Rattle.wire.specs.Codes.{because}
use Rattle.wire.specs.declared.refusals.Refusal.{Refusal}
use Rattle.wire.proofs.Answers.{read_got}
use Rattle.checks.specs.Answers.{write_answer_of, Writes}
use Rattle.checks.proofs.Writers.{written_is}
use Rattle.body_reader.specs.Codes.{body_of, body_code}
use Rattle.body_write.specs.Lent.{body_to_write}
use Rattle.promises.specs.Reader.{Call, reading_under, reading, Meets, Accepts}
use Rattle.promises.specs.Writer.{Write, lent, fields, mark, its_image, MeetsWriter}
use Rattle.promises.specs.Size.{Tells, Told}
use Rattle.promises.specs.Policies.{Reads, ReadsImages, MeetsWriterUnder, WritesAlike, PolicyPromises}
use Rattle.promises.proofs.Codes.{as_read, as_told, by_test}
use Rattle.promises.proofs.Reader.{accepts, refuses, gives_fields, gives_record, form_is, listed, sentence_2, sentence_3}
use Rattle.promises.proofs.Size.{told}

module _ (policy : Policy) (which : Which) (mode : Mode) (max : Max) (m : List ℕ) (s : ℕ) (c d : Call) (without : Meets (reading which mode max m s c) c)
    (under : Meets (reading_under policy which mode max m s d) d) (pairs : c.pairs ≡ d.pairs) (keys : c.keys ≡ d.keys) where
  reads : Reads policy which m s c d
  reads =
      let y = under_policy.reads policy which mode max (length d.pairs) (length d.keys) m s in
      let b = forbids_reading policy which m s in
      let t : Meets (operation (read_header_body which mode max (length d.pairs) (length d.keys)) m s) (record { pairs = d.pairs; pairs' = c.pairs'; keys = d.keys; keys' = c.keys'; answer = c.answer }) =
      rw (pairs, keys) at without in
      record {
        answer = under.answer ∙ ap body_of y.answers ∙ by_test (as_read body_code) b 39 _ ∙ ap (cond b (Err (because 39 0))) (sym t.answer);
        pairTable = under.pairTable ∙ y.pair_table d.pairs ∙ ap (cond b d.pairs) (sym t.pairTable);
        keyTable = under.keyTable ∙ y.key_table d.keys ∙ ap (cond b d.keys) (sym t.keyTable);
      }

module _ (policy : Policy) (max : Max) (m : List ℕ) (s : ℕ) (c : Call) (bytes : Bytes m) (call : Meets (reading_under policy either tolerant max m s c) c) where
  abbrev said : Answer BodyRead
  said = reading_under policy either tolerant max m s c

  images : ReadsImages policy max m s c
  images =
      let law = under_policy.images policy max (length c.pairs) (length c.keys) m s bytes in
      record {
        only = λ h x tail e.
            (let g = read_got body_code said c.answer call.answer _ e in
            let (w, f, stands, lets, gives, form, end) = law.only h g.item tail g.is in
            (w, f, stands, lets, end, gives_record m c g.item f tail gives (accepts c said call g.item tail g.is) x g.gives, form_is g.item x g.gives ∙ ap form_number form));
        all = λ h w f e lets.
            (let (b, q, gives, form) = law.all h w f e lets in
            let a = accepts c said call b _ q in
            (b, a, gives, gives_fields m c b f _ gives a, ap form_number form));
        forbidden = λ h w f e not_let. refuses c said call 39 0 (law.forbidden h w f e not_let);
      }

writes : (policy : Policy) (v w : Write) → MeetsWriter v → MeetsWriterUnder policy w → lent v ≡ lent w → v.before ≡ w.before → WritesAlike policy v w
writes policy v w without under same before =
    let law = under_policy.writes policy (lent w) in
    let b = forbids_writing policy (lent w) in
    let plain : Writes (writing_header_body (lent w)) w.before v.after v.answer = rw (same, before) at without in
    record {
      answer = under.answer ∙ ap write_answer_of (law.answer w.before) ∙ by_test as_told b 39 _ ∙ ap (cond b (Err (because 39 0))) (sym plain.answer);
      output = under.output ∙ law.output w.before ∙ ap (cond b w.before) (sym plain.output);
    }

tells : (policy : Policy) (w : Write) (s t : Result ℕ Refusal) → Tells (writing_header_body (lent w)) s → Tells (writing_header_body_under policy (lent w)) t
    → t ≡ cond (forbids_writing policy (lent w)) (Err (because 39 0)) s
tells policy w s t without under =
    let b = forbids_writing policy (lent w) in
    under ∙ ap write_answer_of (under_policy.writes policy (lent w)).size ∙ by_test as_told b 39 _ ∙ ap (cond b (Err (because 39 0))) (sym without)

told_under : (policy : Policy) (w : Write) (s : Result ℕ Refusal) → Tells (writing_header_body_under policy (lent w)) s → MeetsWriterUnder policy w
    → Told (size_refusals policy) (its_image w) w.before w.after w.answer s
unfolding writing_header_body_under body_to_write
told_under policy w s size call = told (writing_header_body_under policy (lent w)) (size_refusals policy) (size_laws.of_body policy (lent w)) w.before w.after w.answer s size call

reads_its_own : (policy : Policy) (w : Write) → w.numbers.frameLength < 4294967296 → MeetsWriterUnder policy w → (n : ℕ) → w.answer ≡ Ok n
    → length w.before ≤ 4294967295 → (max : Max) (c : Call) → Meets (reading_under policy either tolerant max w.after 0 c) c
    → 4 * length (fields w).pairs ≤ length c.pairs → 6 * length (fields w).keys ≤ length c.keys → within (length (fields w).keys) max ≡ true
    → (b : BodyRead) × Accepts c b n × Gives w.after b (fields w) × (b.form ≡ mark w)
unfolding body_to_write
reads_its_own policy w wide call n e few max c read hp hk hm =
    let (b, said, gives, marked) = under_policy.reads_its_own policy (lent w) w.before n wide (written_is w.answer _ call.answer n e) few max (length c.pairs) (length c.keys) hp hk hm in
    (b, accepts c _ read b n (ap (λ o. reading_under policy either tolerant max o 0 c) call.output ∙ said), subst (λ (o : List ℕ). Gives o b (fields w)) (sym call.output) gives, marked)

pub policy_promises : PolicyPromises
policy_promises =
    record {
      reads = reads;
      images = images;
      listed = listed;
      sentence_2 = sentence_2;
      sentence_3 = sentence_3;
      writes = writes;
      tells = tells;
      told = told_under;
      reads_its_own = reads_its_own;
    }
