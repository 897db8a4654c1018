-- Demand 3 of the body reader's calls: the definition's, by the contract. Assumes nothing.
use Prim.Native.Nat.{ℕ, ◌≤◌}
use mathlib.Core.Path.{◌≡◌, refl, sym, ap, ◌∙◌}
use mathlib.Core.Bool.{Bool, true, false, cond}
use mathlib.Core.List.{List}
use lib.ListN.{length}
use Rattle.std.specs.Prelude.{Ok, Err}
use Rattle.format.specs.Read.{Answer, accepted, refused, operation}
use Rattle.format.specs.Serialize.{Bytes}
use Rattle.format.specs.Fields.{today, old, form_number, Fields, fields_of}
use Rattle.format.specs.Fields.{HeaderBody as BodyRead}
use Rattle.format.specs.Context.{Mode, tolerant, strict}
use Rattle.format.specs.Keys.{Max}
use Rattle.format.specs.Policies.{Policy, no_policy}
use Rattle.format.specs.Body.{Which, either, tests_frames, request_under, read_header_body_under}
use Rattle.format.specs.Places.{body_here, body_end}
use Rattle.format.specs.First.{FirstRefusal, body_list}
use Rattle.format.specs.Demand3.{Gives, reaches_old}
use Rattle.format.proofs.FirstBody.{first_refusals}
use Rattle.format.proofs.Filled.{pair_table, key_table}
use Rattle.format.proofs.Demand3.{demand_3}
use Rattle.format.proofs.UnderPolicy.{under_policy}
use Rattle.wire.specs.Codes.{because}
use Rattle.wire.proofs.Answers.{read_got, read_no}
use Rattle.body_reader.specs.Codes.{body_code, body_of}
use Rattle.body_reader.specs.declared.HeaderBody.{HeaderBody}
use Rattle.promises.proofs.Codes.{as_read, by_test}
use Rattle.promises.specs.Reader.{Call, reading_under, reading, Meets, Accepts, GivesFields, Refuses, Listed, Sentence1, Sentence2, Sentence3, Marks, ReaderPromises}

module _ (c : Call) (o : Answer BodyRead) (call : Meets o c) where
  pub accepts : (b : BodyRead) (t : ℕ) → o ≡ accepted b t → Accepts c b t
  accepts b t e = record { answer = rw e at call.answer; pairTable = rw e at call.pairTable; keyTable = rw e at call.keyTable }

  pub refuses : (k p : ℕ) → o ≡ refused k p → Refuses c k p
  refuses k p e = record { answer = rw e at call.answer; pairTable = rw e at call.pairTable; keyTable = rw e at call.keyTable }

-- the code's record of a body gives its fields
module _ (m : List ℕ) (c : Call) (b : BodyRead) (f : Fields) (t : ℕ) (given : Gives m b f) (call : Accepts c b t) where
  pub gives_fields : GivesFields m c (body_code b) f
  unfolding fields_of
  gives_fields =
      record {
        version = ap (λ (y : Fields). y.version) given.fields;
        messageType = ap (λ (y : Fields). y.messageType) given.fields;
        suite = ap (λ (y : Fields). y.suite) given.fields;
        contentType = ap (λ (y : Fields). y.contentType) given.fields;
        headerIvLength = ap (λ (y : Fields). y.headerIvLength) given.fields;
        frameLength = ap (λ (y : Fields). y.frameLength) given.fields;
        messageId = given.placed.messageId ∙ ap (λ (y : Fields). y.messageId) given.fields;
        pairs = rw call.pairTable (pair_table m c.pairs b.pairs given.placed.pairs ∙ ap (λ (y : Fields). y.pairs) given.fields);
        keys = rw call.keyTable (key_table m c.keys b.keys given.placed.keys ∙ ap (λ (y : Fields). y.keys) given.fields);
        suiteData = given.placed.suiteData ∙ ap (λ (y : Fields). y.suiteData) given.fields;
      }

  pub gives_record : (x : HeaderBody) → body_code b ≡ x → GivesFields m c x f
  gives_record x e = rw (← e) gives_fields

-- the mark, as that record has it
pub form_is : (b : BodyRead) (x : HeaderBody) → body_code b ≡ x → x.numbers.form ≡ form_number b.form
form_is b x e = rw (← e) refl

module _ (policy : Policy) (which : Which) (mode : Mode) (max : Max) (m : List ℕ) (s : ℕ) (c : Call) (call : Meets (reading_under policy which mode max m s c) c) where
  law : FirstRefusal (read_header_body_under policy which mode max (length c.pairs) (length c.keys)) (body_list (request_under policy which mode (tests_frames which) max (length c.pairs) (length c.keys))) body_here body_end m s
  unfolding read_header_body_under
  law = first_refusals.of_body (request_under policy which mode (tests_frames which) max (length c.pairs) (length c.keys)) m s

  pub listed : Listed policy which mode max m s c
  listed =
      record {
        refuses = λ q e. law.refuses q.number q.position (read_no body_code (reading_under policy which mode max m s c) c.answer call.answer q e);
        applies = λ k p f. refuses c (reading_under policy which mode max m s c) call k p (law.applies k p f);
        accepts = λ f. accepts c (reading_under policy which mode max m s c) call (body_here m s) (body_end m s) (law.accepts f);
      }

module _ (max : Max) (m : List ℕ) (s : ℕ) (c : Call) (bytes : Bytes m) (call : Meets (reading either tolerant max m s c) c) where
  abbrev said : Answer BodyRead
  said = reading either tolerant max m s c

  sentence_1 : Sentence1 max m s c
  sentence_1 =
      let law = demand_3.sentence_1 max (length c.pairs) (length c.keys) m s bytes in
      record {
        only = λ h x tail e.
            (let g = read_got body_code said c.answer call.answer _ e in
            let y = law.only h g.item tail g.is in
            let a = accepts c said call g.item tail g.is in
            (y.0, y.1, g.item, y.2, y.3, a, y.5, gives_record m c g.item y.1 tail y.3 a x g.gives, form_is g.item x g.gives ∙ ap form_number y.4));
        all = λ h w f e. (let y = law.all h w f e in let a = accepts c said call y.0 _ y.1 in (y.0, a, y.2, gives_fields m c y.0 f _ y.2 a, ap form_number y.3));
        otherwise = λ h none. (let y = law.otherwise h none in (y.0, y.1, refuses c said call y.0 y.1 y.2, y.3));
        longer = λ h. refuses c said call 1 0 (law.longer h);
        farther = λ h. refuses c said call 1 0 (law.farther h);
      }

module _ (policy : Policy) (which : Which) (max : Max) (m : List ℕ) (s : ℕ) (c d : Call) (bytes : Bytes m) (tolerantly : Meets (reading_under policy which tolerant max m s c) c)
    (strictly : Meets (reading_under policy which strict max m s d) d) (pairs : c.pairs ≡ d.pairs) (keys : c.keys ≡ d.keys) where
  pub sentence_2 : Sentence2 policy which m s c d
  sentence_2 =
      let y = under_policy.sentence_2 policy which max (length d.pairs) (length d.keys) m s bytes in
      let t : Meets (operation (read_header_body_under policy which tolerant max (length d.pairs) (length d.keys)) m s) (record { pairs = d.pairs; pairs' = c.pairs'; keys = d.keys; keys' = c.keys'; answer = c.answer }) =
      rw (pairs, keys) at tolerantly in
      record {
        answer = strictly.answer ∙ ap body_of y.answers ∙ by_test (as_read body_code) (reaches_old policy which m s) 21 _ ∙ ap (cond (reaches_old policy which m s) (Err (because 21 0))) (sym t.answer);
        pairTable = strictly.pairTable ∙ y.pair_table d.pairs ∙ ap (cond (reaches_old policy which m s) d.pairs) (sym t.pairTable);
        keyTable = strictly.keyTable ∙ y.key_table d.keys ∙ ap (cond (reaches_old policy which m s) d.keys) (sym t.keyTable);
      }

pub sentence_3 : (policy : Policy) (mode : Mode) (max : Max) (m : List ℕ) (s : ℕ) (c : Call) → length m ≤ 4294967295 → Sentence3 policy mode max m s c
sentence_3 policy mode max m s c h =
    let law = under_policy.sentence_3 policy mode max (length c.pairs) (length c.keys) m s h in
    record { version_1 = λ call. rw law.version_1 at call; version_2 = λ call. rw law.version_2 at call }

module _ (which : Which) (mode : Mode) (max : Max) (m : List ℕ) (s : ℕ) (c : Call) (bytes : Bytes m) (call : Meets (reading which mode max m s c) c) (x : HeaderBody) (tail : ℕ) (e : c.answer ≡ Ok (record { value = x; tail = tail })) where
  marks : Marks which mode m s x
  marks =
      let g = read_got body_code (reading which mode max m s c) c.answer call.answer _ e in
      let law = demand_3.marks which mode max (length c.pairs) (length c.keys) m s bytes g.item tail g.is in
      let f = form_is g.item x g.gives in
      record {
        by_the_section = f ∙ ap form_number law.by_the_section ∙ numbered (reaches_old no_policy which m s);
        with_a_pair = λ h. f ∙ ap form_number (law.with_a_pair (λ none. h (ap (λ (y : HeaderBody). y.pairCount) (sym g.gives) ∙ ap length none)));
        strictly = λ k. f ∙ ap form_number (law.strictly k);
      }
    where
      numbered : (b : Bool) → form_number (cond b old today) ≡ cond b 1 0
      numbered true = refl
      numbered false = refl

pub reader_promises : ReaderPromises
reader_promises = record { listed = listed no_policy; sentence_1 = sentence_1; sentence_2 = sentence_2 no_policy; sentence_3 = sentence_3 no_policy; marks = marks }
