-- What two calls leave is a function of what the definition answers, which keeps shortages apart. Assumes nothing.
use Prim.Native.Nat.{ℕ, ◌+◌, ◌*◌, ◌≤◌}
use mathlib.Core.Path.{◌≡◌, refl, sym, ap, subst, ◌∙◌}
use mathlib.Core.List.{List, [], ◌∷◌}
use lib.ListN.{length, take}
use Rattle.std.specs.Prelude.{Result, Ok}
use Rattle.format.specs.Read.{Reader, Answer, refused, operation}
use Rattle.format.specs.Serialize.{Bytes}
use Rattle.format.specs.Fields.{HeaderBody as BodyRead}
use Rattle.format.specs.Shared.{by}
use Rattle.format.specs.Context.{Mode, read_aad_section_into}
use Rattle.format.specs.Keys.{Max}
use Rattle.format.specs.Policies.{Policy}
use Rattle.format.specs.Body.{Which, tests_frames, request_under, read_header_body_under}
use Rattle.format.specs.Lent.{table_after, pair_table_after, key_table_after, pair_numbers, key_numbers, frame_numbers}
use Rattle.format.specs.Trusted.{TwoRuns, Trusted}
use Rattle.format.specs.Fetched.{Rounds, NoMoreThan}
use Rattle.format.proofs.Trusted.{trust}
use Rattle.format.proofs.Fetched.{few_rounds, whole_sections}
use Rattle.wire.specs.Codes.{because}
use Rattle.wire.specs.declared.refusals.Refusal.{Refusal}
use Rattle.wire.proofs.Answers.{read_got, read_no}
use Rattle.entries.specs.Codes.{Reads}
use Rattle.entries.proofs.Sections.{counted_got}
use Rattle.context.specs.Codes.{found_of}
use Rattle.auth.specs.Codes.{auth_code, auth_of}
use Rattle.checks.specs.Answers.{written_as, whole}
use Rattle.body_reader.specs.Codes.{body_code, body_of}
use Rattle.body_reader.specs.declared.HeaderBody.{HeaderBody}
use Rattle.promises.specs.Reader.{Call, reading_under, Meets}
use Rattle.promises.specs.Trusted.{Left, left, BodyLeft, body_left, BodyTrusted, SaysShortage, Says, TrustedPromises}
use Rattle.promises.proofs.Codes.{Keeps, as_read, as_found, as_written}

-- carried by a function that takes only a shortage to a shortage
module _ {A O : Type 0} (carry : Answer A → O) (back : (o : Answer A) (p : ℕ) → carry o ≡ carry (refused 2 p) → o ≡ refused 2 p) {n n' : ℕ} {x y : Answer A} (law : TwoRuns (refused 2) n n' x y) where
  carried : (o o' : O) → o ≡ carry x → o' ≡ carry y → TwoRuns (λ p. carry (refused 2 p)) n n' o o'
  carried o o' e f =
      record {
        same = λ h. f ∙ ap carry (law.same (λ p g. h p (e ∙ ap carry g))) ∙ sym e;
        above = λ p g. law.above p (back x p (sym e ∙ g));
        still = λ p g h. f ∙ ap carry (law.still p (back x p (sym e ∙ g)) h);
        onward = λ p g h q j. law.onward p (back x p (sym e ∙ g)) h q (back y q (sym f ∙ j));
      }

-- the rounds of calls are rounds of the definition
rounds_as : {says says' : ℕ → ℕ → Type 0} (size : ℕ) → ((n p : ℕ) → says n p → says' n p) → (ps : List ℕ) (n : ℕ) → Rounds ps says size n → Rounds ps says' size n
rounds_as size f [] n h = tt
rounds_as size f (p ∷ ps) n (h, e, rest) = (h, f n p e, rounds_as size f ps p rest)

module _ {A T : Type 0} {code : Answer A → Result T Refusal} (keeps : Keeps code) where
  shortage : (o : Answer A) (p : ℕ) → code o ≡ code (refused 2 p) → o ≡ refused 2 p
  shortage o p e = keeps.back o (because 2 p) (e ∙ keeps.there 2 p)

  -- an answer, and a table afterwards
  module _ (numbers : A → List ℕ) where
    with_table : {n n' : ℕ} {x y : Answer A} → TwoRuns (refused 2) n n' x y → (before after after' : List ℕ) (r r' : Result T Refusal) → Reads code numbers x before after r → Reads code numbers y before after' r'
        → TwoRuns (λ p. left (code (refused 2 p)) before) n n' (left r after) (left r' after')
    with_table law before after after' r r' c d =
        carried (λ o. left (code o) (table_after numbers o before)) (λ o p e. shortage o p (ap (λ (z : Left (Result T Refusal)). z.answer) e)) law (left r after) (left r' after')
        (rw (c.answer, c.table) refl) (rw (d.answer, d.table) refl)

    calls_say : (r : Reader A) (m : List ℕ) (s : ℕ) (before : List ℕ) (n p : ℕ) → Says code numbers r m s before n p → operation r (take n m) s ≡ refused 2 p
    calls_say r m s before n p (after, x, call, short) = keeps.back (operation r (take n m) s) (because 2 p) (sym call.answer ∙ short)

-- bodies
abbrev leaves : Call → Answer BodyRead → BodyLeft
leaves c o = record { answer = body_of o; pairTable = pair_table_after o c.pairs; keyTable = key_table_after o c.keys }

leaves_as : (c d : Call) (o : Answer BodyRead) → c.pairs ≡ d.pairs → c.keys ≡ d.keys → Meets o d → body_left d ≡ leaves c o
leaves_as c d o e f call = rw (call.answer, call.pairTable, call.keyTable, e, f) refl

back_left : (c : Call) (o : Answer BodyRead) (p : ℕ) → leaves c o ≡ leaves c (refused 2 p) → o ≡ refused 2 p
back_left c o p e = shortage (as_read body_code) o p (ap (λ (z : BodyLeft). z.answer) e)

module _ (policy : Policy) (which : Which) (mode : Mode) (max : Max) (m : List ℕ) (s : ℕ) where
  -- the definition's answer, with tables as long as these
  abbrev answers : List ℕ → List ℕ → List ℕ → Answer BodyRead
  answers pairs keys m = operation (read_header_body_under policy which mode max (length pairs) (length keys)) m s

  body_trusted : (n : ℕ) → length m ≤ 4294967295 → n ≤ length m → (c d : Call) → Meets (reading_under policy which mode max (take n m) s c) c → Meets (reading_under policy which mode max m s d) d
      → c.pairs ≡ d.pairs → c.keys ≡ d.keys → BodyTrusted n (length m) c d
  unfolding read_header_body_under
  body_trusted n fits h c d first_call call e f =
      let law : Trusted _ m s = trust.of_body (request_under policy which mode (tests_frames which) max (length c.pairs) (length c.keys)) m s fits in
      let alike : answers d.pairs d.keys m ≡ answers c.pairs c.keys m = rw (e, f) refl in
      let whole_call = subst (λ o. Meets o d) alike call in
      record {
        runs = carried (leaves c) (back_left c) (law.whole n h) (body_left c) (body_left d) (leaves_as c c _ refl refl first_call) (leaves_as c d _ e f whole_call);
        none_behind = λ x t g p j.
            let b = read_got body_code _ d.answer whole_call.answer _ g in
            law.none_behind b.item t b.is n h p (read_no body_code _ c.answer first_call.answer (because 2 p) j);
        enough = λ x t g k.
            let b = read_got body_code _ d.answer whole_call.answer _ g in
            leaves_as c c _ refl refl first_call ∙ ap (leaves c) (law.enough b.item t b.is n k h ∙ sym b.is) ∙ sym (leaves_as c d _ e f whole_call);
      }

  says_so : (pairs keys : List ℕ) (n p : ℕ) → SaysShortage policy which mode max m s pairs keys n p → answers pairs keys (take n m) ≡ refused 2 p
  says_so pairs keys n p (c, e, f, call, short) = rw (e, f) at (read_no body_code (answers c.pairs c.keys (take n m)) c.answer call.answer (because 2 p) short)

  few_calls : (d : Call) → Meets (reading_under policy which mode max m s d) d → (x : HeaderBody) (t : ℕ) → d.answer ≡ Ok (record { value = x; tail = t })
      → NoMoreThan (by x.numbers.version 11 9 + 6 * x.keyCount) (SaysShortage policy which mode max m s d.pairs d.keys) (length m)
  unfolding read_header_body_under
  few_calls d call x t e n ps h =
      let b = read_got body_code _ d.answer call.answer _ e in
      rw (← b.gives) (few_rounds.of_body _ m s b.item t b.is n ps (rounds_as (length m) (says_so d.pairs d.keys) ps n h))

  most_calls : (pairs keys : List ℕ) → Bytes m → NoMoreThan 393221 (SaysShortage policy which mode max m s pairs keys) (length m)
  unfolding read_header_body_under
  most_calls pairs keys hb n ps h =
      few_rounds.of_any_body (request_under policy which mode (tests_frames which) max (length pairs) (length keys)) m s hb n ps (rounds_as (length m) (says_so pairs keys) ps n h)

pub trusted_promises : TrustedPromises
trusted_promises =
    record {
      of_body = λ policy which mode max m s n fits h c d. body_trusted policy which mode max m s n fits h c d;
      rounds = few_calls;
      most_rounds = most_calls;
      of_context = λ mode m s n fits h before. with_table (as_read length) pair_numbers ((trust.of_context mode (length before) m s fits).whole n h) before;
      of_keys = λ max m s n fits h before. with_table (as_read length) key_numbers ((trust.of_keys max (length before) m s fits).whole n h) before;
      of_frames = λ frame m s n fits h before. with_table (as_read length) frame_numbers ((trust.of_frames frame (length before) m s fits).whole n h) before;
      of_only_authenticated = λ text required m s n fits h before.
          with_table as_written whole ((trust.of_only_authenticated text required (length before) m s fits).whole n h) before;
      of_reissue = λ a m s n fits h before. with_table as_written whole ((trust.of_reissue a (length before) m s fits).whole n h) before;
      of_reissued = λ a m s n fits h. carried written_as (shortage as_written) ((trust.of_reissued a m s fits).whole n h);
      of_find = λ k m s n fits h. carried found_of (shortage as_found) ((trust.of_find k m s fits).whole n h);
      of_auth = λ suite m s n fits h. carried auth_of (shortage (as_read auth_code)) ((trust.of_auth suite m s fits).whole n h);
      context_rounds = λ mode m s before n ps h.
          few_rounds.of_context mode (length before) m s n ps (rounds_as (length m) (calls_say (as_read length) pair_numbers (read_aad_section_into mode (length before)) m s before) ps n h);
      context_there = λ mode m s before after r call h p e. whole_sections.of_context mode (length before) m s h p ((as_read length).back _ (because 2 p) (sym call.answer ∙ e));
      keys_rounds = λ max m s before after n t call k ps h.
          let g = counted_got _ _ call.answer _ refl in
          rw g.long at (few_rounds.of_keys max (length before) m s g.items t g.is k ps (rounds_as (length m) (calls_say (as_read length) key_numbers _ m s before) ps k h));
      frames_rounds = λ frame m s before after n t call k ps h.
          let g = counted_got _ _ call.answer _ refl in
          rw g.long at (few_rounds.of_frames frame (length before) m s g.items t g.is k ps (rounds_as (length m) (calls_say (as_read length) frame_numbers _ m s before) ps k h));
    }
