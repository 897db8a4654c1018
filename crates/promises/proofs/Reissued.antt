-- Every call that reissues a draft keeps the promise, by its contract and the law of the definition. Assumes nothing.
use Prim.Native.Nat.{ℕ, ◌+◌, ◌*◌, ◌≤◌}
use native.Mathlib.Omega.{arith}
use mathlib.Core.Path.{◌≡◌, sym, ap, ◌∙◌}
use mathlib.Core.List.{List, ◌++◌}
use lib.ListN.{length, take, drop}
use lib.Seq.{take_at}
use Rattle.std.specs.Prelude.{Result, Ok, Err}
use Rattle.format.specs.Read.{Answer, accepted, operation}
use Rattle.format.specs.Serialize.{Bytes}
use Rattle.format.specs.Fields.{today, HeaderBody, fields_of}
use Rattle.format.specs.Context.{tolerant}
use Rattle.format.specs.Keys.{no_max}
use Rattle.format.specs.Body.{either, read_header_body}
use Rattle.format.specs.Lent.{filled, pair_table_after, key_table_after}
use Rattle.format.specs.Demand3.{Gives}
use Rattle.format.specs.Reissuing.{Reissue, reissued, reissued_image, reissued_header_body, reissue_header_body}
use Rattle.format.specs.Reissued.{by_either, Told as Law}
use Rattle.format.proofs.Reissued.{reissue_laws}
use Rattle.wire.specs.Codes.{because}
use Rattle.wire.specs.declared.refusals.Refusal.{Refusal}
use Rattle.wire.specs.declared.SuccessfulRead.{SuccessfulRead}
use Rattle.body_reader.specs.Codes.{body_of, body_code, ReadsBody}
use Rattle.body_reader.specs.declared.HeaderBody.{HeaderBody as BodyCode}
use Rattle.checks.specs.Answers.{written_as, whole}
use Rattle.promises.specs.Reissued.{Reissues, Tells, HasWritten, ReissuePromise, Told, ReissuedPromises}
use Rattle.promises.proofs.Codes.{as_written, image_of, answering, kept}

module _ (a : Reissue) (m : List ℕ) (s : ℕ) (before after : List ℕ) (r : Result ℕ Refusal) (call : Reissues a m s before after r) where
  abbrev said : Answer (List ℕ)
  said = operation (reissue_header_body a (length before)) m s

  keeps : (q : Refusal) → r ≡ Err q → after ≡ before
  keeps q e = kept as_written whole said before after r call q e

  writes : Bytes m → (n : ℕ) → r ≡ Ok n → HasWritten a m s before after n
  writes hb n e =
      let (image, t, is, long) = image_of said n (sym call.answer ∙ e) in
      let (told, fits) = (reissue_laws.told a m s).image_given (length before) image t is in
      let (b, read, same, means) = reissue_laws.accepted_then a m s hb image t told in
      let out : after ≡ filled image before = (answering call is).table in
      record {
        body = b;
        tail = t;
        read = read;
        means = means;
        length_is = long ∙ ap length same;
        fits = (let l = long in let f = fits in omega arith);
        output = out ∙ ap (λ (l : List ℕ). filled l before) same;
      }

  promise : Bytes m → ReissuePromise a m s before after r
  promise hb =
      record {
        answers = call.answer ∙ ap written_as ((reissue_laws.in_order a m s).written (length before));
        other_direction = λ few there. call.answer ∙ ap written_as ((reissue_laws.other_direction a (length before) m s).by_its_byte few there);
        writes = writes hb;
        keeps = keeps;
      }

  -- beside what was told
  module _ (told : Result ℕ Refusal) (tells : Tells a m s told) where
    law : Law a m s
    law = reissue_laws.told a m s

    abbrev before_it : Answer (List ℕ)
    before_it = operation (reissued_header_body a) m s

    size : Told before after told r
    size =
        record {
          refuses = λ q e.
              (let no : r ≡ Err q = call.answer ∙ ap written_as (law.refuses q.number q.position (as_written.back before_it q (sym tells ∙ e)) (length before)) in
              (no, keeps q no));
          too_short = λ n e.
              (let (image, t, is, long) = image_of before_it n (sym tells ∙ e) in
              let both = law.too_short image t is (length before) in
              record {
                onward = λ f. (let z = both.onward (as_written.back said (because 28 0) (sym call.answer ∙ f)) in omega arith);
                back = λ h. call.answer ∙ ap written_as (both.back (omega arith));
              });
          reports = λ n e h.
              (let (image, t, is, long) = image_of before_it n (sym tells ∙ e) in
              call.answer ∙ ap written_as (law.reports image t is (length before) (omega arith)) ∙ ap Ok (sym long));
          refusal_told = λ q e h. tells ∙ ap written_as (law.refusal_given (length before) q.number q.position (as_written.back said q (sym call.answer ∙ e)) h);
          length_told = λ n e.
              (let (image, t, is, long) = image_of said n (sym call.answer ∙ e) in
              let (was_told, fits) = law.image_given (length before) image t is in
              tells ∙ ap written_as was_told ∙ ap Ok (sym long));
        }

-- the bytes written are the image
written_bytes : (image before after : List ℕ) (n : ℕ) → n ≡ length image → after ≡ filled image before → take n after ≡ image
written_bytes image before after n e f = ap (take n) f ∙ take_at image (drop (length image) before) n (sym e)

-- and are read where they stand
reads : (a : Reissue) (m : List ℕ) (s : ℕ) (before after : List ℕ) (n : ℕ) (w : HasWritten a m s before after n) (message : List ℕ) (start : ℕ) (rest : List ℕ)
    → length message ≤ 4294967295 → drop start message ≡ take n after ++ rest
    → (pairs pairs' keys keys' : List ℕ) → 4 * length w.body.pairs ≤ length pairs → 6 * length w.body.keys ≤ length keys
    → (x : Result (SuccessfulRead BodyCode) Refusal) → ReadsBody (operation (read_header_body either tolerant no_max (length pairs) (length keys)) message start) pairs pairs' keys keys' x
    → (c : HeaderBody) × (x ≡ Ok (record { value = body_code c; tail = start + n })) × Gives message c (reissued a (fields_of w.body)) × (c.form ≡ today)
    × (pairs' ≡ pair_table_after (accepted c (start + n)) pairs) × (keys' ≡ key_table_after (accepted c (start + n)) keys)
reads a m s before after n w message start rest few there pairs pairs' keys keys' hp hk x read =
    let image = reissued_image a w.body in
    let stands : drop start message ≡ image ++ rest = there ∙ ap (λ (l : List ℕ). l ++ rest) (written_bytes image before after n w.length_is w.output) in
    let (c, is, gives, marked) = (w.means.read_back message start rest few stands).gives either by_either tolerant (length pairs) (length keys) hp hk in
    let so : operation (read_header_body either tolerant no_max (length pairs) (length keys)) message start ≡ accepted c (start + n) = is ∙ ap (λ k. accepted c (start + k)) (sym w.length_is) in (
      c,
      read.answer ∙ ap body_of so,
      gives,
      marked,
      read.pairTable ∙ ap (λ (o : Answer HeaderBody). pair_table_after o pairs) so,
      read.keyTable ∙ ap (λ (o : Answer HeaderBody). key_table_after o keys) so,
    )

pub reissued_promises : ReissuedPromises
reissued_promises =
    record {
      every_reissue = λ a m s before after r hb call. promise a m s before after r call hb;
      every_size = λ a m s before after told r tells call. size a m s before after r call told tells;
      read_back = λ a m s before after n call. reads a m s before after n;
    }
