-- Every call that mends a draft keeps the promise, by its contract and the law of the definition. Assumes nothing.
use Prim.Native.Nat.{ℕ, ◌+◌, ◌-◌}
use mathlib.Core.Path.{◌≡◌, refl, sym, ap, ◌∙◌}
use mathlib.Core.Bool.{Bool, true, false}
use mathlib.Core.List.{List, ◌++◌}
use lib.Dec.{leb}
use lib.ListN.{length, take, drop}
use Rattle.std.specs.Prelude.{Result, Ok, Err}
use Rattle.format.specs.Read.{Answer, accepted, refused, operation}
use Rattle.format.specs.Serialize.{Bytes}
use Rattle.format.specs.Utf8.{valid_utf8_seq}
use Rattle.format.specs.Fields.{EncryptedDataKey, HeaderBody, fields_of}
use Rattle.format.specs.Keys.{write_encrypted_data_key}
use Rattle.format.specs.Auth.{zeros}
use Rattle.format.specs.Mending.{read_draft, dropped_image, drop_encrypted_data_keys, addable, added_image, add_encrypted_data_key}
use Rattle.format.specs.Mended.{Absent}
use Rattle.format.proofs.Tests.{is_leb, is_nleb}
use Rattle.format.proofs.Drafts.{was_read}
use Rattle.format.proofs.Mending.{own_tail}
use Rattle.format.proofs.Mended.{mended_drafts}
use Rattle.wire.specs.Codes.{because}
use Rattle.wire.specs.declared.refusals.Refusal.{Refusal}
use Rattle.checks.specs.Answers.{written_as}
use Rattle.drafts.specs.Codes.{Mends}
use Rattle.promises.proofs.Codes.{as_written}
use Rattle.promises.specs.Mended.{Drops, Adds, DropPromise, AddPromise, MendedPromises}

module _ (o : Answer (List ℕ)) (before after : List ℕ) (r : Result ℕ Refusal) (call : Mends written_as o before after r) where
  refuses : (k p : ℕ) → o ≡ refused k p → r ≡ Err (because k p)
  refuses k p e = call.answer ∙ ap written_as e

  writes : (image : List ℕ) (t : ℕ) → o ≡ accepted image t → r ≡ Ok (length image)
  writes image t e = call.answer ∙ ap written_as e

  keeps : (q : Refusal) → r ≡ Err q → after ≡ before
  keeps q e = call.buffer ∙ rw (as_written.back o q (sym call.answer ∙ e)) refl

every_drop : (id before after : List ℕ) (r : Result ℕ Refusal) → Bytes before → Drops id before after r → DropPromise id before after r
every_drop id before after r hb call =
    let o = operation (drop_encrypted_data_keys id) before 0 in
    let law = mended_drafts.drops id before hb in
    record {
      reading_refused = λ k p e. refuses o before after r call k p (law.reading_refused k p e);
      none_remains = λ b t e h. refuses o before after r call 40 0 (law.none_remains b t e h);
      some_remain = λ b t e h.
          (let (said, means) = law.some_remain b t e h in
          (length (dropped_image id b), writes o before after r call (dropped_image id b) t said, rw call.buffer means));
      keeps = keeps o before after r call;
    }

module _ (k : EncryptedDataKey) (before after : List ℕ) (r : Result ℕ Refusal) (hb : Bytes before) (call : Adds k before after r) where
  abbrev o : Answer (List ℕ)
  o = operation (add_encrypted_data_key k (length before)) before 0

  every_addition : AddPromise k before after r
  every_addition =
      let law = mended_drafts.adds k before hb in
      record {
        reading_refused = λ j p e. refuses o before after r call j p (law.reading_refused j p e);
        not_utf8 = λ b t e h. refuses o before after r call 16 0 (law.not_utf8 b t e h);
        too_large = λ b t e h j. refuses o before after r call 27 0 (law.too_large b t e h j);
        too_short = λ b t e h j s. refuses o before after r call 28 0 (law.too_short b t e h j s);
        fits = λ b t e h j s.
            (let (said, means) = law.fits b t e h j s in
            (writes o before after r call (added_image k b) t said ∙ ap Ok means.longer, rw (call.buffer, ← means.longer) means));
        keeps = keeps o before after r call;
      }

  -- where it accepts, its tests passed
  back : (tail : ℕ) → r ≡ Ok tail → (b : HeaderBody) (t : ℕ) → operation read_draft before 0 ≡ accepted b t → Absent k.keyProviderId (fields_of b).keys
      → (after' : List ℕ) (r' : Result ℕ Refusal) → Drops k.keyProviderId after after' r' → (r' ≡ Ok t) × (after' ≡ take t before ++ (zeros (tail - t) ++ drop tail before))
  back tail w b t e absent after' r' call' = by (valid_utf8_seq k.keyProviderId) refl (addable k (length b.keys)) refl (leb (t + length (write_encrypted_data_key k)) (length before)) refl
    where
      no : (j : ℕ) → r ≡ Err (because j 0) → (r' ≡ Ok t) × (after' ≡ take t before ++ (zeros (tail - t) ++ drop tail before))
      no j f = cc

      by : (x : Bool) → valid_utf8_seq k.keyProviderId ≡ x → (y : Bool) → addable k (length b.keys) ≡ y → (z : Bool) → leb (t + length (write_encrypted_data_key k)) (length before) ≡ z
          → (r' ≡ Ok t) × (after' ≡ take t before ++ (zeros (tail - t) ++ drop tail before))
      by false p y q z s = no 16 (every_addition.not_utf8 b t e p)
      by true p false q z s = no 27 (every_addition.too_large b t e p q)
      by true p true q false s = no 28 (every_addition.too_short b t e p q (is_nleb _ _ s))
      by true p true q true s =
          let (said, means) = every_addition.fits b t e p q (is_leb _ _ s) in
          let n : t + length (write_encrypted_data_key k) ≡ tail = cc in
          let (again, buffer) = means.back absent in
          let long : length (take t before) ≡ t = own_tail before b t (was_read before hb b t e) in
          (call'.answer ∙ ap written_as again ∙ ap Ok long, rw (← n) (call'.buffer ∙ buffer))

pub mended_promises : MendedPromises
mended_promises =
    record {
      every_drop = every_drop;
      every_addition = λ k before after r hb call. every_addition k before after r hb call;
      back = λ k before between after r r' hb call call' b t tail e absent w. back k before between r hb call tail w b t e absent after r' call';
    }
