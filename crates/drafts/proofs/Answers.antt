-- The ways out of the two operations before and behind their steps, one law each. Assumes nothing.
use Prim.Native.Nat.{ℕ}
use mathlib.Core.Path.{◌≡◌, refl, sym, ap, ◌∙◌}
use mathlib.Core.List.{List}
use lib.ListN.{length}
use Rattle.std.specs.Prelude.{Result, Ok, Err}
use Rattle.std.specs.Result.{IsErrAnd}
use Rattle.std.proofs.lemmas.Result.{err_from_is_err_and}
use Rattle.format.specs.Read.{Reader, ◌>>=◌, Answer, accepted, refused, operation}
use Rattle.format.specs.Fields.{EncryptedDataKey}
use Rattle.format.specs.Mending.{read_draft, drop_encrypted_data_keys, add_encrypted_data_key, buffer_after}
use Rattle.format.proofs.Messages.{refused_stays}
use Rattle.wire.specs.Codes.{because}
use Rattle.wire.specs.declared.refusals.Refusal.{Refusal}
use Rattle.body_measure.specs.declared.Measurement.{Measurement}
use Rattle.checks.specs.Answers.{written_as}
use Rattle.drafts.specs.Codes.{Mends, Found}

-- a refusal leaves the buffer
pub mends_not : (o : Answer (List ℕ)) (m : List ℕ) (k p : ℕ) (q : Refusal) → o ≡ refused k p → q ≡ because k p → Mends written_as o m m (Err q)
mends_not o m k p q e f = record { answer = ap Err f ∙ sym (ap written_as e); buffer = sym (ap (λ (x : Answer (List ℕ)). buffer_after x m) e) }

pub mends_error : {Q : Refusal → Type 0} (o : Answer (List ℕ)) (m : List ℕ) (r : Result ℕ Refusal) → IsErrAnd r Q → ((q : Refusal) → Q q → Mends written_as o m m (Err q)) → Mends written_as o m m r
mends_error o m r h e = let p = err_from_is_err_and r h in rw p.1 (e p.0 p.2)

pub mends_so : (o : Answer (List ℕ)) (m m' image : List ℕ) (t n : ℕ) → o ≡ accepted image t → n ≡ length image → m' ≡ buffer_after (accepted image t) m → Mends written_as o m m' (Ok n)
mends_so o m m' image t n e f g = record { answer = ap Ok f ∙ sym (ap written_as e); buffer = g ∙ sym (ap (λ (x : Answer (List ℕ)). buffer_after x m) e) }

-- a draft that was not read
module _ (m : List ℕ) (a : Result Measurement Refusal) (a_is : Found m a) (q : Refusal) (b : a ≡ Err q) where
  stays : (f : _ → Reader (List ℕ)) → operation (read_draft >>= f) m 0 ≡ refused q.number q.position
  stays f = refused_stays read_draft f m 0 q.number q.position (a_is.refuses q b)

  pub drop_not : (id : List ℕ) → Mends written_as (operation (drop_encrypted_data_keys id) m 0) m m (Err q)
  unfolding drop_encrypted_data_keys
  drop_not id = mends_not _ m q.number q.position q (stays _) refl

  pub add_not : (k : EncryptedDataKey) (room : ℕ) → Mends written_as (operation (add_encrypted_data_key k room) m 0) m m (Err q)
  unfolding add_encrypted_data_key
  add_not k room = mends_not _ m q.number q.position q (stays _) refl
