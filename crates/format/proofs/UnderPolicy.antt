-- Under a policy: the table, and all that is stated of reading and writing. Assumes nothing.
use mathlib.Core.Path.{◌≡◌, refl, sym, ap, ◌∙◌}
use mathlib.Core.Bool.{true, false}
use mathlib.Core.Logic.{◌⊎◌, inl, inr}
use mathlib.Core.Option.{none}
use mathlib.Core.List.{List}
use Prim.Native.Nat.{ℕ, ◌*◌, ◌≤◌, ◌<◌}
use lib.ListN.{length}
use Rattle.format.specs.Read.{accepted, operation}
use Rattle.format.specs.Fields.{HeaderBody}
use Rattle.format.specs.Context.{tolerant}
use Rattle.format.specs.Keys.{Max, within}
use Rattle.format.specs.Policies.{Policy, no_policy, forbid_encrypt_allow_decrypt, require_encrypt_allow_decrypt, require_encrypt_require_decrypt, lets_write, lets_read}
use Rattle.format.specs.Body.{either, tests_frames, request_under, read_header_body_under}
use Rattle.format.specs.Checks.{first, body_checks_under}
use Rattle.format.specs.Lent.{written, output_after, BodyToWrite, fields_to_write, writing_header_body_under, writing_header_body}
use Rattle.format.specs.Demand3.{Gives}
use Rattle.format.specs.Lengths.{JustWhere}
use Rattle.format.specs.UnderPolicy.{forbids_writing, UnderPolicy}
use Rattle.format.proofs.Firsts.{holds}
use Rattle.format.proofs.FirstBody.{first_refusals}
use Rattle.format.proofs.ListedEnds.{two_read}
use Rattle.format.proofs.Writers.{writer_law}
use Rattle.format.proofs.Tests.{never}
use Rattle.format.proofs.Strict as strict_reader
use Rattle.format.proofs.OneVersion as one_version
use Rattle.format.proofs.Written as written_body
use Rattle.format.proofs.Accepts as Accepts
use Rattle.format.proofs.FirstBody as FirstBody
use Rattle.format.proofs.PolicyRead.{kept, reads, forbids, images}
use Rattle.format.proofs.PolicyWritten.{answer_of, output, writes, forbids_checks}
use mathlib.Core.Logic.{⊎_elim}

-- the table, row by row
writes_version_1 : (policy : Policy) → JustWhere (lets_write policy 1 ≡ false) ((policy ≡ require_encrypt_allow_decrypt) ⊎ (policy ≡ require_encrypt_require_decrypt))
writes_version_1 policy = record { onward = on policy; back = ⊎_elim (ap (λ p. lets_write p 1)) (ap (λ p. lets_write p 1)) }
  where
    on : (policy : Policy) → lets_write policy 1 ≡ false → (policy ≡ require_encrypt_allow_decrypt) ⊎ (policy ≡ require_encrypt_require_decrypt)
    on no_policy e = never refl e
    on forbid_encrypt_allow_decrypt e = never refl e
    on require_encrypt_allow_decrypt e = inl refl
    on require_encrypt_require_decrypt e = inr refl

writes_version_2 : (policy : Policy) → JustWhere (lets_write policy 2 ≡ false) (policy ≡ forbid_encrypt_allow_decrypt)
writes_version_2 policy = record { onward = on policy; back = ap (λ p. lets_write p 2) }
  where
    on : (policy : Policy) → lets_write policy 2 ≡ false → policy ≡ forbid_encrypt_allow_decrypt
    on no_policy e = never refl e
    on forbid_encrypt_allow_decrypt e = refl
    on require_encrypt_allow_decrypt e = never refl e
    on require_encrypt_require_decrypt e = never refl e

reads_version_1 : (policy : Policy) → JustWhere (lets_read policy 1 ≡ false) (policy ≡ require_encrypt_require_decrypt)
reads_version_1 policy = record { onward = on policy; back = ap (λ p. lets_read p 1) }
  where
    on : (policy : Policy) → lets_read policy 1 ≡ false → policy ≡ require_encrypt_require_decrypt
    on no_policy e = never refl e
    on forbid_encrypt_allow_decrypt e = never refl e
    on require_encrypt_allow_decrypt e = never refl e
    on require_encrypt_require_decrypt e = refl

-- what a policy lets be written, it lets be read
own : (policy : Policy) (version : ℕ) → lets_write policy version ≡ true → lets_read policy version ≡ true
own no_policy version e = refl
own forbid_encrypt_allow_decrypt version e = refl
own require_encrypt_allow_decrypt version e = refl
own require_encrypt_require_decrypt version e = e

reads_its_own : (policy : Policy) (b : BodyToWrite) (out : List ℕ) (n : ℕ) → b.frameLength < 4294967296 → written (writing_header_body_under policy b) out ≡ accepted tt n
    → length out ≤ 4294967295 → (max : Max) (pairRoom keyRoom : ℕ) → 4 * length (fields_to_write b).pairs ≤ pairRoom → 6 * length (fields_to_write b).keys ≤ keyRoom
    → within (length (fields_to_write b).keys) max ≡ true
    → (r : HeaderBody) × (operation (read_header_body_under policy either tolerant max pairRoom keyRoom) (output_after (writing_header_body_under policy b) out) 0 ≡ accepted r n)
    × Gives (output_after (writing_header_body_under policy b) out) r (fields_to_write b) × (r.form ≡ b.form)
unfolding writing_header_body_under body_checks_under
reads_its_own policy b out n wide e fits max pairRoom keyRoom hp hk hm =
    let (allowed, without) = kept (forbids_writing policy b) 39 (sym (answer_of policy b out) ∙ e) in
    let same : output_after (writing_header_body_under policy b) out ≡ output_after (writing_header_body b) out = rw (output policy b out, allowed) refl in
    rw same (written_body.read_back_under b out policy n wide without fits max pairRoom keyRoom hp hk hm (own policy _ (lets ((writer_law (writing_header_body_under policy b) out).only_then n e).0)))
  where
    lets : first (writing_header_body_under policy b).checks ≡ none → lets_write policy (fields_to_write b).version ≡ true
    lets h = (holds (writing_header_body_under policy b).checks h).1.1.1.1.0

pub under_policy : UnderPolicy
unfolding read_header_body_under
under_policy =
    record {
      writes_version_1 = writes_version_1;
      writes_version_2 = writes_version_2;
      reads_version_1 = reads_version_1;
      reads_version_2 = two_read;
      in_reading = FirstBody.policy_after_7;
      in_writing = Accepts.policy_after_7;
      reads = reads;
      forbids = forbids;
      listed = λ policy which mode max pairRoom keyRoom. first_refusals.of_body (request_under policy which mode (tests_frames which) max pairRoom keyRoom);
      images = images;
      sentence_2 = strict_reader.sentence_2;
      sentence_3 = one_version.sentence_3;
      writes = writes;
      forbids_checks = forbids_checks;
      reads_its_own = reads_its_own;
    }
