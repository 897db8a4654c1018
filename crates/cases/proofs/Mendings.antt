-- A call for each number that mending a draft answers. Assumes nothing.
use mathlib.Core.Path.{◌≡◌, refl}
use mathlib.Core.Logic.{⊎_elim}
use mathlib.Core.Bool.{true, false}
use mathlib.Core.Option.{some}
use mathlib.Core.List.{List, [], ◌∷◌, ◌++◌, map, Memᴰ}
use Prim.Native.Nat.{ℕ, ◌<◌}
use native.Mathlib.Omega.{arith}
use borrow.Author.Tests.{lt-leb}
use lib.ListN.{length, replicate, length-replicate}
use Rattle.format.specs.Read.{accepted, operation}
use Rattle.format.specs.Serialize.{every}
use Rattle.format.specs.Fields.{EncryptedDataKey, HeaderBody}
use Rattle.format.specs.Body.{Which, either}
use Rattle.format.specs.Mending.{read_draft, drop_encrypted_data_keys, addable, add_encrypted_data_key}
use Rattle.format.specs.Refusals.{section_refusals, lead_refusals, reserved_refusals, frame_refusals, draft_refusals, drop_refusals, add_refusals}
use Rattle.format.proofs.Mending.{says_27}
use Rattle.cases.specs.Cases.{H, opened, laid_out}
use Rattle.cases.specs.Drafts.{mending}
use Rattle.cases.specs.Occurs.{Answers}
use Rattle.cases.proofs.Calls.{Call, calls, said, sections, far_and_short, openings, opening_bytes, one_key, closings, closing_bytes}
use Rattle.cases.proofs.Answered.{each_answered, one_apart}

-- what a draft's reading refuses, in the order of its list
abbrev pub draft_calls : Which → List Call
draft_calls which =
    far_and_short
    ++ (calls (openings which)
    ++ calls (map (λ (b : List ℕ). opening_bytes true ++ b) (sections ++ (((0x00 ∷ 0x00 ∷ 0x00 ∷ 0x00 ∷ []) ∷ (0x00 ∷ 0x00 ∷ 0x00 ∷ 0x01 ∷ 0x00 ∷ 0x01 ∷ 0xFF ∷ []) ∷ (one_key ++ (0x03 ∷ [])) ∷ []) ++ closings true which))))

-- a draft of one key without bytes
abbrev pub one_keyed : List ℕ
one_keyed = opening_bytes true ++ (one_key ++ (0x01 ∷ closing_bytes true))

drop_answers : map (said (drop_encrypted_data_keys [])) (draft_calls either ++ ((one_keyed, 0) ∷ [])) ≡ map some drop_refusals
unfolding opened said laid_out mending sections H section_refusals lead_refusals reserved_refusals frame_refusals draft_refusals drop_refusals
drop_answers = refl

pub of_drop : (k : ℕ) → Memᴰ k drop_refusals → (id : List ℕ) × Answers (drop_encrypted_data_keys id) k
of_drop k h = ([], each_answered (drop_encrypted_data_keys []) (draft_calls either ++ ((one_keyed, 0) ∷ [])) drop_refusals drop_answers k h)

-- a key of no bytes, with no room for it
abbrev no_bytes : EncryptedDataKey
no_bytes = record { keyProviderId = []; keyProviderInfo = []; ciphertext = [] }

abbrev but_27 : List ℕ
but_27 = 1 ∷ 2 ∷ (draft_refusals either ++ (28 ∷ []))

add_answers : map (said (add_encrypted_data_key no_bytes 0)) (draft_calls either ++ ((one_keyed, 0) ∷ [])) ≡ map some but_27
unfolding opened said laid_out mending sections H section_refusals lead_refusals reserved_refusals frame_refusals draft_refusals
add_answers = refl

-- and one with a ciphertext of 65,536
abbrev long : ℕ → EncryptedDataKey
long n = record { keyProviderId = []; keyProviderInfo = []; ciphertext = replicate n 0 }

too_large : (n : ℕ) → 65535 < n → (b : HeaderBody) → addable (long n) (length b.keys) ≡ false
unfolding every
too_large n h b = rw (length-replicate {A = ℕ} n 0, lt-leb n 65535 h) refl

read_so : (b : HeaderBody) × (t : ℕ) × (operation read_draft one_keyed 0 ≡ accepted b t)
unfolding opened mending H
read_so = (_, _, refl)

too_long : (n : ℕ) → 65535 < n → Answers (add_encrypted_data_key (long n) 0) 27
unfolding opened
too_long n h =
    let (b, t, e) = read_so in
    record { message = one_keyed; start = 0; position = 0; answers = says_27 one_keyed b t e (long n) 0 refl (too_large n h b) }

pub of_add : (k : ℕ) → Memᴰ k add_refusals → (key : EncryptedDataKey) × (room : ℕ) × Answers (add_encrypted_data_key key room) k
unfolding section_refusals lead_refusals reserved_refusals frame_refusals draft_refusals add_refusals
of_add k h =
    ⊎_elim (λ e. (long 65536, 0, rw e (too_long 65536 (omega arith))))
    (λ i. (no_bytes, 0, each_answered (add_encrypted_data_key no_bytes 0) (draft_calls either ++ ((one_keyed, 0) ∷ [])) but_27 add_answers k i))
    (one_apart 27 but_27 add_refusals refl k h)
