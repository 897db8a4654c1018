-- A call for each number that reissuing a draft answers. Assumes nothing.
use mathlib.Core.Path.{◌≡◌, refl}
use mathlib.Core.Bool.{true}
use mathlib.Core.Option.{Option, some}
use mathlib.Core.List.{List, [], ◌∷◌, ◌++◌, map, Memᴰ}
use Prim.Native.Nat.{ℕ}
use Rattle.format.specs.Body.{v1_only}
use Rattle.format.specs.Reissuing.{Reissue, reissued_header_body, reissue_header_body}
use Rattle.format.specs.Refusals.{section_refusals, lead_refusals, reserved_refusals, frame_refusals, draft_refusals, reissued_refusals, reissue_refusals}
use Rattle.format.proofs.Members.{members, no_member}
use Rattle.format.proofs.ReissueOrder.{told}
use Rattle.cases.specs.Cases.{H, opened, laid_out}
use Rattle.cases.specs.Headers.{bytes_from}
use Rattle.cases.specs.Reissues.{id, suite_data, reissuing}
use Rattle.cases.specs.Occurs.{Answers}
use Rattle.cases.proofs.Calls.{Call, said, sections, one_key, opening_bytes, closing_bytes}
use Rattle.cases.proofs.Answered.{answered, among}
use Rattle.cases.proofs.Mendings.{draft_calls, one_keyed}

-- what is added, and the call; there is no output
abbrev reissue_said : Reissue × Call → Option ℕ
reissue_said (a, call) = said (reissue_header_body a 0) call

abbrev adding : ℕ → List ℕ → List ℕ → Reissue
adding suite messageId suiteData = record { suite = suite; messageId = messageId; suiteData = suiteData }

abbrev framed_by_0 : List ℕ
framed_by_0 = opening_bytes true ++ (one_key ++ (0x02 ∷ closing_bytes true))

abbrev reissue_calls : List (Reissue × Call)
reissue_calls =
    map (λ (c : Call). (adding 0x0478 id suite_data, c)) (draft_calls v1_only ++ ((framed_by_0, 0) ∷ []))
    ++ ((adding 0x0000 id suite_data, (one_keyed, 0))
    ∷ (adding 0x0178 id suite_data, (one_keyed, 0))
    ∷ (adding 0x0478 [] suite_data, (one_keyed, 0))
    ∷ (adding 0x0478 id [], (one_keyed, 0))
    ∷ (adding 0x0478 id suite_data, (one_keyed, 0))
    ∷ [])

reissue_answers : map reissue_said reissue_calls ≡ map some reissue_refusals
unfolding opened said laid_out reissuing sections H bytes_from section_refusals lead_refusals reserved_refusals frame_refusals draft_refusals reissued_refusals reissue_refusals
reissue_answers = refl

pub of_reissue : (k : ℕ) → Memᴰ k reissue_refusals → (a : Reissue) × (room : ℕ) × Answers (reissue_header_body a room) k
of_reissue k h = let (c, e) = among reissue_said reissue_calls reissue_refusals reissue_answers k h in (c.0, 0, answered (reissue_header_body c.0 0) c.1 k e)

-- what is told before: the same, but for 28
of_these : (k : ℕ) → Memᴰ k reissued_refusals → Memᴰ k reissue_refusals × (k ≡ 28 → ⊥)
unfolding section_refusals lead_refusals reserved_refusals frame_refusals draft_refusals reissued_refusals reissue_refusals
of_these k h = (members reissue_refusals reissued_refusals refl k h, λ e. no_member reissued_refusals 28 refl (rw e at h))

pub of_reissued : (k : ℕ) → Memᴰ k reissued_refusals → (a : Reissue) × Answers (reissued_header_body a) k
of_reissued k h =
    let (listed, other) = of_these k h in
    let (a, room, x) = of_reissue k listed in (
      a,
      record {
        message = x.message;
        start = x.start;
        position = x.position;
        answers = (told a x.message x.start).refusal_given room k x.position x.answers other;
      },
    )
