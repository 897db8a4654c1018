-- Each number of a list is answered, by a call of the tables in proofs/Calls. Assumes nothing.
use mathlib.Core.Path.{◌≡◌, refl, sym, ap, ◌∙◌}
use mathlib.Core.Bool.{Bool, true, false}
use mathlib.Core.Logic.{⊎_elim}
use mathlib.Core.Option.{Option, none, some}
use mathlib.Core.List.{List, [], ◌∷◌, ◌++◌, Memᴰ}
use Prim.Native.Nat.{ℕ, ◌*◌}
use native.Mathlib.Omega.{arith}
use lib.ListN.{replicate}
use Rattle.format.specs.Read.{refused}
use Rattle.format.specs.Context.{Mode, tolerant, strict, read_aad_section, read_aad_section_into, look_up, find_value}
use Rattle.format.specs.Keys.{no_max, at_most}
use Rattle.format.specs.Policies.{Policy, lets_read}
use Rattle.format.specs.Body.{Which, either, v1_only, v2_only, request_under, tests_frames, read_header_body_under}
use Rattle.format.specs.Auth.{read_header_auth_tag}
use Rattle.format.specs.Frames.{read_frames_into}
use Rattle.format.specs.OnlyAuthenticated.{write_only_authenticated}
use Rattle.format.specs.Refusals.{section_refusals, context_refusals, find_refusals, only_authenticated_refusals, lead_refusals, forbidden_refusals, opening_refusals, passing, numbers_behind, reserved_refusals, frame_refusals, room_refusals, closing_refusals, key_section_refusals, keys_refusals, body_refusals, auth_refusals, frames_refusals}
use Rattle.format.specs.Checks.{first}
use Rattle.format.specs.Lent.{written_of, Writing, size_of, writing_header_body_under, writing_frames}
use Rattle.format.specs.Size.{size_refusals, frames_size_refusals}
use Rattle.format.proofs.Members.{has_all}
use Rattle.format.proofs.Messages.{refused_stays}
use Rattle.cases.specs.Occurs.{Answers, listed_for, Occurs}
use Rattle.cases.proofs.Answered.{answered, among, each_answered, one_apart}
use Rattle.cases.proofs.Mendings.{of_drop, of_add}
use Rattle.cases.proofs.Reissuings.{of_reissued, of_reissue}
use Rattle.cases.proofs.Sizes.{size_said, size_calls, size_answers}
use Rattle.cases.proofs.Calls.{number_of, calls, sections, far_and_short, section_answers, opening_bytes, is_v1, body_calls, body_answers, old_form, strict_section, strict_body, no_table, no_pair, odd_table, no_output, key_calls, key_answers, auth_said, auth_calls, auth_answers, frames_said, frames_calls, frames_answers, frames_size_said, but_27, frames_size_calls, frames_size_answers, many_frames}

-- the context section, as an operation and in find
abbrev common : List ℕ
common = 1 ∷ 2 ∷ section_refusals tolerant

section_answered : (mode : Mode) (k : ℕ) → Memᴰ k common → Answers (read_aad_section mode) k
section_answered mode k h = each_answered (read_aad_section mode) (far_and_short ++ calls sections) common (section_answers mode) k h

strict_answered : (k : ℕ) → Memᴰ k (1 ∷ 2 ∷ section_refusals strict) → Answers (read_aad_section strict) k
unfolding section_refusals
strict_answered k h =
    ⊎_elim (λ e. answered (read_aad_section strict) (old_form, 0) k (strict_section ∙ ap some (sym e))) (section_answered strict k) (one_apart 21 common (1 ∷ 2 ∷ section_refusals strict) refl k h)

section_of : (mode : Mode) (k : ℕ) → Memᴰ k (1 ∷ 2 ∷ section_refusals mode) → Answers (read_aad_section mode) k
section_of tolerant k h = section_answered tolerant k h
section_of strict k h = strict_answered k h

without_22 : (mode : Mode) → has_all (22 ∷ 1 ∷ 2 ∷ section_refusals mode) (context_refusals mode) ≡ true
unfolding section_refusals context_refusals
without_22 tolerant = refl
without_22 strict = refl

of_context : (mode : Mode) (k : ℕ) → Memᴰ k (context_refusals mode) → (room : ℕ) × Answers (read_aad_section_into mode room) k
unfolding read_aad_section_into
of_context mode k h =
    ⊎_elim (λ e. (0, answered (read_aad_section_into mode 0) _ k (no_table mode ∙ ap some (sym e))))
    (λ i. let a = section_of mode k i in (0, record { message = a.message; start = a.start; position = a.position; answers = refused_stays _ _ a.message a.start k a.position a.answers }))
    (one_apart 22 (1 ∷ 2 ∷ section_refusals mode) (context_refusals mode) (without_22 mode) k h)

of_find : (k : ℕ) → Memᴰ k find_refusals → (key : List ℕ) × Answers (find_value key) k
unfolding section_refusals find_refusals find_value
of_find k h =
    ⊎_elim (λ e. ([], answered (find_value []) _ k (no_pair ∙ ap some (sym e))))
    (λ i. let a = section_answered tolerant k i in ([], record { message = a.message; start = a.start; position = a.position; answers = refused_stays _ (look_up []) a.message a.start k a.position a.answers }))
    (one_apart 29 common find_refusals refl k h)

-- and in what is only authenticated
of_only_authenticated : (k : ℕ) → Memᴰ k only_authenticated_refusals → (text : List ℕ) × (required : List ℕ) × (room : ℕ) × Answers (write_only_authenticated text required room) k
unfolding section_refusals only_authenticated_refusals write_only_authenticated
of_only_authenticated k h =
    ⊎_elim (λ e. ([], 0 ∷ 0 ∷ [], 0, answered (write_only_authenticated [] (0 ∷ 0 ∷ []) 0) _ k (no_output ∙ ap some (sym e))))
    (λ i. ⊎_elim (λ e. ([], 0 ∷ [], 0, answered (write_only_authenticated [] (0 ∷ []) 0) _ k (odd_table ∙ ap some (sym e))))
    (λ j. let a = section_answered tolerant k j in ([], [], 0, record { message = a.message; start = a.start; position = a.position; answers = refused_stays _ _ a.message a.start k a.position a.answers }))
    (one_apart 31 common (31 ∷ common) refl k i))
    (one_apart 28 (31 ∷ common) only_authenticated_refusals refl k h)

-- a body, under each policy
without_21 : (policy : Policy) (which : Which) → has_all (21 ∷ listed_for policy which tolerant) (listed_for policy which strict) ≡ true
unfolding opening_refusals lead_refusals forbidden_refusals passing numbers_behind section_refusals reserved_refusals frame_refusals room_refusals closing_refusals key_section_refusals body_refusals
without_21 policy which = by (lets_read policy 1) which
  where
    by : (b : Bool) (which : Which)
        → has_all (21 ∷ 1 ∷ 2 ∷ ((lead_refusals which ++ forbidden_refusals b which) ++ numbers_behind (passing b which) (section_refusals tolerant) key_section_refusals (request_under policy which tolerant (tests_frames which) no_max 0 0)))
        (1 ∷ 2 ∷ ((lead_refusals which ++ forbidden_refusals b which) ++ numbers_behind (passing b which) (section_refusals strict) key_section_refusals (request_under policy which strict (tests_frames which) no_max 0 0))) ≡ true
    by true either = refl
    by true v1_only = refl
    by true v2_only = refl
    by false either = refl
    by false v1_only = refl
    by false v2_only = refl

body_answered : (policy : Policy) (which : Which) (mode : Mode) (k : ℕ) → Memᴰ k (listed_for policy which tolerant) → Answers (read_header_body_under policy which mode (at_most 1) 4 0) k
body_answered policy which mode k h =
    each_answered (read_header_body_under policy which mode (at_most 1) 4 0) (body_calls policy which) (listed_for policy which tolerant) (body_answers policy which mode) k h

of_body : (policy : Policy) (which : Which) (mode : Mode) (k : ℕ) → Memᴰ k (listed_for policy which mode) → Answers (read_header_body_under policy which mode (at_most 1) 4 0) k
of_body policy which tolerant k h = body_answered policy which tolerant k h
of_body policy which strict k h =
    ⊎_elim (λ e. answered (read_header_body_under policy which strict (at_most 1) 4 0) (opening_bytes (is_v1 (lets_read policy 1) which) ++ old_form, 0) k (strict_body policy which (rw e at h) ∙ ap some (sym e)))
    (body_answered policy which strict k)
    (one_apart 21 (listed_for policy which tolerant) (listed_for policy which strict) (without_21 policy which) k h)

-- what is told of a size
size_answered : (w : Writing) (k : ℕ) → number_of (size_of w) ≡ some k → size_of w ≡ refused k 0
size_answered w k e = go (first w.checks) e
  where
    go : (o : Option ℕ) → number_of (written_of o w.image) ≡ some k → written_of o w.image ≡ refused k 0
    go none e = let z : ◌≡◌ {A = ℕ} 0 1 = cc in absurd (omega arith)
    go (some j) e = let same : j ≡ k = cc in ap (λ n. refused n 0) same

of_frames_size : (k : ℕ) → Memᴰ k frames_size_refusals → (frame : ℕ) × (text : List ℕ) × (table : List ℕ) × (size_of (writing_frames frame text table) ≡ refused k 0)
unfolding frames_size_refusals
of_frames_size k h =
    ⊎_elim (λ e. (1, [], replicate (6 * 65536) 0, rw (many_frames 65536 (omega arith), e) refl))
    (λ i. let ((frame, text, table), e) = among frames_size_said frames_size_calls but_27 frames_size_answers k i in (frame, text, table, size_answered (writing_frames frame text table) k e))
    (one_apart 27 but_27 frames_size_refusals refl k h)

pub occurs : Occurs
occurs =
    record {
      of_context = of_context;
      of_find = of_find;
      of_only_authenticated = of_only_authenticated;
      of_drop = of_drop;
      of_add = of_add;
      of_reissued = of_reissued;
      of_reissue = of_reissue;
      of_keys = λ k h. (at_most 1, 0, each_answered _ key_calls keys_refusals key_answers k h);
      of_body = λ policy which mode k h. (at_most 1, 4, 0, of_body policy which mode k h);
      of_auth = λ k h. let (c, e) = among auth_said auth_calls auth_refusals auth_answers k h in (c.0, answered (read_header_auth_tag c.0) ([], c.1) k e);
      of_frames = λ k h. let (c, e) = among frames_said frames_calls frames_refusals frames_answers k h in (c.0, 0, answered (read_frames_into c.0 0) c.1 k e);
      of_size = λ policy k h. let (b, e) = among (size_said policy) (size_calls policy) (size_refusals policy) (size_answers policy) k h in (b, size_answered (writing_header_body_under policy b) k e);
      of_frames_size = of_frames_size;
    }
