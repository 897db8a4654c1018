-- The size before writing, of the code: what a call of `header_body_len` or `frames_len` tells binds every call of the writer that is handed
-- the same, whatever its output. Proved in proofs/Size. Assumes nothing.
use Rattle.std.specs.Prelude.{ℕ, ◌≤◌, ◌<◌, ◌≡◌, length, Result, Ok, Err}
use mathlib.Core.List.{List, Memᴰ}
use Rattle.format.specs.Policies.{no_policy}
use Rattle.format.specs.Lent.{filled, Writing, size_of, writing_header_body, writing_frames}
use Rattle.format.specs.Lengths.{JustWhere}
use Rattle.format.specs.Size.{size_refusals, frames_size_refusals}
use Rattle.wire.specs.Codes.{because}
use Rattle.wire.specs.declared.refusals.Refusal.{Refusal}
use Rattle.checks.specs.Answers.{write_answer_of, Writes}
use Rattle.promises.specs.Writer.{Write, lent, its_image, MeetsWriter}

-- s is told of what a writer is to write
abbrev pub Tells : Writing → Result ℕ Refusal → Type 0
Tells w s = s ≡ write_answer_of (size_of w)

-- and the writer answers r, and leaves `after` of `before`
pub record Told (refusals image before after : List ℕ) (r s : Result ℕ Refusal) : Type 0 where
  -- where it tells a refusal, the writer answers it, and leaves the output as it was
  pub refuses : (q : Refusal) → s ≡ Err q → (r ≡ Err q) × (after ≡ before)
  -- where it tells a length, the writer answers 28 exactly when the output is shorter, and otherwise writes the image and reports that length
  pub too_short : (n : ℕ) → s ≡ Ok n → JustWhere (r ≡ Err (because 28 0)) (length before < n)
  pub reports : (n : ℕ) → s ≡ Ok n → n ≤ length before → (r ≡ Ok n) × (n ≡ length image) × (after ≡ filled image before)
  -- and back: what the writer answers other than 28 was told
  pub refusal_told : (q : Refusal) → r ≡ Err q → (q.number ≡ 28 → ⊥) → s ≡ Err q
  pub length_told : (n : ℕ) → r ≡ Ok n → s ≡ Ok n
  -- a refusal told is of the list, so never 28, and its position is 0
  pub listed : (q : Refusal) → s ≡ Err q → Memᴰ q.number refusals × (q.number ≡ 28 → ⊥) × (q.position ≡ 0)

pub record SizePromises : Type 0 where
  pub of_body : (w : Write) (s : Result ℕ Refusal) → Tells (writing_header_body (lent w)) s → MeetsWriter w → Told (size_refusals no_policy) (its_image w) w.before w.after w.answer s
  pub of_frames : (frame : ℕ) (text table before after : List ℕ) (r s : Result ℕ Refusal) → Tells (writing_frames frame text table) s → Writes (writing_frames frame text table) before after r
      → Told frames_size_refusals (writing_frames frame text table).image before after r s
