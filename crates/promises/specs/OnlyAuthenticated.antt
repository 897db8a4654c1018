-- The bytes that are only authenticated, of the code: what every call of `write_only_authenticated` answers and leaves in its output, by
-- its contract. Proved in proofs/OnlyAuthenticated. Assumes nothing.
use Rattle.std.specs.Prelude.{ℕ, ◌≤◌, ◌≡◌, List, map, length, Result, Ok, Err}
use Rattle.format.specs.Read.{accepted, refused, operation}
use Rattle.format.specs.Serialize.{Bytes}
use Rattle.format.specs.Fields.{Pair, PairAt, pair_of}
use Rattle.format.specs.Context.{tolerant, read_aad_section, write_empty_ec_or_write_aad}
use Rattle.format.specs.Lent.{parts_in, filled}
use Rattle.format.specs.OnlyAuthenticated.{write_only_authenticated}
use Rattle.format.specs.Pinned.{InText}
use Rattle.format.specs.Selection.{Selects}
use Rattle.wire.specs.Codes.{because}
use Rattle.wire.specs.declared.refusals.Refusal.{Refusal}
use Rattle.entries.specs.Codes.{Reads}
use Rattle.checks.specs.Answers.{written_as, whole}

-- a call: what is lent, the output before and after it, and its answer
pub record Call : Type 0 where
  pub message : List ℕ
  pub start : ℕ
  pub text : List ℕ
  pub required : List ℕ
  pub before : List ℕ
  pub after : List ℕ
  pub answer : Result ℕ Refusal

-- the call meets the contract
abbrev pub Meets : Call → Type 0
Meets c = Reads written_as whole (operation (write_only_authenticated c.text c.required (length c.before)) c.message c.start) c.before c.after c.answer

pub record Promise (c : Call) : Type 0 where
  -- the refusals of a tolerant section read are its own
  pub refuses : (k p : ℕ) → operation (read_aad_section tolerant) c.message c.start ≡ refused k p → c.answer ≡ Err (because k p)
  -- where the required table is in twos, each place inside its text, and the output holds them, it leaves the bytes of the pairs with
  -- the required keys, sorted, and what lies behind them as it was
  pub writes : (ps : List PairAt) (t : ℕ) → operation (read_aad_section tolerant) c.message c.start ≡ accepted ps t → InText 2 c.text c.required
      → (chosen : List Pair) → Selects (parts_in c.text c.required) (map pair_of ps) chosen → length (write_empty_ec_or_write_aad chosen) ≤ length c.before
      → (c.answer ≡ Ok (length (write_empty_ec_or_write_aad chosen))) × (c.after ≡ filled (write_empty_ec_or_write_aad chosen) c.before)
  -- and it accepts nothing else
  pub only_then : (n : ℕ) → c.answer ≡ Ok n
      → (ps : List PairAt) × (t : ℕ) × (operation (read_aad_section tolerant) c.message c.start ≡ accepted ps t) × InText 2 c.text c.required
      × (chosen : List Pair) × Selects (parts_in c.text c.required) (map pair_of ps) chosen × (n ≡ length (write_empty_ec_or_write_aad chosen))
      × (n ≤ length c.before) × (c.after ≡ filled (write_empty_ec_or_write_aad chosen) c.before)
  -- a refusal leaves the output as it was
  pub keeps : (q : Refusal) → c.answer ≡ Err q → c.after ≡ c.before

-- the message's elements are bytes, as its type says
pub record OnlyAuthenticatedPromises : Type 0 where
  pub every_call : (c : Call) → Bytes c.message → Meets c → Promise c
