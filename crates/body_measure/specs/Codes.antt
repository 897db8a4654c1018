-- The contract of measuring a body. Assumes nothing.
use Rattle.std.specs.Prelude.{◌≡◌, Bool, true, ◌||◌, not, List, ℕ, eqb, Result, Ok, Err}
use Rattle.format.specs.Read.{refused, at}
use Rattle.format.specs.Shared.{frame_fits}
use Rattle.format.specs.Context.{read_aad_section}
use Rattle.format.specs.Keys.{read_encrypted_data_keys_section}
use Rattle.format.specs.Keys.{Max as Room}
use Rattle.format.specs.Body.{Request as Asked, tests_frames, read_opening, read_closing, read_body}
use Rattle.wire.specs.declared.refusals.Refusal.{Refusal}
use Rattle.request.specs.Codes.{which_of, policy_of, mode_of, max_of}
use Rattle.request.specs.declared.Which.{Which}
use Rattle.request.specs.declared.Request.{Request}
use Rattle.entries.specs.Codes.{counted}
use Rattle.ends.specs.Codes.{opening_of, closing_of}
use Rattle.body_measure.specs.declared.Measurement.{Measurement}

-- only the either-version reader tests 20
abbrev pub frame_test : Which → ℕ → ℕ → Bool
frame_test which content frame = not (tests_frames (which_of which)) || frame_fits content frame

-- a body stands at s: each part of it stands where the one before it ends
pub record Stages (q : Request) (m : List ℕ) (s : ℕ) (x : Measurement) : Type 0 where
  pub opens : opening_of (at (read_opening (which_of q.which) (policy_of q.policy)) m s) ≡ Ok (record { value = x.opening; tail = x.contextStart })
  pub pairs : counted (at (read_aad_section (mode_of q.mode)) m x.contextStart) ≡ Ok (record { value = x.pairCount; tail = x.keysStart })
  pub keys : counted (at (read_encrypted_data_keys_section (max_of q.max)) m x.keysStart) ≡ Ok (record { value = x.keyCount; tail = x.keysEnd })
  pub closes : closing_of (at (read_closing (eqb x.opening.version 1)) m x.keysEnd) ≡ Ok (record { value = x.closing; tail = x.tail })
  pub fits : frame_test q.which x.closing.contentType x.closing.frameLength ≡ true

-- what the definition is asked, by what the code is, with tables or without
abbrev pub asks : Request → Room → Room → Asked
asks q pairRoom keyRoom =
    record {
      which = which_of q.which;
      policy = policy_of q.policy;
      mode = mode_of q.mode;
      max = max_of q.max;
      pairRoom = pairRoom;
      keyRoom = keyRoom;
      frames = tests_frames (which_of q.which);
    }

-- the contract of measuring: a refusal is the body's, whatever the tables
pub record Measured (q : Request) (m : List ℕ) (s : ℕ) (r : Result Measurement Refusal) : Type 0 where
  pub refuses : (w : Refusal) → r ≡ Err w → (pairRoom keyRoom : Room) → at (read_body (asks q pairRoom keyRoom)) m s ≡ refused w.number w.position
  pub accepts : (x : Measurement) → r ≡ Ok x → Stages q m s x
