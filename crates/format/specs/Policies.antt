-- The SDK's commitment policies: which versions each lets be written, and be read. The suites of version 2 commit to their key, and those of
-- version 1 don't, so that a version stands for its suites. Assumes nothing.
use Rattle.std.specs.Prelude.{Bool, true, ℕ, eqb}

pub data Policy : Type 0 where
  no_policy forbid_encrypt_allow_decrypt require_encrypt_allow_decrypt require_encrypt_require_decrypt : Policy

abbrev pub lets_write : Policy → ℕ → Bool
lets_write no_policy version = true
lets_write forbid_encrypt_allow_decrypt version = eqb version 1
lets_write require_encrypt_allow_decrypt version = eqb version 2
lets_write require_encrypt_require_decrypt version = eqb version 2

abbrev pub lets_read : Policy → ℕ → Bool
lets_read no_policy version = true
lets_read forbid_encrypt_allow_decrypt version = true
lets_read require_encrypt_allow_decrypt version = true
lets_read require_encrypt_require_decrypt version = eqb version 2
