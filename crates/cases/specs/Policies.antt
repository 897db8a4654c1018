-- Bodies under each policy, of both versions, by each reader and by the writer; and 39 beside what stands before it and behind it. Assumes nothing.
use Rattle.std.specs.Prelude.{◌≡◌, refl, Bool, true, List, [], ◌∷◌, ◌++◌, ℕ, eqb, take, drop}
use Rattle.std.proofs.Math.Option.{Option, none, some}
use Rattle.format.specs.Read.{operation}
use Rattle.format.specs.Serialize.{every}
use Rattle.format.specs.Fields.{today}
use Rattle.format.specs.Context.{Mode, tolerant, strict}
use Rattle.format.specs.Keys.{no_max}
use Rattle.format.specs.Policies.{Policy, no_policy, forbid_encrypt_allow_decrypt, require_encrypt_allow_decrypt, require_encrypt_require_decrypt}
use Rattle.format.specs.Body.{Which, either, v1_only, v2_only, read_header_body_under}
use Rattle.format.specs.Auth.{zeros}
use Rattle.format.specs.Checks.{first}
use Rattle.format.specs.Lent.{items, in_text, part_in, table_checks, BodyToWrite, fields_to_write, writing_header_body_under}
use Rattle.cases.specs.Cases.{Expected, refuses, shortage_at, is, body_numbers, H, h_read, opened, laid_out}
use Rattle.cases.specs.Headers.{bytes_from, V2, v2_read}
use Rattle.cases.specs.Faults.{id, some_text, one, lent_in}

pub data Ruled : Type 0 where
  -- a message at start 0, with tables that are long enough
  reads : Policy → Which → Mode → List ℕ → Expected → Ruled
  -- a body to write: the refusal told of its size; 0: none
  writes : Policy → BodyToWrite → ℕ → Ruled

abbrev told : Option ℕ → ℕ
told none = 0
told (some k) = k

unfoldable pub obeyed : Ruled → Bool
obeyed (reads policy which mode m want) = is body_numbers (operation (read_header_body_under policy which mode no_max 4096 4096) m 0) want
obeyed (writes policy b want) = eqb (told (first (writing_header_body_under policy b).checks)) want

-- a body of version 1, and one of version 2, but for the suite and the ID
abbrev one_with : ℕ → List ℕ → BodyToWrite
one_with suite messageId = lent_in today some_text 1 0x80 suite messageId [] one 2 12 [] 1

abbrev two_with : ℕ → List ℕ → BodyToWrite
two_with suite messageId = lent_in today some_text 2 0 suite messageId [] one 2 0 (zeros 32) 1

abbrev body_1 : BodyToWrite
body_1 = one_with 0x0178 id

abbrev body_2 : BodyToWrite
body_2 = two_with 0x0578 (zeros 32)

abbrev forbid_allow : Policy
forbid_allow = forbid_encrypt_allow_decrypt

abbrev require_allow : Policy
require_allow = require_encrypt_allow_decrypt

abbrev require_require : Policy
require_require = require_encrypt_require_decrypt

unfoldable pub ruled : List Ruled
ruled =
    -- who reads which version
    reads no_policy either tolerant H h_read
    ∷ reads no_policy either tolerant V2 v2_read
    ∷ reads forbid_allow either tolerant H h_read
    ∷ reads forbid_allow either tolerant V2 v2_read
    ∷ reads forbid_allow v1_only tolerant H h_read
    ∷ reads forbid_allow v2_only tolerant V2 v2_read
    ∷ reads require_allow either tolerant H h_read
    ∷ reads require_allow either tolerant V2 v2_read
    ∷ reads require_allow v1_only tolerant H h_read
    ∷ reads require_allow v2_only tolerant V2 v2_read
    ∷ reads require_require either tolerant H (refuses 39 0)
    ∷ reads require_require either strict H (refuses 39 0)
    ∷ reads require_require v1_only tolerant H (refuses 39 0)
    ∷ reads require_require v1_only strict H (refuses 39 0)
    ∷ reads require_require either tolerant V2 v2_read
    ∷ reads require_require either strict V2 v2_read
    ∷ reads require_require v2_only tolerant V2 v2_read
    ∷ reads require_require v2_only strict V2 v2_read
    -- 4 and 7 before 39
    ∷ reads require_require v2_only tolerant H (refuses 4 0)
    ∷ reads require_require either tolerant (0x01 ∷ 0x81 ∷ []) (refuses 5 0)
    ∷ reads require_require either tolerant (0x01 ∷ 0x80 ∷ 0x01 ∷ []) (shortage_at 4)
    ∷ reads require_require either tolerant (0x01 ∷ 0x80 ∷ 0x00 ∷ 0x00 ∷ []) (refuses 6 0)
    ∷ reads require_require either tolerant (0x01 ∷ 0x80 ∷ 0x04 ∷ 0x78 ∷ []) (refuses 7 0)
    ∷ reads require_require either tolerant (0x02 ∷ 0x01 ∷ 0x78 ∷ []) (refuses 7 0)
    -- and 39 before the ID, and whatever else is wrong
    ∷ reads require_require either tolerant (take 4 H) (refuses 39 0)
    ∷ reads require_require either tolerant (take 19 H) (refuses 39 0)
    ∷ reads require_require v1_only strict (take 20 H ++ (0x00 ∷ 0x02 ∷ 0x00 ∷ 0x00 ∷ [])) (refuses 39 0)
    ∷ reads require_require either tolerant (take 34 H ++ (0x00 ∷ 0x00 ∷ drop 48 H)) (refuses 39 0)
    ∷ reads require_require either tolerant (take 3 V2) (shortage_at 35)
    ∷ reads require_allow either tolerant (take 4 H) (shortage_at 20)
    ∷ reads forbid_allow either tolerant (take 3 V2) (shortage_at 35)
    -- who writes which version
    ∷ writes no_policy body_1 0
    ∷ writes no_policy body_2 0
    ∷ writes forbid_allow body_1 0
    ∷ writes forbid_allow body_2 39
    ∷ writes require_allow body_1 39
    ∷ writes require_allow body_2 0
    ∷ writes require_require body_1 39
    ∷ writes require_require body_2 0
    -- 7 before 39, and 39 before 24
    ∷ writes require_allow (one_with 0x0000 []) 6
    ∷ writes require_allow (one_with 0x0478 []) 7
    ∷ writes forbid_allow (two_with 0x0178 []) 7
    ∷ writes require_allow (one_with 0x0178 []) 39
    ∷ writes forbid_allow (two_with 0x0478 id) 39
    ∷ writes forbid_allow (one_with 0x0178 []) 24
    ∷ writes require_allow (two_with 0x0478 id) 24
    ∷ []

pub all_obeyed : every obeyed ruled ≡ true
unfolding opened laid_out ruled obeyed is H V2 bytes_from body_numbers zeros items in_text part_in table_checks fields_to_write writing_header_body_under
all_obeyed = refl
