-- What the source's reading answers where ours answers 32 or 38, as document 01 had it: so that the source's reading, which no contract cites,
-- is held to bytes where the two part. Elsewhere they are proved alike (Rattle.format.specs.SourceEquality). Assumes nothing.
use Rattle.std.specs.Prelude.{◌≡◌, refl, Bool, true, List, [], ◌∷◌, ◌++◌, ℕ, take, drop}
use Rattle.format.specs.Read.{operation}
use Rattle.format.specs.Serialize.{every}
use Rattle.format.specs.Context.{tolerant, look_up}
use Rattle.format.specs.Keys.{no_max, at_most}
use Rattle.format.specs.Body.{either, request}
use Rattle.format.specs.Auth.{zeros}
use Rattle.format.specs.Lent.{pair_numbers, key_numbers}
use Rattle.format.specs.Source.{source_read_next_aad_pair, source_read_aad_of, source_read_aad_section, source_read_aad_section_into, source_find_value, source_write_only_authenticated, source_read_encrypted_data_keys_section, source_read_encrypted_data_keys_section_into, source_after_context, source_after_opening, source_read_body}
use Rattle.cases.specs.Cases.{Expected, accepts, refuses, shortage_at, is, body_numbers, H, opened, laid_out}
use Rattle.cases.specs.Tags.{selecting}

pub data Sourced : Type 0 where
  -- a context section at start 0, read tolerantly
  section : List ℕ → Expected → Sourced
  -- the empty key's value in one, and what of one is only authenticated where none is required
  find : List ℕ → Expected → Sourced
  select : List ℕ → Expected → Sourced
  -- a key section at start 0, of at most 0 keys and with no table
  keys : List ℕ → Expected → Sourced
  -- a message read at 0, by the tolerant either-version reader with no maximum
  body : List ℕ → Expected → Sourced

abbrev no_numbers : {A : Type 0} → A → List ℕ
no_numbers a = []

unfoldable pub as_the_source : Sourced → Bool
as_the_source (section m want) = is pair_numbers (operation (source_read_aad_section_into tolerant 4096) m 0) want
as_the_source (find m want) = is no_numbers (operation (source_find_value []) m 0) want
as_the_source (select m want) = is (λ bytes. bytes) (operation (source_write_only_authenticated [] [] 0) m 0) want
as_the_source (keys m want) = is key_numbers (operation (source_read_encrypted_data_keys_section_into (at_most 0) 0) m 0) want
as_the_source (body m want) = is body_numbers (operation (source_read_body (request either tolerant true no_max 4096 4096)) m 0) want

-- a key that would end past its section, and the bytes that mend its shortage but not its end
abbrev past : List ℕ
past = 0x00 ∷ 0x04 ∷ 0x00 ∷ 0x01 ∷ 0x00 ∷ 0x05 ∷ []

abbrev lengthened : List ℕ
lengthened = past ++ (0x61 ∷ 0x62 ∷ 0x63 ∷ 0x64 ∷ 0x65 ∷ 0x00 ∷ 0x00 ∷ [])

-- H with a key count of 0, and no key
abbrev keyless : List ℕ
keyless = take 34 H ++ (0x00 ∷ 0x00 ∷ drop 48 H)

unfoldable pub rows : List Sourced
rows =
    section (0x00 ∷ 0x01 ∷ 0x00 ∷ []) (shortage_at 4)
    ∷ section (0x00 ∷ 0x01 ∷ 0x00 ∷ 0x00 ∷ []) (refuses 9 0)
    ∷ section past (shortage_at 11)
    ∷ section lengthened (refuses 14 0)
    ∷ section (0xFF ∷ 0xFF ∷ 0x00 ∷ 0x01 ∷ 0xFF ∷ 0xFA ∷ zeros 65532) (refuses 13 0)
    ∷ find past (shortage_at 11)
    ∷ find lengthened (refuses 14 0)
    ∷ select past (shortage_at 11)
    ∷ select lengthened (refuses 14 0)
    ∷ body (take 20 H ++ past) (shortage_at 31)
    ∷ body (take 20 H ++ lengthened) (refuses 14 0)
    ∷ keys (0x00 ∷ 0x00 ∷ []) (accepts 2 [])
    ∷ body keyless (accepts 46 (1 ∷ 0x80 ∷ 0x0178 ∷ 0 ∷ 4 ∷ 16 ∷ 26 ∷ 4 ∷ 32 ∷ 2 ∷ 2 ∷ 12 ∷ 4096 ∷ 0 ∷ 0 ∷ []))
    ∷ body (take 36 keyless ++ (0x03 ∷ [])) (refuses 17 0)
    ∷ []

pub sourced : every as_the_source rows ≡ true
unfolding opened laid_out selecting is H body_numbers look_up zeros source_read_next_aad_pair source_read_aad_of source_read_aad_section source_read_aad_section_into source_find_value source_write_only_authenticated source_read_encrypted_data_keys_section source_read_encrypted_data_keys_section_into source_after_context source_after_opening source_read_body as_the_source rows
sourced = refl
