-- Version 1 drafts reissued in version 2, worked out by hand, byte by byte. Assumes nothing.
use Rattle.std.specs.Prelude.{◌≡◌, refl, Bool, true, List, [], ◌∷◌, ◌++◌, ℕ, take, drop}
use Rattle.format.specs.Read.{operation}
use Rattle.format.specs.Serialize.{every}
use Rattle.format.specs.Fields.{fields_of}
use Rattle.format.specs.OnlyAuthenticated.{fitting}
use Rattle.format.specs.Reissuing.{reissued_header_body, reissue_header_body}
use Rattle.cases.specs.Cases.{Expected, accepts, refuses, shortage_at, is, H, opened, laid_out}
use Rattle.cases.specs.Headers.{h_with, bytes_from, V2}

-- a suite, an ID and suite data; an output of so many bytes; a message and a start; the draft's tail and the bytes written, or a refusal
pub data Reissuing : Type 0 where
  reissues : ℕ → List ℕ → List ℕ → ℕ → List ℕ → ℕ → Expected → Reissuing

unfoldable pub reissued_so : Reissuing → Bool
reissued_so (reissues suite id suiteData room m s want) =
    is (λ bytes. bytes) (operation (reissue_header_body (record { suite = suite; messageId = id; suiteData = suiteData }) room) m s) want

abbrev pub id : List ℕ
id = bytes_from 0xF0

abbrev pub suite_data : List ℕ
suite_data = bytes_from 0xC0

-- what H becomes, with its pair and without: H's sections between new ends
abbrev h2_with : List ℕ → List ℕ
h2_with section =
    (0x02 ∷ 0x04 ∷ 0x78 ∷ id)
    ++ (section
    ++ ((0x00 ∷ 0x01 ∷ 0x00 ∷ 0x02 ∷ 0x70 ∷ 0x31 ∷ 0x00 ∷ 0x01 ∷ 0x61 ∷ 0x00 ∷ 0x03 ∷ 0xAA ∷ 0xBB ∷ 0xCC ∷ [])
    ++ ((0x02 ∷ 0x00 ∷ 0x00 ∷ 0x10 ∷ 0x00 ∷ []) ++ suite_data)))

abbrev H2 : List ℕ
H2 = h2_with (0x00 ∷ 0x0C ∷ 0x00 ∷ 0x01 ∷ 0x00 ∷ 0x04 ∷ 0x6C ∷ 0x61 ∷ 0x6E ∷ 0x67 ∷ 0x00 ∷ 0x02 ∷ 0x63 ∷ 0x79 ∷ [])

-- H, whose content type and frame length don't go together
abbrev h_non_framed : List ℕ
h_non_framed = take 48 H ++ (0x01 ∷ drop 49 H)

unfoldable pub reissuings : List Reissuing
reissuings =
    -- into an output that it fills, and into one that lacks a byte; with the other committing suite, and an output that is longer
    reissues 0x0478 id suite_data 100 H 0 (accepts 58 H2)
    ∷ reissues 0x0478 id suite_data 99 H 0 (refuses 28 0)
    ∷ reissues 0x0578 id suite_data 200 H 0 (accepts 58 (0x02 ∷ 0x05 ∷ drop 2 H2))
    -- from a start, with bytes in front of the draft and behind it
    ∷ reissues 0x0478 id suite_data 100 (0x02 ∷ 0xFF ∷ 0x01 ∷ H ++ (0xEE ∷ 0xDD ∷ [])) 3 (accepts 61 H2)
    -- an empty context, whatever form it stands in, is written as 00 00
    ∷ reissues 0x0478 id suite_data 88 (h_with (0x00 ∷ 0x00 ∷ [])) 0 (accepts 46 (h2_with (0x00 ∷ 0x00 ∷ [])))
    ∷ reissues 0x0478 id suite_data 88 (h_with (0x00 ∷ 0x02 ∷ 0x00 ∷ 0x00 ∷ [])) 0 (accepts 48 (h2_with (0x00 ∷ 0x00 ∷ [])))
    ∷ reissues 0x0478 id suite_data 87 (h_with (0x00 ∷ 0x02 ∷ 0x00 ∷ 0x00 ∷ [])) 0 (refuses 28 0)
    -- a version 2 draft, and one of which there is no more than the first byte; what it gave is not reissued again
    ∷ reissues 0x0478 id suite_data 200 V2 0 (refuses 4 0)
    ∷ reissues 0x0000 [] [] 0 (0x02 ∷ []) 0 (refuses 4 0)
    ∷ reissues 0x0478 id suite_data 200 H2 0 (refuses 4 0)
    -- the reading's refusals come first, then 20, then those of what is added, each in its turn, and 28
    ∷ reissues 0x0000 [] [] 0 (take 57 H) 0 (shortage_at 58)
    ∷ reissues 0x0000 [] [] 0 h_non_framed 0 (refuses 20 0)
    ∷ reissues 0x0000 [] [] 0 H 0 (refuses 6 0)
    ∷ reissues 0x0178 [] [] 0 H 0 (refuses 7 0)
    ∷ reissues 0x0478 (drop 1 id) [] 0 H 0 (refuses 24 0)
    ∷ reissues 0x0478 id (0x00 ∷ suite_data) 0 H 0 (refuses 25 0)
    ∷ reissues 0x0478 id suite_data 0 H 0 (refuses 28 0)
    -- a number of which only the last two bytes are a suite's
    ∷ reissues 0x010478 id suite_data 100 H 0 (refuses 6 0)
    ∷ []

-- to unfold this is to unfold how a draft is reissued
unfoldable pub reissuing : Unit {0}
unfolding reissued_header_body reissue_header_body fitting fields_of
reissuing = tt

pub reissuings_hold : every reissued_so reissuings ≡ true
unfolding opened laid_out reissuing is reissued_so H h_with V2 bytes_from reissuings
reissuings_hold = refl
