-- Messages fetched by what is wanted, worked out by hand: the positions in turn, and what is answered once they are there. Assumes nothing.
use Rattle.std.specs.Prelude.{◌≡◌, refl, Bool, true, ◌&&◌, List, [], ◌∷◌, ◌++◌, ℕ, take, drop}
use Rattle.std.proofs.Common.{arith}
use Rattle.format.specs.Read.{Answer, refused, operation}
use Rattle.format.specs.Serialize.{every}
use Rattle.format.specs.Context.{tolerant, read_aad_section_into}
use Rattle.format.specs.Keys.{no_max}
use Rattle.format.specs.Body.{either, read_header_body}
use Rattle.format.specs.Frames.{read_frames_into}
use Rattle.format.specs.Lent.{pair_numbers, frame_numbers}
use Rattle.format.specs.Fetched.{Rounds}
use Rattle.cases.specs.Cases.{Expected, accepts, refuses, shortage_at, is, body_numbers, H, h_read, opened, laid_out}
use Rattle.cases.specs.Headers.{h_with, bytes_from, V2, v2_read}
use Rattle.cases.specs.Frames.{iv, tag, regular, final, two, two_places, of_frames}

-- a message, how many bytes of it are there at first, the positions wanted in turn, and the answer behind the last of them
pub data Fetch : Type 0 where
  -- by the tolerant either-version reader with no maximum, at a start
  body : List ℕ → ℕ → ℕ → List ℕ → Expected → Fetch
  -- a context section at start 0
  section : List ℕ → ℕ → List ℕ → Expected → Fetch
  -- frames of length 2 at start 0
  frames : List ℕ → ℕ → List ℕ → Expected → Fetch

unfoldable pub in_turn : {A : Type 0} → (List ℕ → Answer A) → (A → List ℕ) → List ℕ → List ℕ → ℕ → Expected → Bool
in_turn run numbers [] m n want = is numbers (run (take n m)) want
in_turn run numbers (p ∷ ps) m n want = is numbers (run (take n m)) (shortage_at p) && in_turn run numbers ps m p want

unfoldable pub came : Fetch → Bool
came (body m s n ps want) = in_turn (λ m. operation (read_header_body either tolerant no_max 4096 4096) m s) body_numbers ps m n want
came (section m n ps want) = in_turn (λ m. operation (read_aad_section_into tolerant 4096) m 0) pair_numbers ps m n want
came (frames m n ps want) = in_turn (λ m. operation (read_frames_into 2 12) m 0) frame_numbers ps m n want

unfoldable pub h_positions : List ℕ
h_positions = 1 ∷ 2 ∷ 4 ∷ 20 ∷ 22 ∷ 34 ∷ 36 ∷ 38 ∷ 40 ∷ 42 ∷ 43 ∷ 45 ∷ 48 ∷ 49 ∷ 53 ∷ 54 ∷ 58 ∷ []

unfoldable pub fetches : List Fetch
fetches =
    -- H has one key, and takes the 17 rounds that such a header takes at most; from the middle of a field on, those that are left
    body H 0 0 h_positions h_read
    ∷ body H 0 21 (drop 4 h_positions) h_read
    ∷ body H 0 58 [] h_read
    -- what follows it is not asked for
    ∷ body (H ++ (0x00 ∷ 0x00 ∷ 0x00 ∷ [])) 0 0 h_positions h_read
    -- version 2; the empty provider info has no round
    ∷ body V2 0 0 (1 ∷ 3 ∷ 35 ∷ 37 ∷ 45 ∷ 47 ∷ 49 ∷ 50 ∷ 52 ∷ 54 ∷ 55 ∷ 56 ∷ 60 ∷ 92 ∷ []) v2_read
    -- an empty context, today's and the old one
    ∷ body (h_with (0x00 ∷ 0x00 ∷ [])) 0 0 (1 ∷ 2 ∷ 4 ∷ 20 ∷ 22 ∷ 24 ∷ 26 ∷ 28 ∷ 30 ∷ 31 ∷ 33 ∷ 36 ∷ 37 ∷ 41 ∷ 42 ∷ 46 ∷ [])
    (accepts 46 (1 ∷ 0x80 ∷ 0x0178 ∷ 0 ∷ 4 ∷ 16 ∷ 26 ∷ 2 ∷ 30 ∷ 1 ∷ 33 ∷ 3 ∷ 2 ∷ 12 ∷ 4096 ∷ 0 ∷ 0 ∷ []))
    ∷ body (h_with (0x00 ∷ 0x02 ∷ 0x00 ∷ 0x00 ∷ [])) 0 0 (1 ∷ 2 ∷ 4 ∷ 20 ∷ 22 ∷ 24 ∷ 26 ∷ 28 ∷ 30 ∷ 32 ∷ 33 ∷ 35 ∷ 38 ∷ 39 ∷ 43 ∷ 44 ∷ 48 ∷ [])
    (accepts 48 (1 ∷ 0x80 ∷ 0x0178 ∷ 1 ∷ 4 ∷ 16 ∷ 28 ∷ 2 ∷ 32 ∷ 1 ∷ 35 ∷ 3 ∷ 2 ∷ 12 ∷ 4096 ∷ 0 ∷ 0 ∷ []))
    -- a message that ends early, and a start beyond it
    ∷ body (take 30 H) 0 0 (1 ∷ 2 ∷ 4 ∷ 20 ∷ 22 ∷ []) (shortage_at 34)
    ∷ body H 70 58 [] (shortage_at 71)
    -- refused as soon as the part is there that is refused
    ∷ body (0x01 ∷ 0x81 ∷ []) 0 0 (1 ∷ 2 ∷ []) (refuses 5 0)
    -- a context section: its length, and itself as a whole; a part that would end past it is never waited for
    ∷ section (0x00 ∷ 0x06 ∷ 0x00 ∷ 0x01 ∷ 0x00 ∷ 0x00 ∷ 0x00 ∷ 0x00 ∷ []) 0 (2 ∷ 8 ∷ []) (accepts 8 (6 ∷ 0 ∷ 8 ∷ 0 ∷ []))
    ∷ section (0x00 ∷ 0x01 ∷ 0x00 ∷ []) 0 (2 ∷ 3 ∷ []) (refuses 32 0)
    ∷ section (0x00 ∷ 0x04 ∷ 0x00 ∷ 0x01 ∷ 0x00 ∷ 0x05 ∷ []) 1 (2 ∷ 6 ∷ []) (refuses 32 0)
    -- two frames: four rounds, and six for the final one
    ∷ frames two 0 (4 ∷ 16 ∷ 18 ∷ 34 ∷ 38 ∷ 42 ∷ 54 ∷ 58 ∷ 59 ∷ 75 ∷ []) (accepts 75 two_places)
    ∷ frames (regular 2) 0 (4 ∷ []) (refuses 34 0)
    ∷ []

pub all_came : every came fetches ≡ true
unfolding opened laid_out of_frames fetches came in_turn is H h_with h_positions V2 bytes_from body_numbers two two_places regular final iv tag
all_came = refl

-- in the words of the bound: H has one key, and these are its 11 + 6 rounds, so the bound of a body can't be lowered
pub of_h : Rounds h_positions (λ n p. operation (read_header_body either tolerant no_max 4096 4096) (take n H) 0 ≡ refused 2 p) 58 0
unfolding opened H h_positions
of_h = (omega arith, refl, (omega arith, refl, (omega arith, refl, (omega arith, refl, (omega arith, refl, (omega arith, refl, (omega arith, refl, (omega arith, refl, (omega arith, refl, (omega arith, refl, (omega arith, refl, (omega arith, refl, (omega arith, refl, (omega arith, refl, (omega arith, refl, (omega arith, refl, (omega arith, refl, tt)))))))))))))))))
