-- The lists of refusals for reading of documents 01 and 02, as lists: a line an item, in their order. A line says, in terms of the message alone,
-- when it applies and with which position. `FirstRefusal` ties them to the readers, both ways; it is proved in proofs/FirstBody.
-- A line behind one that applies may speak of bytes that are not there; nothing rests on it. Assumes nothing.
use Rattle.std.specs.Prelude.{◌≡◌, Bool, true, false, not, cond, ◌&&◌, ◌||◌, List, [], ◌∷◌, ◌++◌, map, ℕ, zero, suc, ◌+◌, ◌*◌, ◌-◌, leb, ltb, eqb, length}
use Rattle.format.specs.Read.{Reader, End, no_end, end_at, Item, followed, last, accepted, refused, addressable, operation}
use Rattle.format.specs.Serialize.{every}
use Rattle.format.specs.Utf8.{valid_utf8_seq}
use Rattle.format.specs.Shared.{by, one_or_two, known, of_version, suite_version, frame_fits}
use Rattle.format.specs.Fields.{PairAt, pair_of}
use Rattle.format.specs.Context.{Mode, tolerant, is_strict, seen}
use Rattle.format.specs.Keys.{Max, within}
use Rattle.format.specs.Policies.{Policy, lets_read}
use Rattle.format.specs.Body.{Which, asked, Request}
use Rattle.format.specs.Frames.{FrameAt, next_number}
use Rattle.format.specs.OnlyAuthenticated.{only_authenticated, in_twos}
use Rattle.format.specs.Places.{number8, number16, number32, entry_here, entry_end, pair_here, pair_end, pairs_end, key_here, key_end, section_pairs, section_keys, section_keys_end, run_bound, final_here, frame_here, frame_end, frames_here}

-- a line of a list: a refusal's number and position, and whether it applies
pub record Line : Type 0 where
  pub number : ℕ
  pub position : ℕ
  pub applies : Bool

-- 2, where fewer than n bytes are left from s on: the position is the place behind those wanted
abbrev pub lacks : ℕ → List ℕ → ℕ → Line
lacks n m s = record { number = 2; position = s + n; applies = ltb (length m - s) n }

-- any other refusal has the position 0: k, where b holds; and k, where b does not
abbrev pub when : ℕ → Bool → Line
when k b = record { number = k; position = 0; applies = b }

abbrev pub unless : ℕ → Bool → Line
unless k b = when k (not b)

-- no line applies
abbrev pub NoneApplies : List Line → Type 0
NoneApplies lines = every (λ (x : Line). not x.applies) lines ≡ true

-- a line with that number and position applies, and none before it does
pub record FirstApplies (lines : List Line) (number position : ℕ) : Type 0 where
  pub before : List Line
  pub line : Line
  pub behind : List Line
  pub listed : lines ≡ before ++ (line ∷ behind)
  pub none_before : NoneApplies before
  pub line_applies : line.applies ≡ true
  pub its_number : line.number ≡ number
  pub its_position : line.position ≡ position

-- 32, where the n bytes from s on would end past the end; no line where there is no end
abbrev pub held_list : End → ℕ → ℕ → List Line
held_list no_end n s = []
held_list (end_at e) n s = when 32 (ltb e (s + n)) ∷ []

-- THE LISTS. An entry: its length, its bytes
unfoldable pub entry_list : End → List ℕ → ℕ → List Line
entry_list e m s =
    held_list e 2 s
    ++ (lacks 2 m s
    ∷ (held_list e (number16 m s) (s + 2)
    ++ (lacks (number16 m s) m (s + 2)
    ∷ [])))

-- n items, one behind the other, each in the light of those before it
unfoldable pub each_list : {A : Type 0} → (List A → List ℕ → ℕ → List Line) → (List ℕ → ℕ → A) → (List ℕ → ℕ → ℕ) → ℕ → List A → List ℕ → ℕ → List Line
each_list list here end zero done m s = []
each_list list here end (suc n) done m s = list done m s ++ each_list list here end n (done ++ (here m s ∷ [])) m (end m s)

-- A pair, behind those pairs
unfoldable pub pair_list : End → List PairAt → List ℕ → ℕ → List Line
pair_list e done m s =
    let p = pair_here m s in
    (entry_list e m s
    ++ (unless 10 (valid_utf8_seq p.key.bytes)
    ∷ (entry_list e m (entry_end m s)
    ++ (unless 11 (valid_utf8_seq p.value.bytes)
    ∷ when 12 (seen p.key.bytes (map pair_of done))
    ∷ []))))

-- What follows a context section's length n; true: n is 0, and nothing follows. Behind 32, the pairs that do not end where the section does
-- end before it: 14.
unfoldable pub context_list_of : Mode → Bool → ℕ → List ℕ → ℕ → List Line
context_list_of mode true n m s = []
context_list_of mode false n m s =
    let count = number16 m s in
    let end = end_at (s + n) in
    (lacks n m s
    ∷ (held_list end 2 s
    ++ (lacks 2 m s
    ∷ when 8 (eqb n 2 && not (eqb count 0))
    ∷ when 21 (eqb n 2 && (eqb count 0 && is_strict mode))
    ∷ when 9 (not (eqb n 2) && eqb count 0)
    ∷ (each_list (pair_list end) pair_here pair_end count [] m (s + 2)
    ++ (when 14 (ltb (pairs_end m count (s + 2)) (s + n))
    ∷ [])))))

unfoldable pub context_list : Mode → List ℕ → ℕ → List Line
context_list mode m s = lacks 2 m s ∷ context_list_of mode (eqb (number16 m s) 0) (number16 m s) m (s + 2)

-- A key, whatever keys stand before it
unfoldable pub key_list : List ℕ → ℕ → List Line
key_list m s =
    entry_list no_end m s
    ++ (unless 16 (valid_utf8_seq (entry_here m s).bytes)
    ∷ (entry_list no_end m (entry_end m s)
    ++ entry_list no_end m (entry_end m (entry_end m s))))

unfoldable pub keys_list : Max → List ℕ → ℕ → List Line
keys_list max m s =
    let count = number16 m s in
    (lacks 2 m s
    ∷ when 38 (eqb count 0)
    ∷ unless 15 (within count max)
    ∷ each_list (λ done. key_list) key_here key_end count [] m (s + 2))

-- A body's leading fields, behind the version byte; true: version 1
unfoldable pub lead_list_of : Bool → List ℕ → ℕ → List Line
lead_list_of true m s =
    let suite = number16 m (s + 1) in
    (lacks 1 m s
    ∷ unless 5 (eqb (number8 m s) 0x80)
    ∷ lacks 2 m (s + 1)
    ∷ unless 6 (known suite)
    ∷ unless 7 (of_version 1 suite)
    ∷ [])
lead_list_of false m s =
    let suite = number16 m s in
    (lacks 2 m s
    ∷ unless 6 (known suite)
    ∷ unless 7 (of_version 2 suite)
    ∷ [])

-- up to 7
unfoldable pub lead_list : Which → List ℕ → ℕ → List Line
lead_list which m s =
    let version = number8 m s in
    (lacks 1 m s
    ∷ unless 3 (one_or_two version)
    ∷ unless 4 (asked which version)
    ∷ lead_list_of (eqb version 1) m (s + 1))

-- What stands before its context section
unfoldable pub opening_list : Which → Policy → List ℕ → ℕ → List Line
opening_list which policy m s =
    let version = number8 m s in
    (lead_list which m s
    ++ (unless 39 (lets_read policy version)
    ∷ lacks (by version 16 32) m (s + by version 4 3)
    ∷ []))

-- What stands behind a body's key section; true: version 1
unfoldable pub closing_list_of : Bool → List ℕ → ℕ → List Line
closing_list_of true m s =
    lacks 4 m s
    ∷ unless 18 (eqb (number32 m s) 0)
    ∷ lacks 1 m (s + 4)
    ∷ unless 19 (eqb (number8 m (s + 4)) 12)
    ∷ lacks 4 m (s + 4 + 1)
    ∷ []
closing_list_of false m s = lacks 4 m s ∷ lacks 32 m (s + 4) ∷ []

unfoldable pub closing_list : Bool → List ℕ → ℕ → List Line
closing_list v1 m s = lacks 1 m s ∷ unless 17 (one_or_two (number8 m s)) ∷ closing_list_of v1 m (s + 1)

-- the frame length, of a closing at s; true: version 1, which has the reserved bytes and the IV length in front of it
abbrev pub frame_length_here : Bool → List ℕ → ℕ → ℕ
frame_length_here v1 m s = cond v1 (number32 m (s + 1 + 4 + 1)) (number32 m (s + 1))

-- A body: the context section stands 20 or 35 bytes behind its start, and each part where the one before it ends
unfoldable pub body_list : Request → List ℕ → ℕ → List Line
body_list q m s =
    let version = number8 m s in
    let aad = s + by version 20 35 in
    let edks = entry_end m aad in
    let closing = section_keys_end m edks in
    let v1 = eqb version 1 in
    (opening_list q.which q.policy m s
    ++ (context_list q.mode m aad
    ++ (keys_list q.max m edks
    ++ (closing_list v1 m closing
    ++ (unless 20 (not q.frames || frame_fits (number8 m closing) (frame_length_here v1 m closing))
    ∷ unless 22 (within (4 * length (section_pairs m aad)) q.pairRoom)
    ∷ unless 23 (within (6 * length (section_keys m edks)) q.keyRoom)
    ∷ [])))))

-- An authentication record of a suite: version 1 has an IV
unfoldable pub auth_list : ℕ → List ℕ → ℕ → List Line
auth_list suite m s = unless 6 (known suite) ∷ cond (eqb (suite_version suite) 1) (lacks 12 m s ∷ lacks 16 m (s + 12) ∷ []) (lacks 16 m s ∷ [])

-- Sections as operations of their own, and find
unfoldable pub context_into_list : Mode → ℕ → List ℕ → ℕ → List Line
context_into_list mode room m s = context_list mode m s ++ (unless 22 (leb (4 * length (section_pairs m s)) room) ∷ [])

unfoldable pub keys_into_list : Max → ℕ → List ℕ → ℕ → List Line
keys_into_list max room m s = keys_list max m s ++ (unless 23 (leb (6 * length (section_keys m s)) room) ∷ [])

unfoldable pub find_list : List ℕ → List ℕ → ℕ → List Line
find_list k m s = context_list tolerant m s ++ (unless 29 (seen k (map pair_of (section_pairs m s))) ∷ [])

-- The bytes that are only authenticated: the section's, then 31, then 28
unfoldable pub only_authenticated_list : List ℕ → List ℕ → ℕ → List ℕ → ℕ → List Line
only_authenticated_list text required room m s =
    context_list tolerant m s
    ++ (unless 31 (in_twos text required)
    ∷ unless 28 (leb (length (only_authenticated text required (section_pairs m s))) room)
    ∷ [])

-- Items of a run, n at most. Behind the last item there is no line; a run that has not ended after n of them lacks a byte, which no run
-- of a message does with the bound that it has below.
abbrev pub lines_behind : {A : Type 0} → Item A → (A → List Line) → List Line
lines_behind (followed a) rest = rest a
lines_behind (last a) rest = []

unfoldable pub run_list : {A : Type 0} → (List A → List ℕ → ℕ → List Line) → (List ℕ → ℕ → Item A) → (List ℕ → ℕ → ℕ) → ℕ → List A → List ℕ → ℕ → List Line
run_list list here end zero done m s = lacks (run_bound m s) m s ∷ []
run_list list here end (suc n) done m s = list done m s ++ lines_behind (here m s) (λ a. run_list list here end n (done ++ (a ∷ [])) m (end m s))

-- A frame, where that sequence number is due: behind its first number (true: the final one), and whole
unfoldable pub frame_list_of : ℕ → ℕ → Bool → ℕ → List ℕ → ℕ → List Line
frame_list_of frame due true mark m s =
    let n = number32 m (s + 4 + 12) in
    (lacks 4 m s
    ∷ unless 34 (eqb (number32 m s) due)
    ∷ lacks 12 m (s + 4)
    ∷ lacks 4 m (s + 4 + 12)
    ∷ unless 35 (leb n frame)
    ∷ lacks n m (s + 4 + 12 + 4)
    ∷ lacks 16 m (s + 4 + 12 + 4 + n)
    ∷ [])
frame_list_of frame due false number m s =
    unless 34 (eqb number due)
    ∷ lacks 12 m s
    ∷ lacks frame m (s + 12)
    ∷ lacks 16 m (s + 12 + frame)
    ∷ []

unfoldable pub frame_list : ℕ → ℕ → List ℕ → ℕ → List Line
frame_list frame due m s = lacks 4 m s ∷ frame_list_of frame due (final_here m s) (number32 m s) m (s + 4)

abbrev pub next_frame_list : ℕ → List FrameAt → List ℕ → ℕ → List Line
next_frame_list frame done = frame_list frame (next_number done)

-- The frames: 20, then frame by frame, then the table
unfoldable pub frames_list : ℕ → List ℕ → ℕ → List Line
frames_list frame m s = run_list (next_frame_list frame) (frame_here frame) (frame_end frame) (run_bound m s) [] m s

unfoldable pub frames_into_list : ℕ → ℕ → List ℕ → ℕ → List Line
frames_into_list frame room m s =
    when 20 (eqb frame 0)
    ∷ (frames_list frame m s
    ++ (unless 23 (leb (6 * length (frames_here frame m s)) room)
    ∷ []))

-- AN OPERATION refuses by the first line that applies, 1 in front of them all; where none does it accepts, and gives what stands
-- there and the place behind it (specs/Places), an empty part with the start that its bytes would have
abbrev pub operation_list : (List ℕ → ℕ → List Line) → List ℕ → ℕ → List Line
operation_list list m s = unless 1 (addressable m s) ∷ list m s

pub record FirstRefusal {A : Type 0} (r : Reader A) (list : List ℕ → ℕ → List Line) (here : List ℕ → ℕ → A) (end : List ℕ → ℕ → ℕ) (m : List ℕ) (s : ℕ) : Type 0 where
  pub refuses : (k p : ℕ) → operation r m s ≡ refused k p → FirstApplies (operation_list list m s) k p
  pub applies : (k p : ℕ) → FirstApplies (operation_list list m s) k p → operation r m s ≡ refused k p
  pub accepts : NoneApplies (operation_list list m s) → operation r m s ≡ accepted (here m s) (end m s)
