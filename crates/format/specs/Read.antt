-- How bytes are read: a reader takes the bytes that are left and the place of the first of them in the message.
-- Assumes nothing.
use Rattle.std.specs.Prelude.{Bool, true, false, ◌&&◌, not, List, [], ◌∷◌, ◌++◌, ℕ, zero, suc, ◌+◌, leb, ltb, eqb, length, drop}

-- The source's ReadResult. success: what was read, the bytes left and the place of the first of them, which is the tail.
-- more_needed: refusal 2, with the position wanted. error: any other refusal, by its number; its position is 0.
pub data ReadResult (A : Type 0) : Type 0 where
  success : A → List ℕ → ℕ → ReadResult A
  more_needed : ℕ → ReadResult A
  error : ℕ → ReadResult A

abbrev pub Reader : Type 0 → Type 0
Reader A = List ℕ → ℕ → ReadResult A

module _ {A B : Type 0} where
  abbrev pub go_on : ReadResult A → (A → Reader B) → ReadResult B
  go_on (success a l t) f = f a l t
  go_on (more_needed p) f = more_needed p
  go_on (error k) f = error k

-- one reader and then another at its tail; a refusal leaves at once
module _ {A B : Type 0} where
  infixl 20 ◌>>=◌
  unfoldable pub ◌>>=◌ : Reader A → (A → Reader B) → Reader B
  (r >>= f) l s = go_on (r l s) f

module _ {A B : Type 0} where
  infixl 20 ◌>>◌
  unfoldable pub ◌>>◌ : Reader A → Reader B → Reader B
  (r >> q) l s = go_on (r l s) (λ a. q)

unfoldable pub return : {A : Type 0} → A → Reader A
return a l s = success a l s

-- a test with its refusal
unfoldable pub test : ℕ → Bool → Reader (Unit {0})
test k true l s = success tt l s
test k false l s = error k

-- the end that what is read has to stay within: none, or that of the section it stands in
pub data End : Type 0 where
  no_end : End
  end_at : ℕ → End

-- whether a place lies past it
abbrev pub past : End → ℕ → Bool
past no_end t = false
past (end_at e) t = ltb e t

-- refusal 32: the next n bytes would end past the end. It comes before any shortage of theirs.
unfoldable pub held : End → ℕ → Reader (Unit {0})
held e n l s = test 32 (not (past e (s + n))) l s

module _ {A : Type 0} where
  -- count items, each read in the light of those before it
  unfoldable pub repeat : ℕ → (List A → Reader A) → List A → Reader (List A)
  repeat zero step acc = return acc
  repeat (suc n) step acc = step acc >>= λ a. repeat n step (acc ++ (a ∷ []))

  -- n bytes have to be there, and r, which is told where they end, has to end there: else refusal k
  unfoldable pub enclosed : ℕ → ℕ → (End → Reader A) → Reader A
  enclosed n k r l s =
      elim (leb n (length l))
      [ true ↦ (r (end_at (s + n)) >>= λ a l' t. go_on (test k (eqb t (s + n)) l' t) (λ u. return a)) l s | false ↦ more_needed (s + n) ]

-- an item of a run: one that another follows, or the last one
pub data Item (A : Type 0) : Type 0 where
  followed : A → Item A
  last : A → Item A

module _ {A : Type 0} where
  abbrev pub item : Item A → A
  item (followed a) = a
  item (last a) = a

  -- behind an item: the rest of the run, or nothing more
  abbrev pub behind : (List A → Reader (List A)) → List A → Item A → Reader (List A)
  behind rest acc (followed a) = rest (acc ++ (a ∷ []))
  behind rest acc (last a) = return (acc ++ (a ∷ []))

  -- items up to the last one, each read in the light of those before it, of which there are n at most: a run that has not ended by
  -- then wants a byte more than is left
  unfoldable pub until : ℕ → (List A → Reader (Item A)) → List A → Reader (List A)
  until zero step acc l s = more_needed (s + suc (length l))
  until (suc n) step acc l s = (step acc >>= behind (until n step) acc) l s

  -- A run of any length: where each item takes a byte at least, this bound, one above the bytes left, never cuts it short (specs/FrameLaws).
  unfoldable pub run : (List A → Reader (Item A)) → List A → Reader (List A)
  run step acc l s = until (suc (length l)) step acc l s

-- what an operation answers: what was read and the tail, or a refusal's number and position
pub data Answer (A : Type 0) : Type 0 where
  accepted : A → ℕ → Answer A
  refused : ℕ → ℕ → Answer A

abbrev pub answer : {A : Type 0} → ReadResult A → Answer A
answer (success a l t) = accepted a t
answer (more_needed p) = refused 2 p
answer (error k) = refused k 0

-- reading at a place of a message
unfoldable pub at : {A : Type 0} → Reader A → List ℕ → ℕ → Answer A
at r m s = answer (r (drop s m) s)

-- refusal 1: the message's length or the start is above 4,294,967,295
abbrev pub addressable : List ℕ → ℕ → Bool
addressable m s = leb (length m) 4294967295 && leb s 4294967295

-- reading a message at a start, as an operation of its own
unfoldable pub operation : {A : Type 0} → Reader A → List ℕ → ℕ → Answer A
operation r m s = elim (addressable m s) [ true ↦ at r m s | false ↦ refused 1 0 ]
