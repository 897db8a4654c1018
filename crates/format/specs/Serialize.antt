-- SerializeFunctions.dfy: bytes, numbers and entries, as they are read and as they are written. Assumes nothing.
use Rattle.std.specs.Prelude.{Bool, true, false, cond, ◌&&◌, List, [], ◌∷◌, ◌++◌, ℕ, zero, suc, ◌+◌, ◌*◌, ◌/◌, ◌%◌, ◌<◌, leb, eqb, length, take, drop}
use Rattle.format.specs.Read.{success, more_needed, Reader, ◌>>=◌, ◌>>◌, return, End, held, Answer, accepted, refused, addressable}

-- the elements of a message are bytes
abbrev pub Bytes : List ℕ → Type 0
Bytes [] = Unit {0}
Bytes (x ∷ l) = (x < 256) × Bytes l

-- a part of the message: where it starts, and its bytes
pub record Part : Type 0 where
  pub start : ℕ
  pub bytes : List ℕ

-- Read: n bytes, 0 included, where that many are left; else 2 at the place plus n
unfoldable pub read : ℕ → Reader Part
read n l s = elim (leb n (length l)) [ true ↦ success (record { start = s; bytes = take n l }) (drop n l) (s + n) | false ↦ more_needed (s + n) ]

-- The same at a place of a message. `read` sees only the bytes that are left, so past the message's end the two differ for n = 0,
-- and nowhere else (specs/Pinned).
unfoldable pub read_at : ℕ → List ℕ → ℕ → Answer Part
read_at n m s = cond (leb (s + n) (length m)) (accepted (record { start = s; bytes = take n (drop s m) }) (s + n)) (refused 2 (s + n))

-- and as an operation of its own
unfoldable pub read_operation : ℕ → List ℕ → ℕ → Answer Part
read_operation n m s = cond (addressable m s) (read_at n m s) (refused 1 0)

-- the number whose bytes stand most significant first, behind the number n
abbrev pub number_from : ℕ → List ℕ → ℕ
number_from n [] = n
number_from n (b ∷ bytes) = number_from (n * 256 + b) bytes

abbrev pub number : List ℕ → ℕ
number bytes = number_from 0 bytes

-- a number of that many bytes
unfoldable pub read_uint : ℕ → Reader ℕ
read_uint width = do
  p ← read width
  return (number p.bytes)

abbrev pub write_uint : ℕ → ℕ → List ℕ
write_uint zero x = []
write_uint (suc width) x = write_uint width (x / 256) ++ (x % 256 ∷ [])

unfoldable pub read_uint8 : Reader ℕ
read_uint8 = read_uint 1

-- ReadUInt16, WriteUint16
unfoldable pub read_uint16 : Reader ℕ
read_uint16 = read_uint 2

unfoldable pub write_uint16 : ℕ → List ℕ
write_uint16 x = write_uint 2 x

-- ReadUInt32, WriteUint32
unfoldable pub read_uint32 : Reader ℕ
read_uint32 = read_uint 4

unfoldable pub write_uint32 : ℕ → List ℕ
write_uint32 x = write_uint 4 x

-- ReadShortLengthSeq, WriteShortLengthSeq: an entry, which is a 2-byte length and that many bytes. Reading, both have to stay within
-- the end; the source knows no end.
unfoldable pub read_short_length_seq : End → Reader Part
read_short_length_seq e = do
  held e 2
  n ← read_uint16
  held e n
  read n

unfoldable pub write_short_length_seq : List ℕ → List ℕ
write_short_length_seq bytes = write_uint16 (length bytes) ++ bytes

-- how many bytes an entry takes
abbrev pub entry_length : List ℕ → ℕ
entry_length bytes = 2 + length bytes

-- what each item gives, one after the other
unfoldable pub images : {A B : Type 0} → (A → List B) → List A → List B
images f [] = []
images f (x ∷ xs) = f x ++ images f xs

unfoldable pub sum : {A : Type 0} → (A → ℕ) → List A → ℕ
sum f [] = 0
sum f (x ∷ xs) = f x + sum f xs

unfoldable pub every : {A : Type 0} → (A → Bool) → List A → Bool
every f [] = true
every f (x ∷ xs) = f x && every f xs

-- whether two lists of bytes are equal
unfoldable pub same_bytes : List ℕ → List ℕ → Bool
same_bytes [] [] = true
same_bytes [] (y ∷ ys) = false
same_bytes (x ∷ xs) [] = false
same_bytes (x ∷ xs) (y ∷ ys) = eqb x y && same_bytes xs ys
