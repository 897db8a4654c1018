-- Bytes, numbers and entries are read exactly as they are written. Assumes nothing.
use mathlib.Core.Path.{◌≡◌, refl, sym, ap, ◌∙◌}
use mathlib.Core.Bool.{Bool, true, false, ◌&&◌}
use mathlib.Core.List.{List, [], ◌∷◌, ◌++◌, append_assoc, append-nil}
use Prim.Native.Nat.{ℕ, zero, suc, ◌+◌, ◌*◌, ◌/◌, ◌%◌, ◌≤◌, ◌<◌}
use native.Mathlib.Omega.{arith}
use native.Mathlib.Nat.{add_assoc}
use lib.Dec.{leb}
use lib.ListN.{length, take, drop, length-append, take-append-drop}
use lib.Seq.{take_at, drop_at, length-take-le}
use Rattle.format.specs.Read.{success, more_needed, ◌>>=◌, return, no_end}
use Rattle.format.specs.Serialize.{Bytes, Part, read, number_from, number, read_uint, write_uint, read_uint8, read_uint16, write_uint16, read_uint32, write_uint32, read_short_length_seq, write_short_length_seq, entry_length, images, sum, every}
use Rattle.format.proofs.Tests.{leb_is, nleb_is, is_leb, is_nleb}
use Rattle.format.proofs.Exact.{Took, Exact, seq_exact, free_exact, give_exact, revalue, revalue_bytes, more_is_no_success}

-- n bytes
pub read_fits : (n : ℕ) (l : List ℕ) (s : ℕ) → n ≤ length l → read n l s ≡ success (record { start = s; bytes = take n l }) (drop n l) (s + n)
unfolding read
read_fits n l s h = rw (leb_is n (length l) h, read)

pub read_short : (n : ℕ) (l : List ℕ) (s : ℕ) → length l < n → read n l s ≡ more_needed (s + n)
unfolding read
read_short n l s h = rw (nleb_is n (length l) h, read)

abbrev pub Sized : ℕ → List ℕ → Type 0
Sized n bytes = length bytes ≡ n

abbrev pub as_is : List ℕ → List ℕ
as_is bytes = bytes

abbrev pub part_at : ℕ → List ℕ → Part
part_at s bytes = record { start = s; bytes = bytes }

pub read_sound : (n : ℕ) (l : List ℕ) (s : ℕ) (p : Part) (l' : List ℕ) (t : ℕ) → read n l s ≡ success p l' t → Took (Sized n) as_is part_at l s p l' t
read_sound n l s p l' t e = go (leb n (length l)) refl
  where
    go : (b : Bool) → leb n (length l) ≡ b → Took (Sized n) as_is part_at l s p l' t
    go true h =
        let k : n ≤ length l = is_leb n (length l) h in
        let q : success (record { start = s; bytes = take n l }) (drop n l) (s + n) ≡ success p l' t = sym (read_fits n l s k) ∙ e in
        let c : drop n l ≡ l' = cc in
        let d : length (take n l) ≡ n = length-take-le n l k in
        record { value = take n l; good = d; split = sym (rw (← c) (take-append-drop n l)); tail = rw d (cc); placed = cc }
    go false h = more_is_no_success (sym (read_short n l s (is_nleb n (length l) h)) ∙ e)

pub read_exact : (n : ℕ) → Exact (read n) (Sized n) as_is part_at
read_exact n =
    record {
      sound = λ l s p l' t hb e. read_sound n l s p l' t e;
      complete = λ bytes s l o.
          let d : length bytes ≡ n = o in
          rw (read_fits n (bytes ++ l) s (simp length-append (omega arith)), take_at bytes l n d, drop_at bytes l n d, d) refl;
    }

-- a number's bytes: those of the leading number, then the last
pub length_uint : (width x : ℕ) → length (write_uint width x) ≡ width
length_uint zero x = refl
length_uint (suc width) x = rw (length-append (write_uint width (x / 256)) (x % 256 ∷ []), length_uint width (x / 256)) (omega arith)

-- bytes are those of the number that they make
write_number : (bytes : List ℕ) (width n k : ℕ) → k ≡ length bytes + width → Bytes bytes → write_uint k (number_from n bytes) ≡ write_uint width n ++ bytes
write_number [] width n k e h = let d : k ≡ width = omega arith in ap (λ j. write_uint j n) d ∙ sym (append-nil (write_uint width n))
write_number (b ∷ bytes) width n k e (p, h) =
    let q : (n * 256 + b) / 256 ≡ n = omega arith in
    let r : (n * 256 + b) % 256 ≡ b = omega arith in
    write_number bytes (suc width) (n * 256 + b) k (omega arith) h
    ∙ ap (λ y. (write_uint width y ++ ((n * 256 + b) % 256 ∷ [])) ++ bytes) q
    ∙ ap (λ y. (write_uint width n ++ (y ∷ [])) ++ bytes) r
    ∙ append_assoc (write_uint width n) (b ∷ []) bytes

-- a number that has so many bytes
abbrev pub Wide : ℕ → ℕ → Type 0
Wide width x = number (write_uint width x) ≡ x

abbrev pub itself : ℕ → ℕ → ℕ
itself s x = x

pub uint_exact : (width : ℕ) → Exact (read_uint width) (Wide width) (write_uint width) itself
unfolding read_uint
uint_exact width =
    revalue_bytes (Wide width) (write_uint width) itself
    (seq_exact _ (read_exact width) λ s bytes. give_exact _)
    (λ w o hb.
    let h : Bytes w.0 = rw append-nil at hb in
    let e : write_uint width (number w.0) ≡ w.0 = write_number w.0 0 0 width (omega (arith, o.0)) h in
    (number w.0, ap number e, append-nil w.0 ∙ sym e, λ s. refl))
    (λ x o. ((write_uint width x, tt), (length_uint width x, tt), sym (append-nil (write_uint width x)), λ s. sym o))

-- one byte
pub uint8_exact : Exact read_uint8 (λ x. x < 256) (λ x. x ∷ []) itself
unfolding read_uint8
uint8_exact =
    revalue (λ x. x < 256) (λ x. x ∷ []) itself (uint_exact 1)
    (λ x o. let e : x % 256 ≡ x = omega arith in (x, omega arith, ap (λ y. y ∷ []) e, λ s. refl))
    (λ x o. let e : x % 256 ≡ x = omega arith in (x, omega arith, ap (λ y. y ∷ []) (sym e), λ s. refl))

-- a 16-bit number at the front of the bytes left
pub two_bytes : (a b : ℕ) (l : List ℕ) (s : ℕ) → read_uint16 (a ∷ b ∷ l) s ≡ success (a * 256 + b) l (s + 2)
unfolding read_uint16 read_uint ◌>>=◌ return
two_bytes a b l s = let e : (0 * 256 + a) * 256 + b ≡ a * 256 + b = omega arith in rw (read_fits 2 (a ∷ b ∷ l) s (omega arith), e) refl

pub uint16_exact : Exact read_uint16 (λ x. x < 65536) write_uint16 itself
unfolding read_uint16 write_uint16
uint16_exact = revalue (λ x. x < 65536) write_uint16 itself (uint_exact 2) (λ x o. (x, omega arith, refl, λ s. refl)) (λ x o. (x, omega arith, refl, λ s. refl))

pub uint32_exact : Exact read_uint32 (λ x. x < 4294967296) write_uint32 itself
unfolding read_uint32 write_uint32
uint32_exact = revalue (λ x. x < 4294967296) write_uint32 itself (uint_exact 4) (λ x o. (x, omega arith, refl, λ s. refl)) (λ x o. (x, omega arith, refl, λ s. refl))

pub length_uint16 : (x : ℕ) → length (write_uint16 x) ≡ 2
unfolding write_uint16
length_uint16 x = refl

pub length_uint32 : (x : ℕ) → length (write_uint32 x) ≡ 4
unfolding write_uint32
length_uint32 x = refl

-- an entry, held to no end
pub length_entry : (bytes : List ℕ) → length (write_short_length_seq bytes) ≡ entry_length bytes
unfolding write_short_length_seq
length_entry bytes = rw (length-append (write_uint16 (length bytes)) bytes, length_uint16) refl

abbrev pub Short : List ℕ → Type 0
Short bytes = length bytes < 65536

abbrev pub entry_at : ℕ → List ℕ → Part
entry_at s bytes = part_at (s + 2) bytes

pub entry_exact : Exact (read_short_length_seq no_end) Short write_short_length_seq entry_at
unfolding read_short_length_seq write_short_length_seq
entry_exact =
    revalue Short write_short_length_seq entry_at
    (free_exact 2 (seq_exact _ uint16_exact λ s n. free_exact n (read_exact n)))
    (λ w o. let e : length w.1 ≡ w.0 = o.1 in (w.1, rw e o.0, rw e refl, λ s. rw length_uint16 refl))
    (λ bytes o. ((length bytes, bytes), (o, refl), refl, λ s. rw length_uint16 refl))

-- what each of some items gives, and of others behind them
pub images_append : {B C : Type 0} (f : B → List C) (xs ys : List B) → images f (xs ++ ys) ≡ images f xs ++ images f ys
unfolding images
images_append f [] ys = refl
images_append f (x ∷ xs) ys = ap (λ l. f x ++ l) (images_append f xs ys) ∙ sym (append_assoc (f x) (images f xs) (images f ys))

pub sum_append : {B : Type 0} (f : B → ℕ) (xs ys : List B) → sum f (xs ++ ys) ≡ sum f xs + sum f ys
unfolding sum
sum_append f [] ys = omega arith
sum_append f (x ∷ xs) ys = ap (λ (n : ℕ). f x + n) (sum_append f xs ys) ∙ sym (add_assoc (f x) (sum f xs) (sum f ys))

pub every_append : {B : Type 0} (f : B → Bool) (xs ys : List B) → every f (xs ++ ys) ≡ (every f xs && every f ys)
unfolding every
every_append f [] ys = refl
every_append f (x ∷ xs) ys = ap (λ b. f x && b) (every_append f xs ys) ∙ and_assoc (f x)
  where
    and_assoc : (a : Bool) → (a && (every f xs && every f ys)) ≡ ((a && every f xs) && every f ys)
    and_assoc true = refl
    and_assoc false = refl

-- a test of all that items give is one of each item
pub every_images : {B C : Type 0} (f : C → Bool) (g : B → List C) (xs : List B) → every f (images g xs) ≡ every (λ x. every f (g x)) xs
unfolding every images
every_images f g [] = refl
every_images f g (x ∷ xs) = every_append f (g x) (images g xs) ∙ ap (λ b. every f (g x) && b) (every_images f g xs)
