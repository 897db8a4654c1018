-- A table of places: that of the entries, filled in a loop; and the contract of a reader with a table. Assumes nothing.
use mathlib.Core.Path.{◌≡◌, refl, sym, ap, ◌∙◌}
use mathlib.Core.Bool.{Bool, true, false}
use mathlib.Core.List.{List, [], ◌∷◌}
use Prim.Native.Nat.{ℕ, ◌+◌, ◌*◌, ◌≤◌, ◌<◌}
use native.Mathlib.Numerals.{add-one}
use native.Mathlib.Omega.{arith}
use lib.ListN.{length, set, length-set}
use lib.Seq.{sets}
use Rattle.format.specs.Read.{Reader, Answer, accepted, refused, at, addressable, operation}
use Rattle.format.specs.Serialize.{images}
use Rattle.format.specs.Lent.{place, filled}
use Rattle.format.specs.Places.{number16, entry_here, entry_end, entries_here, entries_end}
use Rattle.steps.proofs.Numbers.{length_part}
use Rattle.steps.proofs.Operations.{operation_guarded, operation_reached}
use Rattle.entries.specs.Codes.{EntryIs, Reads}
use Rattle.wire.specs.declared.Span.{Span}
use Rattle.wire.specs.Buffer.{from, Opens}
use Rattle.wire.specs.declared.buffer.ReadableBuffer.{ReadableBuffer}
use Rattle.wire.specs.declared.refusals.Refusal.{Refusal}
use Rattle.wire.proofs.BufferLaws.{operation_from, why}
use Rattle.std.specs.Prelude.{Result, Ok, Err}
use Rattle.std.specs.Borrow.{Bor}
use Rattle.entries.proofs.Fills.{Numbered, Fills, fills_start, fills_next, fills_more, fills_end}

pub put_both : (t : List ℕ) (j a b : ℕ) → set (set t j a) (j + 1) b ≡ sets t j (a ∷ b ∷ [])
put_both t j a b = rw add-one

pub second_in : (t : List ℕ) (j a : ℕ) → j + 2 ≤ length t → j + 1 < length (set t j a)
second_in t j a h = simp length-set (omega arith)

entries_numbered : Numbered entry_end place 2
entries_numbered = record { forward = λ m s. omega arith; many = λ p. refl }

-- the loop over entries
abbrev pub Filled : List ℕ → List ℕ → List ℕ → ℕ → ℕ → ℕ → ℕ → Type 0
Filled m table₀ table first n i s = Fills entry_here entry_end place 2 m table₀ table first n i (2 * i) s

pub filled_start : (m t : List ℕ) (first n : ℕ) → (0 < n → entries_end m n first ≤ length m) → Filled m t t first n 0 first
filled_start m t first n h = fills_start m t first n h

module _ (m t₀ t : List ℕ) (first n i s : ℕ) (w : Filled m t₀ t first n i s) where
  module _ (h : i < n) where
    pub filled_next : entry_end m s ≤ length m
    filled_next = fills_next entries_numbered m t₀ t first n i (2 * i) s w h

    pub filled_more : (e : Span) → EntryIs m s e → (t' : List ℕ) → t' ≡ sets t (2 * i) (e.start ∷ e.len ∷ []) → Filled m t₀ t' first n (i + 1) e.tail
    filled_more e is t' f =
        let long = length_part m (s + 2) (number16 m s) filled_next in
        fills_more entries_numbered m t₀ t first n i (2 * i) s w h t' (2 * (i + 1)) e.tail (f ∙ rw (is.starts, is.size, long)) (omega arith) is.ends

  pub filled_end : 2 * n ≤ length t₀ → n ≤ i → t ≡ filled (images place (entries_here m n first)) t₀
  filled_end r h = fills_end entries_numbered m t₀ t first n i (2 * i) s w r h

-- the contract of a reader with a table: a refusal leaves it
module _ {A R : Type 0} (code : Answer A → R) (numbers : A → List ℕ) (o : Answer A) (table : List ℕ) (r : R) where
  pub refuses : (k p : ℕ) → o ≡ refused k p → r ≡ code (refused k p) → Reads code numbers o table table r
  refuses k p e f = record { answer = f ∙ sym (ap code e); table = sym (rw e) }

  pub accepts : (a : A) (t : ℕ) → o ≡ accepted a t → r ≡ code (accepted a t) → (after : List ℕ) → after ≡ filled (numbers a) table → Reads code numbers o table after r
  accepts a t e f after g = record { answer = f ∙ sym (ap code e); table = g ∙ sym (rw e) }

-- as an operation of its own: behind the guard, refusal 1
module _ {A R : Type 0} (code : Answer A → R) (numbers : A → List ℕ) (q : Reader A) (m : List ℕ) (s : ℕ) (b : Bool) (is : b ≡ addressable m s) (table : List ℕ) (r : R) where
  pub reads_here : b ≡ true → (after : List ℕ) → Reads code numbers (at q m s) table after r → Reads code numbers (operation q m s) table after r
  reads_here e after f = rw (operation_reached q m s (sym is ∙ e)) f

  pub reads_not : b ≡ false → r ≡ code (refused 1 0) → Reads code numbers (operation q m s) table table r
  reads_not e f = refuses code numbers (operation q m s) table r 1 0 (operation_guarded q m s (sym is ∙ e)) f

-- the same, where the operation opens a buffer and goes on
module _ {A R : Type 0} (code : Answer A → R) (numbers : A → List ℕ) (q : Reader A) (m : Bor (List ℕ)) (s : ℕ) (x : Result ReadableBuffer Refusal) (opens : Opens m s x) (table : List ℕ) (r : R) where
  pub reads_on : (b : ReadableBuffer) → x ≡ Ok b → (after : List ℕ) → Reads code numbers (from q b) table after r → Reads code numbers (operation q m.now s) table after r
  reads_on b is after f = rw (operation_from m s x opens b is q) at f

  pub reads_none : (e : Refusal) → x ≡ Err e → r ≡ code (refused e.number e.position) → Reads code numbers (operation q m.now s) table table r
  reads_none e is f = let (g, h) = why m s x opens e is in refuses code numbers (operation q m.now s) table r e.number e.position (rw g (operation_guarded q m.now s h)) f
