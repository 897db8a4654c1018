-- The place behind what was read, of the code's answer. Assumes nothing.
use mathlib.Core.Path.{◌≡◌, ap, ◌∙◌}
use Prim.Native.Nat.{ℕ}
use Rattle.std.specs.Prelude.{Result, Ok, Err}
use Rattle.format.specs.Read.{Reader, Answer, accepted, refused, at}
use Rattle.wire.specs.Codes.{because}
use Rattle.wire.specs.declared.refusals.Refusal.{Refusal}
use Rattle.wire.specs.Buffer.{from, IsAt}
use Rattle.wire.specs.declared.buffer.ReadableBuffer.{ReadableBuffer}
use Rattle.wire.proofs.BufferLaws.{from_place}
use Rattle.entries.specs.Codes.{next_of}

pub record Went {A : Type 0} (o : Answer A) (t : ℕ) : Type 0 where
  pub item : A
  pub is : o ≡ accepted item t

module _ {A : Type 0} where
  pub next_got : (o : Answer A) (x : Result ℕ Refusal) → x ≡ next_of o → (t : ℕ) → x ≡ Ok t → Went o t
  next_got (accepted a u) x e t b = record { item = a; is = ap (accepted a) (cc) }
  next_got (refused k p) x e t b = cc

  pub next_no : (o : Answer A) (x : Result ℕ Refusal) → x ≡ next_of o → (q : Refusal) → x ≡ Err q → o ≡ refused q.number q.position
  next_no (accepted a u) x e q b = cc
  next_no (refused k p) x e q b = let z : because k p ≡ q = cc in rw (← z)

-- what is read from another place of a buffer
pub next_place : {A : Type 0} {b c : ReadableBuffer} {t : ℕ} → IsAt b t c → (r : Reader A) (x : Result ℕ Refusal) → x ≡ next_of (from r c) → x ≡ next_of (at r b.bytes.now t)
next_place is r x e = e ∙ ap next_of (from_place is r)
