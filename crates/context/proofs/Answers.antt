-- What was found, of the code's answer. Assumes nothing.
use mathlib.Core.Path.{◌≡◌, refl, ap}
use Prim.Native.Nat.{ℕ}
use lib.ListN.{length}
use Rattle.std.specs.Prelude.{Result, Ok, Err}
use Rattle.format.specs.Read.{Answer, accepted, refused}
use Rattle.format.specs.Serialize.{Part}
use Rattle.wire.specs.Codes.{because}
use Rattle.wire.specs.declared.refusals.Refusal.{Refusal}
use Rattle.context.specs.Codes.{found_of}
use Rattle.context.specs.declared.Place.{Place}

pub record HadValue (o : Answer Part) (v : Place) : Type 0 where
  pub item : Part
  pub tail : ℕ
  pub is : o ≡ accepted item tail
  pub from : item.start ≡ v.start
  pub long : length item.bytes ≡ v.len

pub found_got : (o : Answer Part) (x : Result Place Refusal) → x ≡ found_of o → (v : Place) → x ≡ Ok v → HadValue o v
found_got (accepted p u) x e v b =
    let z : ◌≡◌ {A = Place} (record { start = p.start; len = length p.bytes }) v = cc in
    record { item = p; tail = u; is = refl; from = ap (λ w. w.start) z; long = ap (λ w. w.len) z }
found_got (refused k p) x e v b = cc

pub found_no : (o : Answer Part) (x : Result Place Refusal) → x ≡ found_of o → (q : Refusal) → x ≡ Err q → o ≡ refused q.number q.position
found_no (accepted w u) x e q b = cc
found_no (refused k p) x e q b = let z : because k p ≡ q = cc in rw (← z)
