-- The contract of mending a draft, and how one stands at the front of a buffer. Assumes nothing.
use Rattle.std.specs.Prelude.{◌≡◌, List, map, ℕ, ◌+◌, ◌≤◌, ◌<◌, length, Result, Ok, Err}
use Rattle.format.specs.Read.{Answer, accepted, refused, operation}
use Rattle.format.specs.Serialize.{Bytes}
use Rattle.format.specs.Fields.{HeaderBody, fields_of, key_of}
use Rattle.format.specs.Mending.{read_draft, buffer_after}
use Rattle.format.specs.Mended.{Apart}
use Rattle.format.specs.Places.{keys_here, keys_end}
use Rattle.wire.specs.declared.refusals.Refusal.{Refusal}
use Rattle.body_measure.specs.declared.Measurement.{Measurement}

-- the answer is the definition's, and so is the buffer afterwards
pub record Mends {R : Type 0} (code : Answer (List ℕ) → R) (o : Answer (List ℕ)) (before after : List ℕ) (r : R) : Type 0 where
  pub answer : r ≡ code o
  pub buffer : after ≡ buffer_after o before

-- a draft stands at the front of m
pub record Stands (m : List ℕ) (d : Measurement) : Type 0 where
  pub body : HeaderBody
  pub reads : operation read_draft m 0 ≡ accepted body d.tail
  pub apart : Apart m body d.keysStart d.keysEnd d.tail
  pub are : (fields_of body).keys ≡ map key_of (keys_here m d.keyCount (d.keysStart + 2))
  pub long : length body.keys ≡ d.keyCount
  pub inside : keys_end m d.keyCount (d.keysStart + 2) ≤ length m
  pub bytes : Bytes m
  pub counted : d.keyCount < 65536
  pub few : length m < 4294967296

-- the contract of reading one
pub record Found (m : List ℕ) (r : Result Measurement Refusal) : Type 0 where
  pub refuses : (q : Refusal) → r ≡ Err q → operation read_draft m 0 ≡ refused q.number q.position
  pub accepts : (d : Measurement) → r ≡ Ok d → Stands m d
