-- 'A body read by the either-version reader and written again, into an output long enough, then gives the bytes consumed', of the calls of
-- `read_header_body` and `write_header_body`, by their contracts. Proved in proofs/WrittenBack. Assumes nothing.
use Rattle.std.specs.Prelude.{ℕ, ◌*◌, ◌-◌, ◌≤◌, ◌≡◌, List, length, take, Ok}
use Rattle.format.specs.Serialize.{Bytes}
use Rattle.format.specs.Context.{Mode}
use Rattle.format.specs.Keys.{Max}
use Rattle.format.specs.Body.{either}
use Rattle.format.specs.Lent.{bytes_at, filled}
use Rattle.body_reader.specs.declared.HeaderBody.{HeaderBody}
use Rattle.promises.specs.Reader.{Call, reading, Meets}
use Rattle.promises.specs.Writer.{Write, MeetsWriter}

-- The writer is handed what the reader gave: the record's numbers with their mark, the bytes at its two places, and the entries that were
-- filled of both tables, with the message as their text.
pub record Hands (m : List ℕ) (c : Call) (x : HeaderBody) (w : Write) : Type 0 where
  pub numbers : w.numbers ≡ x.numbers
  pub messageId : w.messageId ≡ bytes_at m x.messageIdStart x.messageIdLen
  pub suiteData : w.suiteData ≡ bytes_at m x.suiteDataStart x.suiteDataLen
  pub text : w.text ≡ m
  pub pairs : w.pairs ≡ take (4 * x.pairCount) c.pairs'
  pub keys : w.keys ≡ take (6 * x.keyCount) c.keys'

pub record WrittenBackPromise : Type 0 where
  -- tolerant or strict, from any start; the rest of the output keeps
  pub exactly : (mode : Mode) (max : Max) (m : List ℕ) (s : ℕ) (c : Call) → Bytes m → Meets (reading either mode max m s c) c
      → (x : HeaderBody) (tail : ℕ) → c.answer ≡ Ok (record { value = x; tail = tail }) → (w : Write) → MeetsWriter w → Hands m c x w → tail - s ≤ length w.before
      → (w.answer ≡ Ok (tail - s)) × (w.after ≡ filled (bytes_at m s (tail - s)) w.before)
