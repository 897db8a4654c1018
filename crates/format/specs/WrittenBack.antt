-- 'A body read by the either-version reader and written again, into an output long enough, then gives the bytes consumed', tolerant or
-- strict, from any start. It is proved in proofs/WrittenBack. Assumes nothing.
use Rattle.std.specs.Prelude.{◌≡◌, List, ℕ, ◌*◌, ◌-◌, ◌≤◌, length, take}
use Rattle.format.specs.Read.{accepted, operation}
use Rattle.format.specs.Serialize.{Bytes}
use Rattle.format.specs.Fields.{HeaderBody}
use Rattle.format.specs.Context.{Mode}
use Rattle.format.specs.Keys.{Max}
use Rattle.format.specs.Body.{either, read_header_body}
use Rattle.format.specs.Lent.{bytes_at, filled, pair_table_after, key_table_after, BodyToWrite, writing_header_body, written, output_after}

-- The record as the writer is handed it: its numbers and its mark, the ID and the suite data from their places, and, of the tables, the
-- entries that the reader filled, with the message as their text.
unfoldable pub again : List ℕ → HeaderBody → List ℕ → List ℕ → BodyToWrite
again m b pairTable keyTable =
    record {
      version = b.version;
      messageType = b.messageType;
      suite = b.suite;
      contentType = b.contentType;
      headerIvLength = b.headerIvLength;
      frameLength = b.frameLength;
      form = b.form;
      messageId = bytes_at m b.messageId.start (length b.messageId.bytes);
      suiteData = bytes_at m b.suiteData.start (length b.suiteData.bytes);
      text = m;
      pairTable = take (4 * length b.pairs) pairTable;
      keyTable = take (6 * length b.keys) keyTable;
    }

-- a body that was read from s to t, and is written again
pub record WritesBack (m : List ℕ) (s : ℕ) (b : HeaderBody) (t : ℕ) : Type 0 where
  -- there were t - s bytes
  pub forward : s ≤ t
  pub within : t ≤ length m
  -- the output gets those bytes, and keeps what lies behind them, whatever both tables held before they were filled
  pub back : (pairTable keyTable out : List ℕ) → t - s ≤ length out
      → let w = writing_header_body (again m b (pair_table_after (accepted b t) pairTable) (key_table_after (accepted b t) keyTable)) in
      (written w out ≡ accepted tt (t - s)) × (output_after w out ≡ filled (bytes_at m s (t - s)) out)

pub record WrittenBack : Type 0 where
  pub exactly : (mode : Mode) (max : Max) (pairRoom keyRoom : ℕ) (m : List ℕ) (s : ℕ) → Bytes m
      → (b : HeaderBody) (t : ℕ) → operation (read_header_body either mode max pairRoom keyRoom) m s ≡ accepted b t → WritesBack m s b t
