-- The code's answer, of what a body reader answers, and the contract of reading. Assumes nothing.
use Rattle.std.specs.Prelude.{◌≡◌, List, ℕ, length, Result}
use Rattle.format.specs.Read.{Answer}
use Rattle.format.specs.Fields.{form_number}
use Rattle.format.specs.Fields.{HeaderBody as BodyRead}
use Rattle.format.specs.Lent.{pair_table_after, key_table_after}
use Rattle.wire.specs.Codes.{read_of}
use Rattle.wire.specs.declared.refusals.Refusal.{Refusal}
use Rattle.wire.specs.declared.SuccessfulRead.{SuccessfulRead}
use Rattle.fields.specs.declared.BodyNumbers.{BodyNumbers}
use Rattle.ends.specs.declared.Opening.{Opening}
use Rattle.ends.specs.declared.Closing.{Closing}
use Rattle.body_reader.specs.declared.HeaderBody.{HeaderBody}

-- a body's numbers and its mark, the places of its ID and suite data, and how many pairs and keys it has
abbrev pub numbers_code : BodyRead → BodyNumbers
numbers_code b =
    record {
      version = b.version;
      messageType = b.messageType;
      suite = b.suite;
      contentType = b.contentType;
      headerIvLength = b.headerIvLength;
      frameLength = b.frameLength;
      form = form_number b.form;
    }

abbrev pub body_code : BodyRead → HeaderBody
body_code b =
    record {
      numbers = numbers_code b;
      messageIdStart = b.messageId.start;
      messageIdLen = length b.messageId.bytes;
      pairCount = length b.pairs;
      keyCount = length b.keys;
      suiteDataStart = b.suiteData.start;
      suiteDataLen = length b.suiteData.bytes;
    }

abbrev pub body_of : Answer BodyRead → Result (SuccessfulRead HeaderBody) Refusal
body_of = read_of body_code

-- the contract of a body reader: its answer is the definition's, and so are both tables afterwards
pub record ReadsBody (o : Answer BodyRead) (pairs pairs' keys keys' : List ℕ) (r : Result (SuccessfulRead HeaderBody) Refusal) : Type 0 where
  pub answer : r ≡ body_of o
  pub pairTable : pairs' ≡ pair_table_after o pairs
  pub keyTable : keys' ≡ key_table_after o keys

-- a body's ends, its mark as a number, and its counts, put together
abbrev numbers_with : Opening → ℕ → Closing → BodyNumbers
numbers_with o form c =
    record {
      version = o.version;
      messageType = o.messageType;
      suite = o.suite;
      contentType = c.contentType;
      headerIvLength = c.headerIvLength;
      frameLength = c.frameLength;
      form = form;
    }

abbrev pub body_with : Opening → ℕ → ℕ → ℕ → Closing → HeaderBody
body_with o form pairCount keyCount c =
    record {
      numbers = numbers_with o form c;
      messageIdStart = o.messageIdStart;
      messageIdLen = o.messageIdLen;
      pairCount = pairCount;
      keyCount = keyCount;
      suiteDataStart = c.suiteDataStart;
      suiteDataLen = c.suiteDataLen;
    }
