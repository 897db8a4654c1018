-- What the body writer is lent, as the definition has it. Assumes nothing.
use Rattle.std.specs.Prelude.{List, ℕ}
use Rattle.format.specs.Lent.{BodyToWrite}
use Rattle.fields.specs.Codes.{form_of, form_named}
use Rattle.fields.specs.declared.BodyNumbers.{BodyNumbers}

unfoldable pub body_to_write : BodyNumbers → List ℕ → List ℕ → List ℕ → List ℕ → List ℕ → BodyToWrite
body_to_write n messageId suiteData text pairs keys =
    record {
      version = n.version;
      messageType = n.messageType;
      suite = n.suite;
      contentType = n.contentType;
      headerIvLength = n.headerIvLength;
      frameLength = n.frameLength;
      form = form_of (form_named n.form);
      messageId = messageId;
      suiteData = suiteData;
      text = text;
      pairTable = pairs;
      keyTable = keys;
    }
