-- The text of a header, as the code has it. Assumes nothing.
use Rattle.std.specs.Prelude.{List, ℕ, ◌++◌}
use Rattle.text.specs.Items.{lines_of}
use Rattle.listing_text.specs.Listing.{word_pair, word_key}
use Rattle.listing_text.specs.Answers.{front_text, data_text}
use Rattle.listing_text.specs.declared.header.Header.{Header}

abbrev pub front_of : Header → List ℕ
front_of h = front_text h.message.now h.body h.tail

abbrev pub tables_of : Header → List ℕ
tables_of h = lines_of h.pairs word_pair ++ lines_of h.keys word_key

abbrev pub data_of : Header → List ℕ
data_of h = data_text h.message.now h.body.numbers.version h.body.suiteDataStart h.body.suiteDataLen

abbrev pub text_of : Header → List ℕ
text_of h = front_of h ++ (tables_of h ++ data_of h)
