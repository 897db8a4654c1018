-- How a text comes into the output: what a step asks, and what it leaves. Assumes nothing.
use Rattle.std.specs.Prelude.{◌≡◌, List, ℕ, ◌+◌, ◌*◌, ◌≤◌, length, get_or}
use Rattle.format.specs.Serialize.{images}
use Rattle.format.specs.Lent.{bytes_at, items, here, part_in}
use Rattle.format.specs.Demand3.{Each}
use Rattle.wire.specs.Stored.{stored}
use Rattle.text.specs.Text.{hex, field, line}
use Rattle.text.specs.declared.Text.{Text}

-- the added text has room in the output, behind what was put before
pub record Room (t : Text) (added : List ℕ) : Type 0 where
  pub fits : t.at + length added ≤ length t.out.now

-- it stands there, the text ends behind it, and nothing else of the output, which is still the same, changed
pub record Put (added : List ℕ) (before after : Text) : Type 0 where
  pub same_output : after.out.ghost_name ≡ before.out.ghost_name
  pub fits : Room before added
  pub ends : after.at ≡ before.at + length added
  pub holds : after.out.now ≡ stored before.out.now before.at added

-- the message has that many bytes at the start
pub record There (m : List ℕ) (start len : ℕ) : Type 0 where
  pub whole : length (bytes_at m start len) ≡ len

-- the same of the part whose place stands at j of the table
pub record PartThere (m table : List ℕ) (j : ℕ) : Type 0 where
  pub numbers : j + 2 ≤ length table
  pub bytes : There m (get_or table j 0) (get_or table (j + 1) 0)

-- what holds at each of n places, from j on, that lie k apart
pub record All (P : ℕ → Type 0) (k n j : ℕ) : Type 0 where
  pub each : Each P (items here k n j)

-- the texts made at those places, one behind the other
abbrev pub texts : (ℕ → List ℕ) → ℕ → ℕ → ℕ → List ℕ
texts g k n j = images g (items here k n j)

-- the part whose place stands at j, as a field
unfoldable pub part_field : List ℕ → List ℕ → ℕ → List ℕ
part_field m table j = field (hex (part_in m table j))

-- the item of n parts whose places begin at j, as a line
abbrev pub item_line : List ℕ → List ℕ → List ℕ → ℕ → ℕ → List ℕ
item_line m table word n j = line word (texts (part_field m table) 2 n j)

-- a line for each of the items of n parts
abbrev pub items_text : List ℕ → List ℕ → List ℕ → ℕ → ℕ → List ℕ
items_text m table word n count = texts (item_line m table word n) (2 * n) count 0

pub record ItemThere (m table : List ℕ) (n j : ℕ) : Type 0 where
  pub numbers : j + 2 * n ≤ length table
  pub parts : All (PartThere m table) 2 n j
