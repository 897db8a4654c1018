-- The bytes that are only authenticated, worked out by hand: which pairs they hold, and in which order. Assumes nothing.
use Rattle.std.specs.Prelude.{◌≡◌, refl, Bool, true, List, [], ◌∷◌, ℕ}
use Rattle.format.specs.Read.{operation}
use Rattle.format.specs.Serialize.{every}
use Rattle.format.specs.Context.{write_empty_ec_or_write_aad}
use Rattle.format.specs.Lent.{items, part_in, in_text}
use Rattle.format.specs.Sorted.{before, put_in_order, sort_among}
use Rattle.format.specs.OnlyAuthenticated.{is_among, only_required, fitting, write_only_authenticated}
use Rattle.cases.specs.Cases.{Expected, accepts, is, opened, laid_out}

pub data Tag : Type 0 where
  -- a section at a start, a table of required keys, an output of so many bytes
  tag : List ℕ → ℕ → List ℕ → ℕ → Expected → Tag

-- The text of the required keys: in a table 1 1 is b, 0 1 is a, 0 2 is ab, 2 1 is z, 2 2 is zz; 4 1 is FF, which is no UTF-8; 5 2, 7 3 and
-- 10 4 are the characters U+E9, U+FF61 and U+10000; and 14 0 is the empty key.
abbrev text : List ℕ
text = 0x61 ∷ 0x62 ∷ 0x7A ∷ 0x7A ∷ 0xFF ∷ 0xC3 ∷ 0xA9 ∷ 0xEF ∷ 0xBD ∷ 0xA1 ∷ 0xF0 ∷ 0x90 ∷ 0x80 ∷ 0x80 ∷ []

unfoldable pub right : Tag → Bool
right (tag m s required room want) = is (λ bytes. bytes) (operation (write_only_authenticated text required room) m s) want

-- b is 1, ab is 2, a is 3
unfoldable pub unsorted : List ℕ
unsorted =
    0x00 ∷ 0x15 ∷ 0x00 ∷ 0x03
    ∷ 0x00 ∷ 0x01 ∷ 0x62 ∷ 0x00 ∷ 0x01 ∷ 0x31
    ∷ 0x00 ∷ 0x02 ∷ 0x61 ∷ 0x62 ∷ 0x00 ∷ 0x01 ∷ 0x32
    ∷ 0x00 ∷ 0x01 ∷ 0x61 ∷ 0x00 ∷ 0x01 ∷ 0x33
    ∷ []

-- four pairs with empty values: U+10000, U+FF61, U+E9 and z
unfoldable pub descending : List ℕ
descending =
    0x00 ∷ 0x1C ∷ 0x00 ∷ 0x04
    ∷ 0x00 ∷ 0x04 ∷ 0xF0 ∷ 0x90 ∷ 0x80 ∷ 0x80 ∷ 0x00 ∷ 0x00
    ∷ 0x00 ∷ 0x03 ∷ 0xEF ∷ 0xBD ∷ 0xA1 ∷ 0x00 ∷ 0x00
    ∷ 0x00 ∷ 0x02 ∷ 0xC3 ∷ 0xA9 ∷ 0x00 ∷ 0x00
    ∷ 0x00 ∷ 0x01 ∷ 0x7A ∷ 0x00 ∷ 0x00
    ∷ []

unfoldable pub tags : List Tag
tags =
    -- b, a, ab, zz and a again are required: a, ab, b, into an output that they fill
    tag unsorted 0 (1 ∷ 1 ∷ 0 ∷ 1 ∷ 0 ∷ 2 ∷ 2 ∷ 2 ∷ 0 ∷ 1 ∷ []) 21
    (accepts 23 (0x00 ∷ 0x03 ∷ 0x00 ∷ 0x01 ∷ 0x61 ∷ 0x00 ∷ 0x01 ∷ 0x33 ∷ 0x00 ∷ 0x02 ∷ 0x61 ∷ 0x62 ∷ 0x00 ∷ 0x01 ∷ 0x32 ∷ 0x00 ∷ 0x01 ∷ 0x62 ∷ 0x00 ∷ 0x01 ∷ 0x31 ∷ []))
    -- b alone
    ∷ tag unsorted 0 (1 ∷ 1 ∷ []) 8 (accepts 23 (0x00 ∷ 0x01 ∷ 0x00 ∷ 0x01 ∷ 0x62 ∷ 0x00 ∷ 0x01 ∷ 0x31 ∷ []))
    -- the order is of bytes from 00 to FF, and not of UTF-16, where U+10000 would come before U+FF61
    ∷ tag descending 0 (10 ∷ 4 ∷ 7 ∷ 3 ∷ 5 ∷ 2 ∷ 2 ∷ 1 ∷ []) 28
    (accepts 30 (0x00 ∷ 0x04 ∷ 0x00 ∷ 0x01 ∷ 0x7A ∷ 0x00 ∷ 0x00 ∷ 0x00 ∷ 0x02 ∷ 0xC3 ∷ 0xA9 ∷ 0x00 ∷ 0x00 ∷ 0x00 ∷ 0x03 ∷ 0xEF ∷ 0xBD ∷ 0xA1 ∷ 0x00 ∷ 0x00 ∷ 0x00 ∷ 0x04 ∷ 0xF0 ∷ 0x90 ∷ 0x80 ∷ 0x80 ∷ 0x00 ∷ 0x00 ∷ []))
    -- none; one that no pair has; the empty key, which begins them all
    ∷ tag unsorted 0 [] 0 (accepts 23 [])
    ∷ tag unsorted 0 (2 ∷ 2 ∷ []) 0 (accepts 23 [])
    ∷ tag unsorted 0 (14 ∷ 0 ∷ []) 0 (accepts 23 [])
    -- what is no UTF-8 selects nothing, and keeps nothing from being selected
    ∷ tag unsorted 0 (4 ∷ 1 ∷ []) 0 (accepts 23 [])
    ∷ tag unsorted 0 (4 ∷ 1 ∷ 0 ∷ 1 ∷ []) 8 (accepts 23 (0x00 ∷ 0x01 ∷ 0x00 ∷ 0x01 ∷ 0x61 ∷ 0x00 ∷ 0x01 ∷ 0x33 ∷ []))
    -- an empty context, in both forms and behind two bytes
    ∷ tag (0x00 ∷ 0x00 ∷ []) 0 (1 ∷ 1 ∷ []) 0 (accepts 2 [])
    ∷ tag (0x00 ∷ 0x02 ∷ 0x00 ∷ 0x00 ∷ []) 0 (1 ∷ 1 ∷ []) 0 (accepts 4 [])
    ∷ tag (0xFF ∷ 0xFF ∷ 0x00 ∷ 0x02 ∷ 0x00 ∷ 0x00 ∷ 0xFF ∷ []) 2 [] 0 (accepts 6 [])
    ∷ []

-- to unfold this is to unfold how pairs are selected
unfoldable pub selecting : Unit {0}
unfolding before put_in_order sort_among is_among only_required fitting write_only_authenticated write_empty_ec_or_write_aad items part_in in_text
selecting = tt

pub tags_hold : every right tags ≡ true
unfolding opened laid_out selecting is right unsorted descending tags
tags_hold = refl
