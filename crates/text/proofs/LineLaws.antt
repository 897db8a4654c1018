-- Fields and lines: a tab before a field; a word, fields and the end make a line. Assumes nothing.
use mathlib.Core.Path.{◌≡◌}
use mathlib.Core.List.{List, [], ◌∷◌, ◌++◌}
use Prim.Native.Nat.{ℕ, ◌+◌}
use lib.ListN.{get_or}
use Rattle.format.specs.Lent.{bytes_at, part_in}
use Rattle.text.specs.declared.Text.{Text}
use Rattle.text.specs.Text.{hex, field, line}
use Rattle.text.specs.Put.{Room, Put, There, PartThere, part_field}
use Rattle.text.proofs.Puts.{room_first, room_next, put_then, room_last, put_three}

module _ (text : List ℕ) (t : Text) where
  pub field_tab : Room t (field text) → Room t (0x09 ∷ [])
  unfolding field
  field_tab h = room_first (0x09 ∷ []) text t h

  module _ (u : Text) (p : Put (0x09 ∷ []) t u) where
    pub field_room : Room t (field text) → Room u text
    unfolding field
    field_room h = room_next (0x09 ∷ []) text t u p h

    pub field_put : (v : Text) → Put text u v → Put (field text) t v
    unfolding field
    field_put v x = put_then (0x09 ∷ []) text t u p v x

pub line_word : (word fields : List ℕ) (t : Text) → Room t (line word fields) → Room t word
unfolding line
line_word word fields t h = room_first word (fields ++ (0x0A ∷ [])) t h

pub line_fields : (word fields : List ℕ) (t u : Text) → Put word t u → Room t (line word fields) → Room u fields
unfolding line
line_fields word fields t u p h = room_first fields (0x0A ∷ []) u (room_next word (fields ++ (0x0A ∷ [])) t u p h)

module _ (fields : List ℕ) (u v : Text) (x : Put fields u v) (word : List ℕ) (t : Text) (p : Put word t u) where
  pub line_end : Room t (line word fields) → Room v (0x0A ∷ [])
  unfolding line
  line_end h = room_last (0x0A ∷ []) fields u v x word t p h

  pub line_put : (w : Text) → Put (0x0A ∷ []) v w → Put (line word fields) t w
  unfolding line
  line_put w y = put_three word fields (0x0A ∷ []) t u v w p x y

-- a part of a table
module _ (m table : List ℕ) (j start n : ℕ) (es : start ≡ get_or table j 0) (en : n ≡ get_or table (j + 1) 0) where
  pub part_there : PartThere m table j → There m start n
  part_there p = rw (es, en) p.bytes

  module _ (bytes : List ℕ) (e : bytes ≡ bytes_at m start n) (t : Text) where
    pub part_room : Room t (part_field m table j) → Room t (field (hex bytes))
    unfolding part_field part_in
    part_room h = rw (e, es, en) h

    pub part_put : (u : Text) → Put (field (hex bytes)) t u → Put (part_field m table j) t u
    unfolding part_field part_in
    part_put u p = rw (e, es, en) at p
