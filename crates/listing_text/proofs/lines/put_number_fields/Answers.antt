use Rattle.listing_text.specs.Listing.{number_fields}
use Rattle.text.proofs.Puts.{room_first, room_second, room_last, put_three}
use Rattle.listing_text.proofs.lines.put_number_fields.Goals as goal

pub put_hex_field-requires : goal.put_hex_field-requires
unfolding number_fields
put_hex_field-requires c = rw c.to_be_bytes.ensures (room_first _ _ _ c.requires)

pub put_hex_field-requires-2 : goal.put_hex_field-requires-2
unfolding number_fields
put_hex_field-requires-2 c = rw c.to_be_bytes-2.ensures (room_second _ _ _ _ _ (rw c.to_be_bytes.ensures at c.put_hex_field.ensures) c.requires)

pub put_hex_field-requires-3 : goal.put_hex_field-requires-3
unfolding number_fields
put_hex_field-requires-3 c =
    rw c.to_be_bytes-3.ensures
    (room_last _ _ _ _ (rw c.to_be_bytes-2.ensures at c.put_hex_field-2.ensures) _ _ (rw c.to_be_bytes.ensures at c.put_hex_field.ensures) c.requires)

pub returns : goal.returns
unfolding number_fields
returns c =
    put_three _ _ _ _ _ _ _ (rw c.to_be_bytes.ensures at c.put_hex_field.ensures) (rw c.to_be_bytes-2.ensures at c.put_hex_field-2.ensures) (rw c.to_be_bytes-3.ensures at c.put_hex_field-3.ensures)
