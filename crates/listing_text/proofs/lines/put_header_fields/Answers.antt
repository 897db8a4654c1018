use Rattle.text.proofs.Puts.{room_first, room_second, room_last, put_three}
use Rattle.listing_text.proofs.lines.put_header_fields.Goals as goal

pub put_decimal_field-requires : goal.put_decimal_field-requires
put_decimal_field-requires c = room_first _ _ _ c.requires

pub put_number_fields-requires : goal.put_number_fields-requires
put_number_fields-requires c = room_second _ _ _ _ _ c.put_decimal_field.ensures c.requires

pub put_decimal_fields-requires : goal.put_decimal_fields-requires
put_decimal_fields-requires c = room_last _ _ _ _ c.put_number_fields.ensures _ _ c.put_decimal_field.ensures c.requires

pub returns : goal.returns
returns c = put_three _ _ _ _ _ _ _ c.put_decimal_field.ensures c.put_number_fields.ensures c.put_decimal_fields.ensures
