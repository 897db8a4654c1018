use Rattle.std.proofs.Common.{rules}
use Rattle.text.proofs.LineLaws.{field_tab, field_room, field_put}
use Rattle.text.proofs.Text.put_decimal_field.Goals as goal

ruleset laws = (field_tab, field_room, field_put, rules)

pub put_tab-requires : goal.put_tab-requires
put_tab-requires c = search laws

pub put_decimal-requires : goal.put_decimal-requires
put_decimal-requires c = search laws

pub returns : goal.returns
returns c = search laws
