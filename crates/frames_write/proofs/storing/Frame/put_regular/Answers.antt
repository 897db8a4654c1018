use Rattle.std.proofs.Common.{rules}
use Rattle.frames_write.proofs.Stores.{regular_number, regular_iv, regular_sealed, regular_puts}
use Rattle.frames_write.proofs.storing.Frame.put_regular.Goals as goal

ruleset laws = (regular_number, regular_iv, regular_sealed, regular_puts, rules)

pub write_uint32-requires : goal.write_uint32-requires
write_uint32-requires c = search laws

pub put-content-requires : goal.put-content-requires
put-content-requires c = search laws

pub put_sealed-requires : goal.put_sealed-requires
put_sealed-requires c = search laws

pub returns : goal.returns
returns c = search laws
