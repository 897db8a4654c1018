use Rattle.std.proofs.Common.{rules}
use Rattle.frames_write.proofs.Stores.{sized_length, sized_fits, sized_sealed, sized_puts}
use Rattle.frames_write.proofs.storing.Frame.put_sized.Goals as goal

ruleset laws = (sized_length, sized_fits, sized_sealed, sized_puts, rules)

pub write_uint32-requires : goal.write_uint32-requires
write_uint32-requires c = search laws

pub put_sealed-requires : goal.put_sealed-requires
put_sealed-requires c = search laws

pub returns : goal.returns
returns c = search laws
