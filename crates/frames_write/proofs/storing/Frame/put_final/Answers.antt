use Rattle.std.proofs.Common.{rules}
use Rattle.frames_write.proofs.Stores.{final_mark_room, final_number, final_iv, final_sized, final_stored}
use Rattle.frames_write.proofs.storing.Frame.put_final.Goals as goal

ruleset laws = (final_mark_room, final_number, final_iv, final_sized, final_stored, rules)

pub write_uint32-requires : goal.write_uint32-requires
write_uint32-requires c = search laws

pub write_uint32-requires-2 : goal.write_uint32-requires-2
write_uint32-requires-2 c = search laws

pub put-size-requires : goal.put-size-requires
put-size-requires c = search laws

pub put_sized-requires : goal.put_sized-requires
put_sized-requires c = search laws

pub returns : goal.returns
returns c = search laws
