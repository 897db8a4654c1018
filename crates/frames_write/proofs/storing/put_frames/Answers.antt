use Rattle.std.proofs.Common.{rules}
use Rattle.frames_write.proofs.Putting.{putting_start, putting_there, putting_room, putting_more, putting_last, final_room, putting_end}
use Rattle.frames_write.proofs.storing.put_frames.Goals as goal

pub invariant_of-parts : goal.invariant_of-parts
invariant_of-parts c = record { inside = c.requires.inside }

pub loop-i-init : goal.loop-i-init
loop-i-init c = putting_start _ _ _ c.requires

pub at-frame-requires : goal.at-frame-requires
at-frame-requires c = putting_there _ _ _ _ _ _ c.loop-i.invariant c.requires.inside

pub put_regular-at-requires : goal.put_regular-at-requires
put_regular-at-requires c = putting_room _ _ _ _ _ _ c.loop-i.invariant c.loop-i-test.true _ c.at-frame.ensures _

pub loop-i-preserved : goal.loop-i-preserved
loop-i-preserved c = putting_more _ _ _ _ _ _ c.loop-i.invariant c.loop-i-test.true _ c.at-frame.ensures _ _ (search rules)

pub at-frame-requires-2 : goal.at-frame-requires-2
at-frame-requires-2 c = putting_there _ _ _ _ _ _ (putting_last _ _ _ _ _ _ c.loop-i.invariant c.loop-i-test.false) c.requires.inside

pub put_final-requires : goal.put_final-requires
put_final-requires c = final_room _ _ _ _ _ (putting_last _ _ _ _ _ _ c.loop-i.invariant c.loop-i-test.false) _ c.at-frame-2.ensures

pub returns : goal.returns
returns c = putting_end _ _ _ _ _ (putting_last _ _ _ _ _ _ c.loop-i.invariant c.loop-i-test.false) _ c.at-frame-2.ensures _ c.put_final.ensures
