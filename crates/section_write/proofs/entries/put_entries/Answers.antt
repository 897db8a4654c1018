use Rattle.std.proofs.Common.{rules, refl}
use Rattle.section_write.proofs.Putting.{putting_start, putting_short, putting_room, putting_more, putting_end}
use Rattle.checks.proofs.Parts.{part_here, short_here}
use Rattle.section_write.proofs.entries.put_entries.Goals as goal

ruleset laws = (putting_start, putting_end, part_here, rules)

pub part-requires : goal.part-requires
part-requires c = let here = part_here _ _ c.requires.0 in here _ _ (search rules) refl

pub put_entry-at-requires : goal.put_entry-at-requires
put_entry-at-requires c =
    let there = part_here _ _ c.requires.0 c.loop-i.i _ c.loop-i-test.true refl in
    let fewer = short_here _ c.requires.1 c.loop-i.i _ c.loop-i-test.true refl in
    search (putting_short, putting_room, rules)

pub loop-i-preserved : goal.loop-i-preserved
loop-i-preserved c =
    let there = part_here _ _ c.requires.0 c.loop-i.i _ c.loop-i-test.true refl in
    putting_more _ _ _ _ _ _ _ _ c.loop-i.invariant c.loop-i-test.true there c.part.result.now (search rules) _ (search rules) _ (search rules)

pub returns : goal.returns
returns c = search laws
