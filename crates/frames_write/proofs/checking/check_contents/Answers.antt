use Rattle.std.proofs.Common.{rules}
use Rattle.frames_write.proofs.Contents.{contents_start, contents_37, contents_more, contents_last, contents_35, contents_pass}
use Rattle.frames_write.proofs.checking.check_contents.Goals as goal

ruleset laws = (contents_start, contents_37, contents_more, rules)

pub returns-then-table-i : goal.returns-then-table-i
returns-then-table-i c = contents_37 _ _ _ c.loop-i.invariant c.loop-i-test.true (search rules) _ (search rules)

pub loop-i-preserved : goal.loop-i-preserved
loop-i-preserved c = contents_more _ _ _ c.loop-i.invariant c.loop-i-test.true (search rules)

pub returns-then-frame-table : goal.returns-then-frame-table
returns-then-frame-table c = contents_35 _ _ (contents_last _ _ _ c.loop-i.invariant c.loop-i-test.false) (search rules) _ (search rules)

pub returns : goal.returns
returns c = contents_pass _ _ (contents_last _ _ _ c.loop-i.invariant c.loop-i-test.false) (search rules) _ (search rules)
