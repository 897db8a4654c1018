use Rattle.std.proofs.Common.{rules}
use Rattle.only_authenticated.proofs.PutLaws.{putting_room, putting_more, putting_end}
use Rattle.only_authenticated.proofs.putting.Marked.put.Goals as goal

ruleset laws = (putting_room, putting_more, putting_end, rules)

pub put_one-at-requires : goal.put_one-at-requires
put_one-at-requires c = search laws

pub loop-i-preserved : goal.loop-i-preserved
loop-i-preserved c = search laws

pub returns : goal.returns
returns c = search laws
