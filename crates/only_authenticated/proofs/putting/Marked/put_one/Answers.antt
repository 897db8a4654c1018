use Rattle.std.proofs.Common.{rules}
use Rattle.only_authenticated.proofs.PutLaws.{none_behind, none_stored, some_room, some_behind, some_stored}
use Rattle.only_authenticated.proofs.putting.Marked.put_one.Goals as goal

ruleset laws = (none_behind, none_stored, some_room, some_behind, some_stored, rules)

pub returns-then-not-self-i : goal.returns-then-not-self-i
returns-then-not-self-i c = search laws

pub put_pair-requires : goal.put_pair-requires
put_pair-requires c = search laws

pub returns : goal.returns
returns c = search laws
