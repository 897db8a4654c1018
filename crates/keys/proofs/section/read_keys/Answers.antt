use Rattle.std.proofs.Common.{rules}
use Rattle.wire.proofs.Exits.{exits}
use Rattle.entries.proofs.Walk.{walk_start, walk_near, walk_end, walk_stop, walk_more}
use Rattle.keys.proofs.Known.{key_kind}
use Rattle.entries.proofs.Answers.{next_place}
use Rattle.keys.proofs.section.read_keys.Goals as goal

ruleset laws = (exits, walk_start, walk_near, walk_end, walk_stop, walk_more, key_kind, rules)

pub loop-init : goal.loop-init
loop-init c = search laws

pub returns-in_err-s : goal.returns-in_err-s
returns-in_err-s c = let key = next_place c.at.ensures _ _ c.read_key.ensures in search laws

pub loop-preserved : goal.loop-preserved
loop-preserved c = let key = next_place c.at.ensures _ _ c.read_key.ensures in search laws

pub returns : goal.returns
returns c = search laws
