use Rattle.std.proofs.Common.{rules}
use Rattle.wire.proofs.Exits.{exits}
use Rattle.drafts.proofs.Answers.{mends_error}
use Rattle.drafts.proofs.Behind.{add_refused, new_short, add_28, has_room, add_whole}
use Rattle.drafts.proofs.adding.EncryptedDataKey.add.Goals as goal

ruleset laws = (exits, mends_error, add_refused, new_short, add_28, has_room, add_whole, rules)

pub returns-in_err-check : goal.returns-in_err-check
returns-in_err-check c = search laws

pub size-size-requires : goal.size-size-requires
size-size-requires c = search laws

pub returns-then-m-draft : goal.returns-then-m-draft
returns-then-m-draft c = search laws

pub put_behind-requires : goal.put_behind-requires
put_behind-requires c = search laws

pub returns : goal.returns
returns c = search laws
