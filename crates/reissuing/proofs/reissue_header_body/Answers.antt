use Rattle.std.proofs.Common.{rules}
use Rattle.wire.proofs.Exits.{exits}
use Rattle.reissuing.proofs.Answers.{writes_not, writes_28, can_store, writes_so, writes_error}
use Rattle.reissuing.proofs.reissue_header_body.Goals as goal

ruleset laws = (exits, writes_not, writes_28, can_store, writes_so, writes_error, rules)

pub returns-in_err-draft : goal.returns-in_err-draft
returns-in_err-draft c = search laws

pub returns-then-out-size : goal.returns-then-out-size
returns-then-out-size c = search laws

pub put_body-requires : goal.put_body-requires
put_body-requires c = search laws

pub returns : goal.returns
returns c = search laws
