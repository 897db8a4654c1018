use Rattle.std.proofs.Common.{rules}
use Rattle.wire.proofs.Exits.{exits}
use Rattle.reissuing.proofs.Added.{front_fails, data_passes, data_fails}
use Rattle.reissuing.proofs.Reissue.check_added.Goals as goal

ruleset laws = (exits, front_fails, data_passes, data_fails, rules)

pub returns-in_err-check : goal.returns-in_err-check
returns-in_err-check c = search laws

pub returns-then-self-ne-COMMIT_LEN : goal.returns-then-self-ne-COMMIT_LEN
returns-then-self-ne-COMMIT_LEN c = search laws

pub returns : goal.returns
returns c = search laws
