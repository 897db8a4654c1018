use Rattle.std.proofs.Common.{rules}
use Rattle.wire.proofs.Exits.{exits}
use Rattle.reissuing.proofs.Tested.{not_read, not_20, not_added, all_passed}
use Rattle.reissuing.proofs.Reissue.test_draft.Goals as goal

ruleset laws = (exits, not_read, not_20, not_added, all_passed, rules)

pub returns-in_err-draft : goal.returns-in_err-draft
returns-in_err-draft c = search laws

pub returns-then-not-frame_fits : goal.returns-then-not-frame_fits
returns-then-not-frame_fits c = search laws

pub returns-in_err-check_added : goal.returns-in_err-check_added
returns-in_err-check_added c = search laws

pub returns : goal.returns
returns c = search laws
