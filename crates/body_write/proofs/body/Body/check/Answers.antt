use Rattle.std.proofs.Common.{rules}
use Rattle.wire.proofs.Exits.{exits}
use Rattle.body_write.proofs.BodyChecks.{body_opening, body_pairs, body_form, body_keys, body_closing}
use Rattle.body_write.proofs.body.Body.check.Goals as goal

ruleset laws = (exits, body_opening, body_pairs, body_form, body_keys, body_closing, rules)

pub returns-in_err-check : goal.returns-in_err-check
returns-in_err-check c = search laws

pub returns-in_err-check_pairs : goal.returns-in_err-check_pairs
returns-in_err-check_pairs c = search laws

pub returns-in_err-check_form : goal.returns-in_err-check_form
returns-in_err-check_form c = search laws

pub returns-in_err-check_keys : goal.returns-in_err-check_keys
returns-in_err-check_keys c = search laws

pub returns : goal.returns
returns c = search laws
