use Rattle.std.proofs.Common.{rules}
use Rattle.wire.proofs.Exits.{exits}
use Rattle.drafts.proofs.Answers.{mends_error, drop_not}
use Rattle.drafts.proofs.drop_encrypted_data_keys.Goals as goal

ruleset laws = (exits, mends_error, drop_not, rules)

pub returns-in_err-body : goal.returns-in_err-body
returns-in_err-body c = search laws
