use Rattle.std.proofs.Common.{rules}
use Rattle.wire.proofs.Exits.{exits}
use Rattle.drafts.proofs.Answers.{mends_error, add_not}
use Rattle.drafts.proofs.add_encrypted_data_key.Goals as goal

ruleset laws = (exits, mends_error, add_not, rules)

pub returns-in_err-body : goal.returns-in_err-body
returns-in_err-body c = search laws
