use Rattle.std.proofs.Common.{rules}
use Rattle.utf8.proofs.Utf8Laws.{passed_none, passed_on, char_none, char_some, all_passed}
use Rattle.utf8.proofs.is_utf8.Goals as goal

ruleset laws = (passed_none, passed_on, char_none, char_some, all_passed, rules)

pub returns : goal.returns
returns c = search laws
