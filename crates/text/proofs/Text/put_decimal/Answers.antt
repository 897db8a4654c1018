use Rattle.std.proofs.Common.{rules}
use Rattle.text.proofs.Decimals.{decimal_std}
use Rattle.text.proofs.Text.put_decimal.Goals as goal

ruleset laws = (decimal_std, rules)

pub put_word-requires : goal.put_word-requires
put_word-requires c = search laws

pub returns : goal.returns
returns c = search laws
