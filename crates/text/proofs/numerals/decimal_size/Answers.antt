use Rattle.std.proofs.Common.{rules}
use Rattle.text.proofs.Decimals.{decimal_std, decimal_within}
use Rattle.text.proofs.numerals.decimal_size.Goals as goal

ruleset laws = (decimal_std, decimal_within, rules)

pub returns : goal.returns
returns c = search laws
