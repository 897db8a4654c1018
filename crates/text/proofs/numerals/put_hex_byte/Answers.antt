use Rattle.std.proofs.Common.{rules}
use Rattle.text.proofs.Hex.{two_digits}
use Rattle.text.proofs.numerals.put_hex_byte.Goals as goal

ruleset laws = (two_digits, rules)

pub returns : goal.returns
returns c = search laws
