use Rattle.std.proofs.Common.{rules}
use Rattle.utf8.proofs.Utf8Laws.{ascii_alone, ascii_bytes, ascii_blocks}
use Rattle.utf8.proofs.ascii_end.Goals as goal

ruleset laws = (ascii_alone, ascii_bytes, ascii_blocks, rules)

pub returns-then-m-from-lt16 : goal.returns-then-m-from-lt16
returns-then-m-from-lt16 c = search laws

pub returns-then-m-from-ge128 : goal.returns-then-m-from-ge128
returns-then-m-from-ge128 c = search laws

pub returns-then-block_high : goal.returns-then-block_high
returns-then-block_high c = search laws

pub returns : goal.returns
returns c = search laws
