use Rattle.std.proofs.Common.{rules}
use Rattle.text.proofs.LineLaws.{line_word, line_fields, line_end, line_put}
use Rattle.text.proofs.Text.put_item.Goals as goal

ruleset laws = (line_word, line_fields, line_end, line_put, rules)

pub put_word-requires : goal.put_word-requires
put_word-requires c = search laws

pub put_parts-requires : goal.put_parts-requires
put_parts-requires c = search laws

pub put_line_end-requires : goal.put_line_end-requires
put_line_end-requires c = search laws

pub returns : goal.returns
returns c = search laws
