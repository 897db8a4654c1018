use Rattle.std.proofs.Common.{rules}
use Rattle.text.proofs.LineLaws.{line_word, line_fields, line_end, line_put}
use Rattle.listing_text.proofs.lines.put_header.Goals as goal

ruleset laws = (line_word, line_fields, line_end, line_put, rules)

pub put_word-requires : goal.put_word-requires
put_word-requires c = search laws

pub put_header_fields-requires : goal.put_header_fields-requires
put_header_fields-requires c = search laws

pub put_line_end-requires : goal.put_line_end-requires
put_line_end-requires c = search laws

pub returns : goal.returns
returns c = search laws
