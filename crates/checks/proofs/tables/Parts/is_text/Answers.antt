use Rattle.std.proofs.Common.{ap, ◌∙◌}
use Rattle.format.specs.Utf8.{valid_utf8_seq}
use Rattle.checks.proofs.Writers.{whole_bytes}
use Rattle.checks.proofs.tables.Parts.is_text.Goals as goal

pub returns : goal.returns
returns c = c.part_is_utf8.ensures ∙ ap valid_utf8_seq (whole_bytes c.part-part.result.now ∙ c.part-part.ensures.same)
