use Rattle.std.proofs.Common.{rules}
use Rattle.body_write.proofs.SectionStores.{first_ready, second_starts, second_ready, sections_stored}
use Rattle.body_write.proofs.body.Body.put_sections.Goals as goal

ruleset laws = (first_ready, second_starts, second_ready, sections_stored, rules)

pub returns : goal.returns
returns c = search laws
