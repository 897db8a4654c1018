use Rattle.std.proofs.Common.{rules}
use Rattle.ends.proofs.ClosingLaws.{v2_no_frame, v2_no_data, v2_whole}
use Rattle.wire.proofs.Stood.{uint32_near}
use Rattle.wire.proofs.Exits.{exits}
use Rattle.wire.proofs.BufferLaws.{places}
use Rattle.ends.proofs.read_closing_v2.Goals as goal

ruleset laws = (places, exits, v2_no_frame, v2_no_data, v2_whole, uint32_near, rules)

pub returns-in_err-frameLength : goal.returns-in_err-frameLength
returns-in_err-frameLength c = search laws

pub returns-in_err-suiteData : goal.returns-in_err-suiteData
returns-in_err-suiteData c = search laws

pub returns : goal.returns
returns c = search laws
