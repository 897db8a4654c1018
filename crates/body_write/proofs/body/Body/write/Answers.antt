use Rattle.std.proofs.Common.{rules}
use Rattle.wire.proofs.Exits.{exits}
use Rattle.checks.proofs.Writers.{writes_error, sized_refuses, sized_28, sized_all}
use Rattle.body_write.proofs.Sizes.{sized_ready}
use Rattle.body_write.proofs.BodyStores.{image_stored}
use Rattle.body_write.proofs.body.Body.write.Goals as goal

ruleset laws = (exits, writes_error, sized_refuses, sized_28, sized_all, sized_ready, image_stored, rules)

pub returns-in_err-size : goal.returns-in_err-size
returns-in_err-size c = search laws

pub returns-then-out-size : goal.returns-then-out-size
returns-then-out-size c = search laws

pub put-requires : goal.put-requires
put-requires c = search laws

pub returns : goal.returns
returns c = search laws
